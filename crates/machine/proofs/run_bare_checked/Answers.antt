-- The bare call is refused or begun, and then run.
use Rattle.std.proofs.Common.{refl}
use Rattle.layout.proofs.Laws.{handed_on}
use Rattle.machine.proofs.Calls.{variables_stand, can_begin}
use Rattle.machine.proofs.Bare.{bare_call_refused, bare_call_executed, bare_startable}
use Rattle.machine.proofs.run_bare_checked.Goals as goal

pub check_call-requires : goal.check_call-requires
check_call-requires c = variables_stand c.args.p.now.passed c.args.p.now.laid_out

pub returns-in_err-check_call : goal.returns-in_err-check_call
returns-in_err-check_call c = rw (handed_on c.from_residual.result _ c.from_residual.ensures.1) (bare_call_refused _ _ _ _ c.args.p.now.passed.passed c.in_err-check_call.ensures)

pub begin_bare-unused-requires : goal.begin_bare-unused-requires
begin_bare-unused-requires c =
    let a = c.args in
    can_begin a.p.now.passed a.p.now.laid_out a.inputs.now a.registers.now a.values.now a.values.now a.values.now c.in_ok-check_call.ensures refl

pub run_bare_commands-requires : goal.run_bare_commands-requires
run_bare_commands-requires c =
    let a = c.args in
    let begun = can_begin a.p.now.passed a.p.now.laid_out a.inputs.now a.registers.now a.values.now a.values.now a.values.now c.in_ok-check_call.ensures refl in
    let k = bare_startable _ begun (variables_stand a.p.now.passed a.p.now.laid_out).total c.begin_bare-unused.ensures in
    record { room = k.0; most = k.1 }

pub returns : goal.returns
returns c =
    let a = c.args in
    bare_call_executed a.p.now.passed.passed c.in_ok-check_call.ensures (variables_stand a.p.now.passed a.p.now.laid_out).total c.begin_bare-unused.ensures c.run_bare_commands.ensures
