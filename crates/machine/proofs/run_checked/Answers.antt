-- The call is refused or begun, and then run.
use Rattle.std.proofs.Common.{refl, arith}
use Rattle.layout.proofs.Laws.{handed_on}
use Rattle.machine.proofs.Calls.{variables_stand, call_refused, can_begin, watched_small, call_startable, call_executed}
use Rattle.machine.proofs.run_checked.Goals as goal

pub check_call-requires : goal.check_call-requires
check_call-requires c = variables_stand c.args.p.now.passed c.args.p.now.laid_out

pub returns-in_err-check_call : goal.returns-in_err-check_call
returns-in_err-check_call c = rw (handed_on c.from_residual.result _ c.from_residual.ensures.1) (call_refused _ _ _ _ _ _ _ c.args.p.now.passed.passed c.in_err-check_call.ensures)

pub begin-unused-requires : goal.begin-unused-requires
begin-unused-requires c =
    let a = c.args in
    can_begin a.p.now.passed a.p.now.laid_out a.inputs.now a.registers.now a.values.now a.bases.now a.ends.now c.in_ok-check_call.ensures refl

pub overflow_cast-watched : goal.overflow_cast-watched
overflow_cast-watched c =
    let a = c.args in
    omega (arith, watched_small a.p.now.passed a.p.now.laid_out a.inputs.now a.registers.now a.values.now a.bases.now a.ends.now c.in_ok-check_call.ensures refl c.begin-unused.ensures c.requires)

pub run_commands-requires : goal.run_commands-requires
run_commands-requires c =
    let a = c.args in
    call_startable a.p.now.passed a.p.now.laid_out a.inputs.now a.registers.now a.values.now a.bases.now a.ends.now c.in_ok-check_call.ensures refl c.begin-unused.ensures c.requires refl

pub returns : goal.returns
returns c =
    let a = c.args in
    call_executed a.p.now.passed a.p.now.laid_out a.inputs.now a.registers.now a.values.now a.bases.now a.ends.now c.in_ok-check_call.ensures refl c.begin-unused.ensures c.requires refl c.run_commands.ensures
