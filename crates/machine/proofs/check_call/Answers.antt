-- The lists and the inputs first; where they pass, the registers.
use Rattle.std.proofs.Common.{sym, ap, ◌∙◌, arith}
use Rattle.layout.specs.Refusals.{verdict_of}
use Rattle.layout.proofs.Laws.{handed_on}
use Rattle.semantics.proofs.Safety.{lent}
use Rattle.machine.proofs.Calls.{arguments_refused, registers_judged}
use Rattle.machine.proofs.check_call.Goals as goal

pub returns-in_err-check_arguments : goal.returns-in_err-check_arguments
returns-in_err-check_arguments c = ap verdict_of (handed_on c.from_residual.result _ c.from_residual.ensures.1) ∙ arguments_refused _ _ _ _ _ _ c.in_err-check_arguments.ensures

pub check_registers-requires : goal.check_registers-requires
check_registers-requires c = let h = lent _ _ _ _ _ (sym c.in_ok-check_arguments.ensures) in (c.requires, omega (arith, h.room), h.most)

pub returns : goal.returns
returns c = c.check_registers.ensures ∙ registers_judged _ _ _ _ _ _ c.in_ok-check_arguments.ensures
