-- The lengths of the three lists, then the number of inputs, then each input.
use Rattle.std.proofs.Common.{◌∙◌, sym}
use Rattle.layout.proofs.Laws.{or_else_pass, or_else_refuse, verdict_on}
use Rattle.arguments.proofs.Arguments.{arguments_by}
use Rattle.arguments.proofs.check_arguments.Goals as goal

pub returns-in_err-require : goal.returns-in_err-require
returns-in_err-require c =
    verdict_on c.from_residual.result _ c.from_residual.ensures.1
    (sym (or_else_refuse _ _ (sym c.in_err-require.ensures.faults)) ∙ arguments_by _ _ _ _ _ c.requires.total c.lengths_fit-fit.ensures)

pub returns-in_err-require-2 : goal.returns-in_err-require-2
returns-in_err-require-2 c =
    let on = c.from_residual-in_err-require-2 in
    verdict_on on.result _ on.ensures.1
    (sym (or_else_pass _ _ (sym c.in_ok-require.ensures.faults) ∙ or_else_refuse _ _ (sym c.in_err-require-2.ensures.faults))
    ∙ arguments_by _ _ _ _ _ c.requires.total c.lengths_fit-fit.ensures)

pub returns : goal.returns
returns c =
    c.check_inputs.ensures ∙ sym (or_else_pass _ _ (sym c.in_ok-require.ensures.faults) ∙ or_else_pass _ _ (sym c.in_ok-require-2.ensures.faults))
    ∙ arguments_by _ _ _ _ _ c.requires.total c.lengths_fit-fit.ensures
