-- What is required of a command is its verdict.
use Rattle.std.proofs.Common.{sym, ◌∙◌, refl}
use Rattle.layout.proofs.Laws.{verdict_on, or_else_pass, or_else_refuse}
use Rattle.nodes.proofs.Sorts.{child_type}
use Rattle.table.proofs.Commands.{command_by}
use Rattle.table.proofs.check_command.Goals as goal

pub returns-in_err-require : goal.returns-in_err-require
returns-in_err-require c t h e =
    let verdict = command_by t _ c.args.place c.args.x c.args.v e (c.is_child-left.ensures.sorted t h) refl refl in
    verdict_on c.from_residual.result _ c.from_residual.ensures.1 (sym (sym verdict ∙ or_else_refuse _ _ (sym c.in_err-require.ensures.faults)))

pub returns-in_err-require-2 : goal.returns-in_err-require-2
returns-in_err-require-2 c t h e =
    let verdict = command_by t _ c.args.place c.args.x c.args.v e (c.is_child-left.ensures.sorted t h) (c.is_child-right.ensures.sorted t h) refl in
    let on = c.from_residual-in_err-require-2 in
    verdict_on on.result _ on.ensures.1 (sym (sym verdict ∙ or_else_pass _ _ (sym c.in_ok-require.ensures.faults) ∙ or_else_refuse _ _ (sym c.in_err-require-2.ensures.faults)))

pub returns : goal.returns
returns c t h e =
    let tx = c.type_of.ensures ∙ child_type h _ (c.is_child-left.ensures.below c.in_ok-require.ensures.met) in
    let tv = c.type_of-2.ensures ∙ child_type h _ (c.is_child-right.ensures.below c.in_ok-require-2.ensures.met) in
    let verdict = command_by t _ c.args.place c.args.x c.args.v e (c.is_child-left.ensures.sorted t h) (c.is_child-right.ensures.sorted t h) (rw (tx, tv) refl) in
    c.require-3.ensures.faults ∙ sym (sym verdict ∙ or_else_pass _ _ (sym c.in_ok-require.ensures.faults) ∙ or_else_pass _ _ (sym c.in_ok-require-2.ensures.faults))
