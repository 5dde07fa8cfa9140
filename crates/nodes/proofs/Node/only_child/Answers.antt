-- `nodes::Node::only_child` meets its contract.
use Rattle.std.proofs.Common.{sym, ◌∙◌, ap}
use Rattle.layout.specs.Refusals.{verdict_of}
use Rattle.layout.proofs.Laws.{handed_on, or_else_pass, or_else_refuse}
use Rattle.nodes.proofs.Node.only_child.Goals as goal

pub returns-in_err-require-clause-faults : goal.returns-in_err-require-clause-faults
returns-in_err-require-clause-faults c t h =
    ap verdict_of (handed_on c.from_residual.result _ c.from_residual.ensures.1) ∙ sym (or_else_refuse _ _ (sym (rw (c.is_child.ensures.sorted t h) at c.in_err-require.ensures.faults)))

pub returns-clause-faults : goal.returns-clause-faults
returns-clause-faults c t h = c.require-2.ensures.faults ∙ sym (or_else_pass _ _ (sym (rw (c.is_child.ensures.sorted t h) at c.in_ok-require.ensures.faults)))
