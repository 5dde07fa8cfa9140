-- `nodes::Node::read` meets its contract.
use Rattle.std.proofs.Common.{sym, ◌∙◌, refl}
use Rattle.semantics.specs.Table.{read, place}
use Rattle.nodes.proofs.Answers.{operands_failed, typed, placed, only_child_of}
use Rattle.nodes.proofs.Node.read.Goals as goal

pub returns-in_err-only_child : goal.returns-in_err-only_child
returns-in_err-only_child c t p = operands_failed (placed p) read _ _ c.from_residual.result _ c.from_residual.ensures.1 (c.in_err-only_child.ensures.faults _ p.noted_to)

pub returns : goal.returns
returns c t p =
    let ok = sym (c.in_ok-only_child.ensures.faults _ p.noted_to) in
    typed (placed p) read _ _ ok refl (c.type_of.ensures ∙ (only_child_of p place _ _ ok).same)
