-- `nodes::Node::malloc` meets its contract.
use Rattle.std.proofs.Common.{sym, refl}
use Rattle.semantics.specs.Table.{malloc, value}
use Rattle.nodes.proofs.Answers.{operands_failed, types_failed, typed, placed, only_child_of}
use Rattle.nodes.proofs.Node.malloc.Goals as goal

pub returns-in_err-only_child : goal.returns-in_err-only_child
returns-in_err-only_child c t p = operands_failed (placed p) malloc _ _ c.from_residual.result _ c.from_residual.ensures.1 (c.in_err-only_child.ensures.faults _ p.noted_to)

pub returns-in_err-require : goal.returns-in_err-require
returns-in_err-require c t p =
    let ok = sym (c.in_ok-only_child.ensures.faults _ p.noted_to) in
    types_failed (placed p) malloc _ _ c.from_residual-in_err-require.result _ c.from_residual-in_err-require.ensures.1 ok _ c.in_err-require.ensures.faults c.in_err-require.ensures.unmet (rw (← (only_child_of p value _ _ ok).array, ← c.type_of.ensures) c.in_err-require.ensures.unmet)

pub returns : goal.returns
returns c t p =
    let ok = sym (c.in_ok-only_child.ensures.faults _ p.noted_to) in
    typed (placed p) malloc _ _ ok (rw (← (only_child_of p value _ _ ok).array, ← c.type_of.ensures) c.in_ok-require.ensures.met) refl
