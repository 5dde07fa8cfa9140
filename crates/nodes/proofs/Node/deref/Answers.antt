-- `nodes::Node::deref` meets its contract.
use Rattle.std.proofs.Common.{sym, true, false}
use Rattle.semantics.specs.Table.{deref, value}
use Rattle.nodes.proofs.Lookups.{int_to_type, to_type}
use Rattle.nodes.proofs.Answers.{operands_failed, types_failed, typed, placed, only_child_of, target_at}
use Rattle.nodes.proofs.Node.deref.Goals as goal

pub returns-in_err-only_child : goal.returns-in_err-only_child
returns-in_err-only_child c =
    let p = c.requires.0 in
    operands_failed (placed p) deref _ _ c.from_residual.result _ c.from_residual.ensures.1 (c.in_err-only_child.ensures.faults _ p.noted_to)

pub returns-in_err-require : goal.returns-in_err-require
returns-in_err-require c =
    let p = c.requires.0 in
    let ok = sym (c.in_ok-only_child.ensures.faults _ p.noted_to) in
    let child = only_child_of p value _ _ ok in
    types_failed (placed p) deref _ _ c.from_residual-in_err-require.result _ c.from_residual-in_err-require.ensures.1 ok _ c.in_err-require.ensures.faults c.in_err-require.ensures.unmet
    (rw (← child.array, ← c.type_of-pointer.ensures) (int_to_type _ _ c.in_err-require.ensures.unmet))

pub target-ty-requires : goal.target-ty-requires
target-ty-requires c =
    let p = c.requires.0 in
    target_at p (only_child_of p value _ _ (sym (c.in_ok-only_child.ensures.faults _ p.noted_to))) c.requires.1 c.type_of-pointer.ensures c.in_ok-require.ensures.met

pub returns-in_err-require-2 : goal.returns-in_err-require-2
returns-in_err-require-2 c =
    let p = c.requires.0 in
    let ok = sym (c.in_ok-only_child.ensures.faults _ p.noted_to) in
    let child = only_child_of p value _ _ ok in
    types_failed (placed p) deref _ _ c.from_residual-in_err-require-2.result _ c.from_residual-in_err-require-2.ensures.1 ok _ c.in_err-require-2.ensures.faults c.in_err-require-2.ensures.unmet
    (rw (← child.array, ← c.type_of-pointer.ensures) (to_type _ _ c.in_ok-require.ensures.met false c.target-ty.ensures c.in_err-require-2.ensures.unmet))

pub returns : goal.returns
returns c =
    let p = c.requires.0 in
    let ok = sym (c.in_ok-only_child.ensures.faults _ p.noted_to) in
    let child = only_child_of p value _ _ ok in
    typed (placed p) deref _ _ ok
    (rw (← child.array, ← c.type_of-pointer.ensures) (to_type _ _ c.in_ok-require.ensures.met true c.target-ty.ensures c.in_ok-require-2.ensures.met))
    (rw (c.target-ty.ensures, c.type_of-pointer.ensures, child.same))
