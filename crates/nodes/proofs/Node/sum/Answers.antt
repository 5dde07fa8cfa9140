-- `nodes::Node::sum` meets its contract.
use Rattle.std.proofs.Common.{sym, ◌∙◌}
use Rattle.semantics.specs.Table.{sum, value}
use Rattle.layout.proofs.Laws.{require_holds}
use Rattle.nodes.proofs.Answers.{both_pass, first_failed, second_failed, types_failed, typed, placed, child_of}
use Rattle.nodes.proofs.Node.sum.Goals as goal

pub returns-in_err-require : goal.returns-in_err-require
returns-in_err-require c t p = first_failed (placed p) sum _ _ c.from_residual.result _ c.from_residual.ensures.1 (rw (c.is_child.ensures.sorted _ p.noted_to) at c.in_err-require.ensures.faults)

pub returns-in_err-require-2 : goal.returns-in_err-require-2
returns-in_err-require-2 c t p =
    let left = sym (c.is_child.ensures.sorted _ p.noted_to) ∙ c.in_ok-require.ensures.met in
    second_failed (placed p) sum _ _ c.from_residual-in_err-require-2.result _ c.from_residual-in_err-require-2.ensures.1 (require_holds _ 7 _ left) (rw (c.is_child-2.ensures.sorted _ p.noted_to) at c.in_err-require-2.ensures.faults)

pub returns-in_err-require-3 : goal.returns-in_err-require-3
returns-in_err-require-3 c t p =
    let left = sym (c.is_child.ensures.sorted _ p.noted_to) ∙ c.in_ok-require.ensures.met in
    let right = sym (c.is_child-2.ensures.sorted _ p.noted_to) ∙ c.in_ok-require-2.ensures.met in
    types_failed (placed p) sum _ _ c.from_residual-in_err-require-3.result _ c.from_residual-in_err-require-3.ensures.1 (both_pass (require_holds _ 7 _ left) (require_holds _ 7 _ right))
    _ c.in_err-require-3.ensures.faults c.in_err-require-3.ensures.unmet (rw (← (child_of p value right).array, ← c.type_of.ensures) c.in_err-require-3.ensures.unmet)

pub returns : goal.returns
returns c t p =
    let left = sym (c.is_child.ensures.sorted _ p.noted_to) ∙ c.in_ok-require.ensures.met in
    let right = sym (c.is_child-2.ensures.sorted _ p.noted_to) ∙ c.in_ok-require-2.ensures.met in
    typed (placed p) sum _ _ (both_pass (require_holds _ 7 _ left) (require_holds _ 7 _ right)) (rw (← (child_of p value right).array, ← c.type_of.ensures) c.in_ok-require-3.ensures.met)
    (c.type_of-2.ensures ∙ (child_of p value left).same)
