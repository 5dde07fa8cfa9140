-- `nodes::Node::copy` meets its contract.
use Rattle.std.proofs.Common.{sym, ◌∙◌, refl, true, false}
use Rattle.semantics.specs.Table.{copy, value}
use Rattle.layout.proofs.Laws.{require_holds}
use Rattle.nodes.proofs.Lookups.{int_to_record, to_record}
use Rattle.nodes.proofs.Answers.{both_pass, first_failed, second_failed, types_failed, typed, placed, child_of, target_at}
use Rattle.nodes.proofs.Node.copy.Goals as goal

pub returns-in_err-require : goal.returns-in_err-require
returns-in_err-require c = let p = c.requires.0 in first_failed (placed p) copy _ _ c.from_residual.result _ c.from_residual.ensures.1 (rw (c.is_child.ensures.sorted _ p.noted_to) at c.in_err-require.ensures.faults)

pub returns-in_err-require-2 : goal.returns-in_err-require-2
returns-in_err-require-2 c =
    let p = c.requires.0 in
    let left = sym (c.is_child.ensures.sorted _ p.noted_to) ∙ c.in_ok-require.ensures.met in
    second_failed (placed p) copy _ _ c.from_residual-in_err-require-2.result _ c.from_residual-in_err-require-2.ensures.1 (require_holds _ 7 _ left) (rw (c.is_child-2.ensures.sorted _ p.noted_to) at c.in_err-require-2.ensures.faults)

pub returns-in_err-require-3 : goal.returns-in_err-require-3
returns-in_err-require-3 c =
    let p = c.requires.0 in
    let left = sym (c.is_child.ensures.sorted _ p.noted_to) ∙ c.in_ok-require.ensures.met in
    let right = sym (c.is_child-2.ensures.sorted _ p.noted_to) ∙ c.in_ok-require-2.ensures.met in
    types_failed (placed p) copy _ _ c.from_residual-in_err-require-3.result _ c.from_residual-in_err-require-3.ensures.1 (both_pass (require_holds _ 7 _ left) (require_holds _ 7 _ right))
    _ c.in_err-require-3.ensures.faults c.in_err-require-3.ensures.unmet (rw (← (child_of p value left).array, ← c.type_of-pointer.ensures, int_to_record c.args.t.now c.type_of-pointer.result c.in_err-require-3.ensures.unmet))

pub target-requires : goal.target-requires
target-requires c =
    let p = c.requires.0 in
    let left = sym (c.is_child.ensures.sorted _ p.noted_to) ∙ c.in_ok-require.ensures.met in
    target_at p (child_of p value left) c.requires.1 c.type_of-pointer.ensures c.in_ok-require-3.ensures.met

pub returns-in_err-require-4 : goal.returns-in_err-require-4
returns-in_err-require-4 c =
    let p = c.requires.0 in
    let left = sym (c.is_child.ensures.sorted _ p.noted_to) ∙ c.in_ok-require.ensures.met in
    let right = sym (c.is_child-2.ensures.sorted _ p.noted_to) ∙ c.in_ok-require-2.ensures.met in
    types_failed (placed p) copy _ _ c.from_residual-in_err-require-4.result _ c.from_residual-in_err-require-4.ensures.1 (both_pass (require_holds _ 7 _ left) (require_holds _ 7 _ right))
    _ c.in_err-require-4.ensures.faults c.in_err-require-4.ensures.unmet (rw (← (child_of p value left).array, ← c.type_of-pointer.ensures, to_record c.args.t.now c.type_of-pointer.result c.in_ok-require-3.ensures.met false c.target.ensures c.in_err-require-4.ensures.unmet))

pub returns-in_err-require-5 : goal.returns-in_err-require-5
returns-in_err-require-5 c =
    let p = c.requires.0 in
    let left = sym (c.is_child.ensures.sorted _ p.noted_to) ∙ c.in_ok-require.ensures.met in
    let right = sym (c.is_child-2.ensures.sorted _ p.noted_to) ∙ c.in_ok-require-2.ensures.met in
    types_failed (placed p) copy _ _ c.from_residual-in_err-require-5.result _ c.from_residual-in_err-require-5.ensures.1 (both_pass (require_holds _ 7 _ left) (require_holds _ 7 _ right))
    _ c.in_err-require-5.ensures.faults c.in_err-require-5.ensures.unmet
    (rw (← (child_of p value left).array, ← c.type_of-pointer.ensures, ← (child_of p value right).array, ← c.type_of.ensures, to_record c.args.t.now c.type_of-pointer.result c.in_ok-require-3.ensures.met true c.target.ensures c.in_ok-require-4.ensures.met) c.in_err-require-5.ensures.unmet)

pub returns : goal.returns
returns c =
    let p = c.requires.0 in
    let left = sym (c.is_child.ensures.sorted _ p.noted_to) ∙ c.in_ok-require.ensures.met in
    let right = sym (c.is_child-2.ensures.sorted _ p.noted_to) ∙ c.in_ok-require-2.ensures.met in
    typed (placed p) copy _ _ (both_pass (require_holds _ 7 _ left) (require_holds _ 7 _ right))
    (rw (← (child_of p value left).array, ← c.type_of-pointer.ensures, ← (child_of p value right).array, ← c.type_of.ensures, to_record c.args.t.now c.type_of-pointer.result c.in_ok-require-3.ensures.met true c.target.ensures c.in_ok-require-4.ensures.met) c.in_ok-require-5.ensures.met)
    refl
