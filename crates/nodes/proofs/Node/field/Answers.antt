-- `nodes::Node::field` meets its contract.
use Rattle.std.proofs.Common.{sym, ◌∙◌, refl, ◌≡◌, true, false}
use Rattle.semantics.specs.Table.{field, value, node_type, pointed_record}
use Rattle.layout.proofs.Laws.{require_holds}
use Rattle.nodes.proofs.Lookups.{int_to_record, to_record, record_less}
use Rattle.nodes.proofs.Answers.{both_pass, first_failed, types_failed, placed, child_of, target_at, by_record}
use Rattle.nodes.proofs.Node.field.Goals as goal

pub returns-in_err-require : goal.returns-in_err-require
returns-in_err-require c = let p = c.requires.0 in first_failed (placed p) field _ _ c.from_residual.result _ c.from_residual.ensures.1 (rw (c.is_child.ensures.sorted _ p.noted_to) at c.in_err-require.ensures.faults)

pub returns-in_err-require-2 : goal.returns-in_err-require-2
returns-in_err-require-2 c =
    let p = c.requires.0 in
    let left = sym (c.is_child.ensures.sorted _ p.noted_to) ∙ c.in_ok-require.ensures.met in
    types_failed (placed p) field _ _ c.from_residual-in_err-require-2.result _ c.from_residual-in_err-require-2.ensures.1 (both_pass (require_holds _ 7 _ left) refl)
    _ c.in_err-require-2.ensures.faults c.in_err-require-2.ensures.unmet (rw (← (child_of p value left).array, ← c.type_of-pointer.ensures, int_to_record c.args.t.now c.type_of-pointer.result c.in_err-require-2.ensures.unmet))

pub target-pointed-requires : goal.target-pointed-requires
target-pointed-requires c =
    let p = c.requires.0 in
    let left = sym (c.is_child.ensures.sorted _ p.noted_to) ∙ c.in_ok-require.ensures.met in
    target_at p (child_of p value left) c.requires.1 c.type_of-pointer.ensures c.in_ok-require-2.ensures.met

pub returns-in_err-require-3 : goal.returns-in_err-require-3
returns-in_err-require-3 c =
    let p = c.requires.0 in
    let left = sym (c.is_child.ensures.sorted _ p.noted_to) ∙ c.in_ok-require.ensures.met in
    types_failed (placed p) field _ _ c.from_residual-in_err-require-3.result _ c.from_residual-in_err-require-3.ensures.1 (both_pass (require_holds _ 7 _ left) refl)
    _ c.in_err-require-3.ensures.faults c.in_err-require-3.ensures.unmet
    (rw (← (child_of p value left).array, ← c.type_of-pointer.ensures, to_record c.args.t.now c.type_of-pointer.result c.in_ok-require-2.ensures.met false c.target-pointed.ensures c.in_err-require-3.ensures.unmet))

pub record_field-requires : goal.record_field-requires
record_field-requires c =
    let p = c.requires.0 in
    let left = sym (c.is_child.ensures.sorted _ p.noted_to) ∙ c.in_ok-require.ensures.met in
    let child = child_of p value left in
    (c.requires.2, record_less p.noted_to.types_pass c.type_of-pointer.result (rw (c.type_of-pointer.ensures, child.array) child.known) c.in_ok-require-2.ensures.met c.target-pointed.ensures c.in_ok-require-3.ensures.met)

pub returns : goal.returns
unfolding pointed_record
returns c =
    let p = c.requires.0 in
    let left = sym (c.is_child.ensures.sorted _ p.noted_to) ∙ c.in_ok-require.ensures.met in
    let child = child_of p value left in
    let type : c.type_of-pointer.result ≡ node_type c.args.t.now c.args.self.now.a = c.type_of-pointer.ensures ∙ child.array in
    c.record_field.ensures
    ∙ by_record (placed p) _ _ _ (both_pass (require_holds _ 7 _ left) refl)
    (rw (← type) (to_record _ _ c.in_ok-require-2.ensures.met true c.target-pointed.ensures c.in_ok-require-3.ensures.met)) (rw (← type, c.target-pointed.ensures)) (sym child.array ∙ child.same)
