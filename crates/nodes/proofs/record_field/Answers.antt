-- `nodes::record_field` meets its contract.
use Rattle.std.proofs.Common.{arith, sym, ◌∙◌, ltb-true, ltb-false}
use Rattle.nodes.proofs.Answers.{fault_same}
use Rattle.layout.proofs.Laws.{outcome_on}
use Rattle.nodes.proofs.Lookups.{record_at, no_field, field_is, field_type_at}
use Rattle.nodes.proofs.record_field.Goals as goal

pub offset_bounds-first-r : goal.offset_bounds-first-r
offset_bounds-first-r c = omega (arith, record_at c.requires.0 c.args.r c.requires.1)

pub bounds-first-r : goal.bounds-first-r
bounds-first-r c = omega (arith, record_at c.requires.0 c.args.r c.requires.1)

pub overflow_add-r : goal.overflow_add-r
overflow_add-r c = omega (arith, record_at c.requires.0 c.args.r c.requires.1)

pub offset_bounds-first-r-2 : goal.offset_bounds-first-r-2
offset_bounds-first-r-2 c = omega (arith, record_at c.requires.0 c.args.r c.requires.1)

pub bounds-first-r-2 : goal.bounds-first-r-2
bounds-first-r-2 c = omega (arith, record_at c.requires.0 c.args.r c.requires.1)

pub returns-in_err-require : goal.returns-in_err-require
returns-in_err-require c =
    let h = record_at c.requires.0 c.args.r c.requires.1 in
    let none = ltb-false _ _ c.in_err-require.ensures.unmet in
    outcome_on c.from_residual.result _ c.from_residual.ensures.1 (fault_same _ 8 _ c.in_err-require.ensures.faults c.in_err-require.ensures.unmet ∙ no_field _ _ _ _ (omega arith))

pub overflow_add-result : goal.overflow_add-result
overflow_add-result c = omega (arith, record_at c.requires.0 c.args.r c.requires.1)

pub offset_bounds-t-fields : goal.offset_bounds-t-fields
offset_bounds-t-fields c = let some = ltb-true _ _ c.in_ok-require.ensures.met in omega (arith, record_at c.requires.0 c.args.r c.requires.1)

pub bounds-t-fields : goal.bounds-t-fields
bounds-t-fields c = let some = ltb-true _ _ c.in_ok-require.ensures.met in omega (arith, record_at c.requires.0 c.args.r c.requires.1)

pub returns : goal.returns
returns c =
    let h = record_at c.requires.0 c.args.r c.requires.1 in
    let some = ltb-true _ _ c.in_ok-require.ensures.met in
    field_is _ _ _ _ _ (omega arith) (sym (field_type_at _ _ _ _ _ c.requires.0.start (omega arith)))
