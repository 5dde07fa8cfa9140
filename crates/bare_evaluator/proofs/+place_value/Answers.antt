-- Each call is made for a child of the node, which is ready and stands before it, and what is answered is what the rules without bounds give.
use Rattle.std.proofs.Common.{ℕ, ◌≡◌, ◌≤◌, refl, arith, rules}
use Rattle.lookups.proofs.Nodes.{sums, copies}
use Rattle.lookups.proofs.Ready.{address_ready, cast_ready, constant_kind, constant_malloc, copy_asks, deref_ready, falls_to, field_child, field_ready, first_ready, is_copy, is_field, item_at, item_of, last_kinds, left_ready, note_of, read_ready, size_ready, step_ready}
use Rattle.lookups.proofs.Shortcuts.{is_constant, reads_noted, reads_variable}
use Rattle.bare_steps.specs.Answers.{state_of}
use Rattle.bare_evaluator.specs.Result.{ValueAnswered}
use Rattle.bare_evaluator.proofs.Evaluation.{right_ready, variable_kind, variable_small, sum_done, sum_ended, deref_answer, field_answer, field_ended, read_answer, address_answer, cast_answer, malloc_answer, size_answer, constant_answer, variable_answer, left_ended, both_answer}
use Rattle.bare_evaluator.proofs.+place_value.Goals as goal
use Rattle.bare_evaluator.proofs.+place_value.Goals.{place-In_default, place-Joined-of_variable-2, place-then-of_variable-2, place-else-of_variable-2, value-Joined-of_variable, value-then-of_variable, value-else-of_variable, value-In_default, value-Else-item-eq-MALLOC}

-- ---- a place

-- A node of no other kind is a field.
field_kind : (t : ℕ) (c : place-In_default t) → c.item.result ≡ 3
field_kind t c = is_field c.requires c.item.ensures (search rules) (search rules)

-- What a field's child was worked out to, whichever way was taken.
field_done : (t : ℕ) (c : place-Joined-of_variable-2 t)
    → ValueAnswered c.args.l.now (state_of c.args.m.now) c.child-c-in_default.result c.if-of_variable-2.v (state_of c.if-of_variable-2.m)
field_done t c = elim c.if-of_variable-2.branch [
  | place-then-of_variable-2 w ↦ rw (w.m-is, w.v-is) w.read_variable-v.ensures
  | place-else-of_variable-2 w ↦ rw (w.m-is, w.v-is) w.value-v.ensures.answered
]

pub place-item-requires : goal.place-item-requires
place-item-requires t c = item_at c.requires 0 (omega arith)

pub place-item-requires-in-1 : goal.place-item-requires-in-1
place-item-requires-in-1 t c = item_at c.requires 1 (omega arith)

pub place-child-c-requires : goal.place-child-c-requires
place-child-c-requires t c = item_at c.requires 1 (omega arith)

pub place-noted-requires : goal.place-noted-requires
place-noted-requires t c = note_of c.requires (deref_ready c.requires c.item.ensures c.in-2.is c.child-c.ensures)

pub place-read_variable-requires-clause-ready : goal.place-read_variable-requires-clause-ready
place-read_variable-requires-clause-ready t c = (deref_ready c.requires c.item.ensures c.in-2.is c.child-c.ensures).1

pub place-read_variable-requires-clause-reads : goal.place-read_variable-requires-clause-reads
place-read_variable-requires-clause-reads t c = reads_variable c.noted.ensures c.if-of_variable.true c.of_variable.ensures

pub place-returns-then-of_variable-clause-answered : goal.place-returns-then-of_variable-clause-answered
place-returns-then-of_variable-clause-answered t c = deref_answer c.item.ensures c.child-c.ensures c.in-2.is c.read_variable.ensures

pub place-value-requires : goal.place-value-requires
place-value-requires t c = falls_to c.decreases (deref_ready c.requires c.item.ensures c.in-2.is c.child-c.ensures)

pub place-child-c-requires-in_default : goal.place-child-c-requires-in_default
place-child-c-requires-in_default t c = item_at c.requires 1 (omega arith)

pub place-noted-requires-in_default : goal.place-noted-requires-in_default
place-noted-requires-in_default t c =
    let k = field_kind t (goal.at.place-noted-requires-in_default t c).In_default in
    note_of c.requires (field_child c.requires c.item.ensures k c.child-c-in_default.ensures)

pub place-read_variable-v-requires-clause-ready : goal.place-read_variable-v-requires-clause-ready
place-read_variable-v-requires-clause-ready t c =
    let k = field_kind t (goal.at.place-read_variable-v-requires-clause-ready t c).In_default in
    (field_child c.requires c.item.ensures k c.child-c-in_default.ensures).1

pub place-read_variable-v-requires-clause-reads : goal.place-read_variable-v-requires-clause-reads
place-read_variable-v-requires-clause-reads t c = reads_variable c.noted-in_default.ensures c.if-of_variable-2.true c.of_variable-in_default.ensures

pub place-value-v-requires : goal.place-value-v-requires
place-value-v-requires t c =
    let k = field_kind t (goal.at.place-value-v-requires t c).In_default in
    falls_to c.decreases (field_child c.requires c.item.ensures k c.child-c-in_default.ensures)

pub place-returns-then-v-ge-FULL-clause-answered : goal.place-returns-then-v-ge-FULL-clause-answered
place-returns-then-v-ge-FULL-clause-answered t c =
    let k = field_kind t (goal.at.place-returns-then-v-ge-FULL-clause-answered t c).In_default in
    let d = field_done t (goal.at.place-returns-then-v-ge-FULL-clause-answered t c).Joined-of_variable-2 in
    field_ended c.item.ensures c.child-c-in_default.ensures k d c.if-v-ge-FULL.true

pub place-offset-requires : goal.place-offset-requires
place-offset-requires t c = field_ready c.requires c.item.ensures (field_kind t (goal.at.place-offset-requires t c).In_default)

pub place-returns-in-1-clause-answered : goal.place-returns-in-1-clause-answered
place-returns-in-1-clause-answered t c =
    let k = variable_kind c.item.ensures c.in-1.is in
    variable_answer c.item-in-1.ensures k refl (omega (arith, variable_small c.requires k c.item-in-1.ensures))

pub place-returns-else-of_variable-clause-answered : goal.place-returns-else-of_variable-clause-answered
place-returns-else-of_variable-clause-answered t c = deref_answer c.item.ensures c.child-c.ensures c.in-2.is c.value.ensures.answered

pub place-returns-else-v-ge-FULL-clause-answered : goal.place-returns-else-v-ge-FULL-clause-answered
place-returns-else-v-ge-FULL-clause-answered t c =
    let k = field_kind t (goal.at.place-returns-else-v-ge-FULL-clause-answered t c).In_default in
    let d = field_done t (goal.at.place-returns-else-v-ge-FULL-clause-answered t c).Joined-of_variable-2 in
    field_answer c.item.ensures c.child-c-in_default.ensures k d c.offset.ensures refl c.if-v-ge-FULL.false c.add.ensures.0 c.add.ensures.1

-- ---- a value: constants and sums

-- What the left operand of a sum was worked out to, whichever way was taken.
left_done : (t : ℕ) (c : value-Joined-of_variable t)
    → ValueAnswered c.args.l.now (state_of c.args.m.now) c.child-c.result c.if-of_variable.v (state_of c.if-of_variable.m)
left_done t c = elim c.if-of_variable.branch [
  | value-then-of_variable w ↦ rw (w.m-is, w.v-is) w.read_variable-v.ensures
  | value-else-of_variable w ↦ rw (w.m-is, w.v-is) w.value-v.ensures.answered
]

pub value-item-requires : goal.value-item-requires
value-item-requires t c = item_at c.requires 0 (omega arith)

pub value-item-requires-in-4 : goal.value-item-requires-in-4
value-item-requires-in-4 t c = item_at c.requires 1 (omega arith)

pub value-child-c-requires : goal.value-child-c-requires
value-child-c-requires t c = item_at c.requires 1 (omega arith)

pub value-noted-requires : goal.value-noted-requires
value-noted-requires t c = note_of c.requires (left_ready c.requires c.item.ensures c.child-c.ensures sums c.in-5.is)

pub value-read_variable-v-requires-clause-ready : goal.value-read_variable-v-requires-clause-ready
value-read_variable-v-requires-clause-ready t c = (left_ready c.requires c.item.ensures c.child-c.ensures sums c.in-5.is).1

pub value-read_variable-v-requires-clause-reads : goal.value-read_variable-v-requires-clause-reads
value-read_variable-v-requires-clause-reads t c = reads_variable c.noted.ensures c.if-of_variable.true c.of_variable.ensures

pub value-value-v-requires : goal.value-value-v-requires
value-value-v-requires t c = falls_to c.decreases (left_ready c.requires c.item.ensures c.child-c.ensures sums c.in-5.is)

pub value-returns-then-v-ge-FULL-clause-answered : goal.value-returns-then-v-ge-FULL-clause-answered
value-returns-then-v-ge-FULL-clause-answered t c =
    left_ended sums c.item.ensures c.child-c.ensures c.in-5.is (left_done t (goal.at.value-returns-then-v-ge-FULL-clause-answered t c).Joined-of_variable) c.if-v-ge-FULL.true

pub value-child-requires : goal.value-child-requires
value-child-requires t c = item_at c.requires 1 (omega arith)

pub value-type_of-requires : goal.value-type_of-requires
value-type_of-requires t c = note_of c.requires (left_ready c.requires c.item.ensures c.child.ensures sums c.in-5.is)

pub value-step-by-requires : goal.value-step-by-requires
value-step-by-requires t c = step_ready c.requires c.item.ensures c.child.ensures sums c.in-5.is c.type_of.ensures

pub value-child-d-requires : goal.value-child-d-requires
value-child-d-requires t c = item_at c.requires 2 (omega arith)

pub value-noted-requires-in-5 : goal.value-noted-requires-in-5
value-noted-requires-in-5 t c =
    let d = left_done t (goal.at.value-noted-requires-in-5 t c).Joined-of_variable in
    note_of c.requires (right_ready sums c.requires c.item.ensures c.in-5.is c.child-d.ensures d)

pub value-item-requires-then-is_constant : goal.value-item-requires-then-is_constant
value-item-requires-then-is_constant t c =
    let d = left_done t (goal.at.value-item-requires-then-is_constant t c).Joined-of_variable in
    item_of c.requires (right_ready sums c.requires c.item.ensures c.in-5.is c.child-d.ensures d) 1 (omega arith)

pub value-returns-then-is_constant-clause-answered : goal.value-returns-then-is_constant-clause-answered
value-returns-then-is_constant-clause-answered t c =
    let d = left_done t (goal.at.value-returns-then-is_constant-clause-answered t c).Joined-of_variable in
    both_answer sums c.item.ensures c.child-c.ensures c.in-5.is d c.child-d.ensures c.if-v-ge-FULL.false c.child.ensures c.type_of.ensures c.step-by.ensures
    (constant_answer c.item-then-is_constant.ensures (is_constant c.noted-in-5.ensures c.if-is_constant.true c.is_constant.ensures) refl (omega arith))
    (sum_done _ _ (omega arith) c.add.ensures.0 c.add.ensures.1)

pub value-value-w-requires : goal.value-value-w-requires
value-value-w-requires t c =
    let d = left_done t (goal.at.value-value-w-requires t c).Joined-of_variable in
    falls_to c.decreases (right_ready sums c.requires c.item.ensures c.in-5.is c.child-d.ensures d)

pub value-returns-then-w-ge-FULL-clause-answered : goal.value-returns-then-w-ge-FULL-clause-answered
value-returns-then-w-ge-FULL-clause-answered t c =
    let d = left_done t (goal.at.value-returns-then-w-ge-FULL-clause-answered t c).Joined-of_variable in
    both_answer sums c.item.ensures c.child-c.ensures c.in-5.is d c.child-d.ensures c.if-v-ge-FULL.false c.child.ensures c.type_of.ensures c.step-by.ensures c.value-w.ensures.answered
    (sum_ended _ _ c.if-w-ge-FULL.true)

-- ---- reads, addresses, casts and sizes

pub value-child-c-requires-in-6 : goal.value-child-c-requires-in-6
value-child-c-requires-in-6 t c = item_at c.requires 1 (omega arith)

pub value-noted-requires-in-6 : goal.value-noted-requires-in-6
value-noted-requires-in-6 t c = note_of c.requires (read_ready c.requires c.item.ensures c.child-c-in-6.ensures c.in-6.is)

pub value-read_variable-requires-clause-reads : goal.value-read_variable-requires-clause-reads
value-read_variable-requires-clause-reads t c = reads_noted c.item.ensures c.in-6.is c.child-c-in-6.ensures c.noted-in-6.ensures c.if-of_variable-2.true c.of_variable-in-6.ensures

pub value-place-at-requires : goal.value-place-at-requires
value-place-at-requires t c = falls_to c.decreases (read_ready c.requires c.item.ensures c.child-c-in-6.ensures c.in-6.is)

pub value-child-requires-in-7 : goal.value-child-requires-in-7
value-child-requires-in-7 t c = item_at c.requires 1 (omega arith)

pub value-place-requires : goal.value-place-requires
value-place-requires t c = falls_to c.decreases (address_ready c.requires c.item.ensures c.child-in-7.ensures c.in-7.is)

pub value-child-requires-in-8 : goal.value-child-requires-in-8
value-child-requires-in-8 t c = item_at c.requires 1 (omega arith)

pub value-value-requires : goal.value-value-requires
value-value-requires t c = falls_to c.decreases (cast_ready c.requires c.item.ensures c.child-in-8.ensures c.in-8.is)

pub value-item-requires-in-9 : goal.value-item-requires-in-9
value-item-requires-in-9 t c = item_at c.requires 1 (omega arith)

pub value-size_of-requires : goal.value-size_of-requires
value-size_of-requires t c = rw c.item-in-9.ensures (size_ready c.requires c.item.ensures c.in-9.is).1

-- ---- allocations and copies

-- A value of no other kind is one of them.
last : (t : ℕ) (c : value-In_default t) → (10 ≤ c.item.result) × (c.item.result ≤ 11)
last t c = last_kinds c.requires c.item.ensures (search rules) (search rules) (search rules) (search rules) (search rules) (search rules)

-- What is no allocation is a copy.
copy_kind : (t : ℕ) (c : value-Else-item-eq-MALLOC t) → c.item.result ≡ 11
copy_kind t c =
    is_copy c.requires c.item.ensures (last_kinds c.requires c.item.ensures (search rules) (search rules) (search rules) (search rules) (search rules) (search rules)) c.item-in_default.ensures c.if-item-eq-MALLOC.false

pub value-child-c-requires-in_default : goal.value-child-c-requires-in_default
value-child-c-requires-in_default t c = item_at c.requires 1 (omega arith)

pub value-noted-requires-in_default : goal.value-noted-requires-in_default
value-noted-requires-in_default t c =
    note_of c.requires (first_ready c.requires c.item.ensures c.child-c-in_default.ensures (last t (goal.at.value-noted-requires-in_default t c).In_default))

pub value-item-requires-then-is_constant-2 : goal.value-item-requires-then-is_constant-2
value-item-requires-then-is_constant-2 t c =
    item_of c.requires (first_ready c.requires c.item.ensures c.child-c-in_default.ensures (last t (goal.at.value-item-requires-then-is_constant-2 t c).In_default)) 1 (omega arith)

pub value-returns-then-is_constant-2-clause-answered : goal.value-returns-then-is_constant-2-clause-answered
value-returns-then-is_constant-2-clause-answered t c =
    let kinds = last t (goal.at.value-returns-then-is_constant-2-clause-answered t c).In_default in
    let noted = is_constant c.noted-in_default.ensures c.if-is_constant-2.true c.is_constant-in_default.ensures in
    malloc_answer c.item.ensures c.child-c-in_default.ensures (constant_malloc c.requires c.item.ensures c.child-c-in_default.ensures kinds noted)
    (constant_answer c.item-then-is_constant-2.ensures noted refl (omega arith)) c.allocate.ensures.finishes

pub value-value-v-requires-in_default : goal.value-value-v-requires-in_default
value-value-v-requires-in_default t c =
    falls_to c.decreases (first_ready c.requires c.item.ensures c.child-c-in_default.ensures (last t (goal.at.value-value-v-requires-in_default t c).In_default))

pub value-item-requires-in_default : goal.value-item-requires-in_default
value-item-requires-in_default t c = item_at c.requires 0 (omega arith)

pub value-returns-then-item-eq-MALLOC-clause-answered : goal.value-returns-then-item-eq-MALLOC-clause-answered
value-returns-then-item-eq-MALLOC-clause-answered t c =
    malloc_answer c.item-in_default.ensures c.child-c-in_default.ensures c.if-item-eq-MALLOC.true c.value-v-in_default.ensures.answered c.allocate-then-item-eq-MALLOC.ensures.finishes

pub value-returns-then-v-ge-FULL-2-clause-answered : goal.value-returns-then-v-ge-FULL-2-clause-answered
value-returns-then-v-ge-FULL-2-clause-answered t c =
    let k = copy_kind t (goal.at.value-returns-then-v-ge-FULL-2-clause-answered t c).Else-item-eq-MALLOC in
    left_ended copies c.item.ensures c.child-c-in_default.ensures k c.value-v-in_default.ensures.answered c.if-v-ge-FULL-2.true

pub value-child-requires-in_default : goal.value-child-requires-in_default
value-child-requires-in_default t c = item_at c.requires 1 (omega arith)

pub value-type_of-requires-in_default : goal.value-type_of-requires-in_default
value-type_of-requires-in_default t c =
    let k = copy_kind t (goal.at.value-type_of-requires-in_default t c).Else-item-eq-MALLOC in
    note_of c.requires (left_ready c.requires c.item.ensures c.child-in_default.ensures copies k)

pub value-step-k-requires : goal.value-step-k-requires
value-step-k-requires t c =
    let k = copy_kind t (goal.at.value-step-k-requires t c).Else-item-eq-MALLOC in
    step_ready c.requires c.item.ensures c.child-in_default.ensures copies k c.type_of-in_default.ensures

pub value-child-requires-in_default-2 : goal.value-child-requires-in_default-2
value-child-requires-in_default-2 t c = item_at c.requires 2 (omega arith)

pub value-value-w-requires-in_default : goal.value-value-w-requires-in_default
value-value-w-requires-in_default t c =
    let k = copy_kind t (goal.at.value-value-w-requires-in_default t c).Else-item-eq-MALLOC in
    falls_to c.decreases (right_ready copies c.requires c.item.ensures k c.child-in_default-2.ensures c.value-v-in_default.ensures.answered)

pub value-copy-requires : goal.value-copy-requires
value-copy-requires t c =
    let k = copy_kind t (goal.at.value-copy-requires t c).Else-item-eq-MALLOC in
    (copy_asks c.requires c.item.ensures c.child-in_default.ensures k c.type_of-in_default.ensures c.step-k.ensures, c.if-v-ge-FULL-2.false)

-- ---- what is answered where no way returned before

pub value-returns-in-4-clause-answered : goal.value-returns-in-4-clause-answered
value-returns-in-4-clause-answered t c = constant_answer c.item-in-4.ensures (λ t lists node. constant_kind lists node c.item.ensures c.in-4.is) refl (omega arith)

pub value-returns-else-w-ge-FULL-clause-answered : goal.value-returns-else-w-ge-FULL-clause-answered
value-returns-else-w-ge-FULL-clause-answered t c =
    let d = left_done t (goal.at.value-returns-else-w-ge-FULL-clause-answered t c).Joined-of_variable in
    both_answer sums c.item.ensures c.child-c.ensures c.in-5.is d c.child-d.ensures c.if-v-ge-FULL.false c.child.ensures c.type_of.ensures c.step-by.ensures c.value-w.ensures.answered
    (sum_done _ _ c.if-w-ge-FULL.false c.add-in-5.ensures.0 c.add-in-5.ensures.1)

pub value-returns-else-of_variable-2-clause-answered : goal.value-returns-else-of_variable-2-clause-answered
value-returns-else-of_variable-2-clause-answered t c = read_answer c.item.ensures c.child-c-in-6.ensures c.in-6.is c.place-at.ensures.answered c.load.ensures

pub value-returns-in-7-clause-answered : goal.value-returns-in-7-clause-answered
value-returns-in-7-clause-answered t c = address_answer c.item.ensures c.child-in-7.ensures c.in-7.is c.place.ensures.answered

pub value-returns-in-8-clause-answered : goal.value-returns-in-8-clause-answered
value-returns-in-8-clause-answered t c = cast_answer c.item.ensures c.child-in-8.ensures c.in-8.is c.value.ensures.answered

pub value-returns-in-9-clause-answered : goal.value-returns-in-9-clause-answered
value-returns-in-9-clause-answered t c = size_answer c.item.ensures c.item-in-9.ensures c.in-9.is c.size_of.ensures (omega arith)

pub value-returns-else-v-ge-FULL-2-clause-answered : goal.value-returns-else-v-ge-FULL-2-clause-answered
value-returns-else-v-ge-FULL-2-clause-answered t c =
    let k = copy_kind t (goal.at.value-returns-else-v-ge-FULL-2-clause-answered t c).Else-item-eq-MALLOC in
    both_answer copies c.item.ensures c.child-c-in_default.ensures k c.value-v-in_default.ensures.answered c.child-in_default-2.ensures c.if-v-ge-FULL-2.false c.child-in_default.ensures c.type_of-in_default.ensures c.step-k.ensures
    c.value-w-in_default.ensures.answered c.copy.ensures.finishes
