-- Each call is made for a child of the node, which is ready and stands before it, and what is answered is what the rules give.
use Rattle.std.proofs.Common.{ℕ, ◌≡◌, ◌%◌, ◌≤◌, refl, sym, ap, ◌∙◌, arith, rules}
use Rattle.evaluator.specs.Result.{ValueAnswered}
use Rattle.lookups.proofs.Nodes.{sums, copies}
use Rattle.lookups.proofs.Ready.{address_ready, cast_ready, constant_kind, constant_malloc, copy_asks, deref_ready, drops_ready, falls_to, field_asks, field_child, field_ready, first_ready, is_copy, is_field, item_at, item_of, last_kinds, left_ready, malloc_ready, note_of, read_ready, size_ready, step_ready}
use Rattle.lookups.proofs.Shortcuts.{is_constant, reads_noted, reads_variable}
use Rattle.evaluator.proofs.Outcomes.{joined}
use Rattle.evaluator.proofs.Ready.{copy_inside, inside_after, right_ready, room_after, variable_small}
use Rattle.evaluator.proofs.Evaluation.{address_answer, copy_answer, deref_answer, drop_answer, ended_answer, field_answer, keep_answer, malloc_answer, read_answer, size_answer, sum_answer, sum_constant_answer, variable_answer}
use Rattle.evaluator.proofs.Noted.{constant_answer, malloc_constant_answer}
use Rattle.evaluator.proofs.+place_value.Goals as goal
use Rattle.evaluator.proofs.+place_value.Goals.{place-In_default, place-Joined-of_variable, place-Joined-of_variable-2, place-then-of_variable, place-else-of_variable, place-then-of_variable-2, place-else-of_variable-2, value-Joined-of_variable, value-then-of_variable, value-else-of_variable, value-In_default, value-Else-item-eq-MALLOC}

-- ---- a place

-- A node of no other kind is a field.
field_kind : (t : ℕ) (c : place-In_default t) → c.item.result ≡ 3
field_kind t c = is_field c.requires c.item.ensures (search rules) (search rules)

-- What the child was worked out to, whichever way was taken.
deref_child : (t : ℕ) (c : place-Joined-of_variable t)
    → ValueAnswered c.args.l.now c.args.m.now c.child-c.result c.args.s.now c.if-of_variable.v c.if-of_variable.m c.if-of_variable.s
deref_child t c = elim c.if-of_variable.branch [
  | place-then-of_variable w ↦ joined w.m-is w.s-is w.v-is w.read_variable-v.ensures
  | place-else-of_variable w ↦ joined w.m-is w.s-is w.v-is w.value-v.ensures.answered
]

field_done : (t : ℕ) (c : place-Joined-of_variable-2 t)
    → ValueAnswered c.args.l.now c.args.m.now c.child-c-in_default.result c.args.s.now c.if-of_variable-2.v c.if-of_variable-2.m c.if-of_variable-2.s
field_done t c = elim c.if-of_variable-2.branch [
  | place-then-of_variable-2 w ↦ joined w.m-is w.s-is w.v-is w.read_variable-v-then-of_variable-2.ensures
  | place-else-of_variable-2 w ↦ joined w.m-is w.s-is w.v-is w.value-v-else-of_variable-2.ensures.answered
]

pub place-item-requires : goal.place-item-requires
place-item-requires t c = item_at c.requires 0 (omega arith)

pub place-item-requires-in-1 : goal.place-item-requires-in-1
place-item-requires-in-1 t c = item_at c.requires 1 (omega arith)

pub place-variable-requires : goal.place-variable-requires
place-variable-requires t c = variable_small c.requires c.item.ensures c.in-1.is c.item-in-1.ensures

pub place-child-c-requires : goal.place-child-c-requires
place-child-c-requires t c = item_at c.requires 1 (omega arith)

pub place-noted-requires : goal.place-noted-requires
place-noted-requires t c = note_of c.requires (deref_ready c.requires c.item.ensures c.in-2.is c.child-c.ensures)

pub place-read_variable-v-requires-clause-ready :
    goal.place-read_variable-v-requires-clause-ready
place-read_variable-v-requires-clause-ready t c =
    (deref_ready c.requires c.item.ensures c.in-2.is c.child-c.ensures).1

pub place-read_variable-v-requires-clause-reads_variable :
    goal.place-read_variable-v-requires-clause-reads_variable
place-read_variable-v-requires-clause-reads_variable t c = reads_variable c.noted.ensures c.if-of_variable.true c.of_variable.ensures

pub place-value-v-requires : goal.place-value-v-requires
place-value-v-requires t c = falls_to c.decreases (deref_ready c.requires c.item.ensures c.in-2.is c.child-c.ensures)

pub place-deref-requires : goal.place-deref-requires
place-deref-requires t c =
    omega (arith, item_at c.requires 0 (omega arith))

pub place-child-c-requires-in_default : goal.place-child-c-requires-in_default
place-child-c-requires-in_default t c = item_at c.requires 1 (omega arith)

pub place-noted-requires-in_default : goal.place-noted-requires-in_default
place-noted-requires-in_default t c =
    let k = field_kind t (goal.at.place-noted-requires-in_default t c).In_default in
    note_of c.requires (field_child c.requires c.item.ensures k c.child-c-in_default.ensures)

pub place-read_variable-v-requires-then-of_variable-2-clause-ready :
    goal.place-read_variable-v-requires-then-of_variable-2-clause-ready
place-read_variable-v-requires-then-of_variable-2-clause-ready t c =
    let k = field_kind t (goal.at.place-read_variable-v-requires-then-of_variable-2-clause-ready t c).In_default in
    (field_child c.requires c.item.ensures k c.child-c-in_default.ensures).1

pub place-read_variable-v-requires-then-of_variable-2-clause-reads_variable :
    goal.place-read_variable-v-requires-then-of_variable-2-clause-reads_variable
place-read_variable-v-requires-then-of_variable-2-clause-reads_variable t c = reads_variable c.noted-in_default.ensures c.if-of_variable-2.true c.of_variable-in_default.ensures

pub place-value-v-requires-else-of_variable-2 : goal.place-value-v-requires-else-of_variable-2
place-value-v-requires-else-of_variable-2 t c =
    let k = field_kind t (goal.at.place-value-v-requires-else-of_variable-2 t c).In_default in
    falls_to c.decreases (field_child c.requires c.item.ensures k c.child-c-in_default.ensures)

pub place-offset-requires : goal.place-offset-requires
place-offset-requires t c = field_ready c.requires c.item.ensures (field_kind t (goal.at.place-offset-requires t c).In_default)

pub place-count-requires : goal.place-count-requires
place-count-requires t c = field_ready c.requires c.item.ensures (field_kind t (goal.at.place-count-requires t c).In_default)

pub place-field-requires : goal.place-field-requires
place-field-requires t c =
    let k = field_kind t (goal.at.place-field-requires t c).In_default in
    (omega (arith, item_at c.requires 0 (omega arith)), field_asks c.requires c.item.ensures k c.count.ensures)

pub place-returns-in-1-clause-answered : goal.place-returns-in-1-clause-answered
place-returns-in-1-clause-answered t c = variable_answer c.item.ensures c.item-in-1.ensures c.in-1.is c.variable.ensures

pub place-returns-after-of_variable-clause-answered : goal.place-returns-after-of_variable-clause-answered
place-returns-after-of_variable-clause-answered t c =
    let d = deref_child t (goal.at.place-returns-after-of_variable-clause-answered t c).Joined-of_variable in
    deref_answer c.item.ensures c.child-c.ensures c.in-2.is (c.deref.ensures _) d

pub place-returns-after-of_variable-2-clause-answered : goal.place-returns-after-of_variable-2-clause-answered
place-returns-after-of_variable-2-clause-answered t c =
    let k = field_kind t (goal.at.place-returns-after-of_variable-2-clause-answered t c).In_default in
    let d = field_done t (goal.at.place-returns-after-of_variable-2-clause-answered t c).Joined-of_variable-2 in
    field_answer c.item.ensures c.child-c-in_default.ensures k c.offset.ensures c.count.ensures (c.field.ensures _) d

-- ---- a value: constants and sums

-- What the left operand of a sum was worked out to, whichever way was taken.
left_done : (t : ℕ) (c : value-Joined-of_variable t)
    → ValueAnswered c.args.l.now c.args.m.now c.child-c.result c.args.s.now c.if-of_variable.v c.if-of_variable.m c.if-of_variable.s
left_done t c = elim c.if-of_variable.branch [
  | value-then-of_variable w ↦ joined w.m-is w.s-is w.v-is w.read_variable-v.ensures
  | value-else-of_variable w ↦ joined w.m-is w.s-is w.v-is w.value-v.ensures.answered
]

pub value-item-requires : goal.value-item-requires
value-item-requires t c = item_at c.requires 0 (omega arith)

pub value-item-requires-in-4 : goal.value-item-requires-in-4
value-item-requires-in-4 t c = item_at c.requires 1 (omega arith)

pub value-child-c-requires : goal.value-child-c-requires
value-child-c-requires t c = item_at c.requires 1 (omega arith)

pub value-noted-requires : goal.value-noted-requires
value-noted-requires t c = note_of c.requires (left_ready c.requires c.item.ensures c.child-c.ensures sums c.in-5.is)

pub value-read_variable-v-requires-clause-ready :
    goal.value-read_variable-v-requires-clause-ready
value-read_variable-v-requires-clause-ready t c =
    (left_ready c.requires c.item.ensures c.child-c.ensures sums c.in-5.is).1

pub value-read_variable-v-requires-clause-reads_variable :
    goal.value-read_variable-v-requires-clause-reads_variable
value-read_variable-v-requires-clause-reads_variable t c = reads_variable c.noted.ensures c.if-of_variable.true c.of_variable.ensures

pub value-value-v-requires : goal.value-value-v-requires
value-value-v-requires t c = falls_to c.decreases (left_ready c.requires c.item.ensures c.child-c.ensures sums c.in-5.is)

pub value-returns-then-v-ge-FAILED-clause-answered : goal.value-returns-then-v-ge-FAILED-clause-answered
value-returns-then-v-ge-FAILED-clause-answered t c =
    let d = left_done t (goal.at.value-returns-then-v-ge-FAILED-clause-answered t c).Joined-of_variable in
    ended_answer sums c.item.ensures c.child-c.ensures c.in-5.is d c.if-v-ge-FAILED.true

pub value-child-requires : goal.value-child-requires
value-child-requires t c = item_at c.requires 1 (omega arith)

pub value-type_of-requires : goal.value-type_of-requires
value-type_of-requires t c = note_of c.requires (left_ready c.requires c.item.ensures c.child.ensures sums c.in-5.is)

pub value-step-by-requires : goal.value-step-by-requires
value-step-by-requires t c = step_ready c.requires c.item.ensures c.child.ensures sums c.in-5.is c.type_of.ensures

pub value-child-d-requires : goal.value-child-d-requires
value-child-d-requires t c = item_at c.requires 2 (omega arith)

pub value-noted-requires-in-5 : goal.value-noted-requires-in-5
value-noted-requires-in-5 t c =
    let d = left_done t (goal.at.value-noted-requires-in-5 t c).Joined-of_variable in
    note_of c.requires (right_ready sums c.requires c.item.ensures c.in-5.is c.child-c.ensures c.child-d.ensures d c.if-v-ge-FAILED.false)

pub value-item-requires-then-is_constant : goal.value-item-requires-then-is_constant
value-item-requires-then-is_constant t c =
    let d = left_done t (goal.at.value-item-requires-then-is_constant t c).Joined-of_variable in
    item_of c.requires (right_ready sums c.requires c.item.ensures c.in-5.is c.child-c.ensures c.child-d.ensures d c.if-v-ge-FAILED.false) 1 (omega arith)

pub value-returns-then-is_constant-clause-answered : goal.value-returns-then-is_constant-clause-answered
value-returns-then-is_constant-clause-answered t c =
    let d = left_done t (goal.at.value-returns-then-is_constant-clause-answered t c).Joined-of_variable in
    sum_constant_answer c.item.ensures c.child-c.ensures d c.child-d.ensures c.if-v-ge-FAILED.false c.child.ensures c.type_of.ensures c.step-by.ensures c.in-5.is
    (is_constant c.noted-in-5.ensures c.if-is_constant.true c.is_constant.ensures) c.item-then-is_constant.ensures refl c.add.ensures.0 c.add.ensures.1

pub value-value-w-requires : goal.value-value-w-requires
value-value-w-requires t c =
    let d = left_done t (goal.at.value-value-w-requires t c).Joined-of_variable in
    falls_to c.decreases (right_ready sums c.requires c.item.ensures c.in-5.is c.child-c.ensures c.child-d.ensures d c.if-v-ge-FAILED.false)

-- ---- reads, addresses, casts and sizes

pub value-child-c-requires-in-6 : goal.value-child-c-requires-in-6
value-child-c-requires-in-6 t c = item_at c.requires 1 (omega arith)

pub value-noted-x-requires : goal.value-noted-x-requires
value-noted-x-requires t c = note_of c.requires (read_ready c.requires c.item.ensures c.child-c-in-6.ensures c.in-6.is)

pub value-read_variable-requires-clause-reads_variable :
    goal.value-read_variable-requires-clause-reads_variable
value-read_variable-requires-clause-reads_variable t c = reads_noted c.item.ensures c.in-6.is c.child-c-in-6.ensures c.noted-x.ensures c.if-of_variable-2.true c.of_variable-in-6.ensures

pub value-place-at-requires : goal.value-place-at-requires
value-place-at-requires t c = falls_to c.decreases (read_ready c.requires c.item.ensures c.child-c-in-6.ensures c.in-6.is)

pub value-load-requires : goal.value-load-requires
value-load-requires t c =
    inside_after (read_ready c.requires c.item.ensures c.child-c-in-6.ensures c.in-6.is).1 c.place-at.ensures.answered

pub value-child-requires-in-7 : goal.value-child-requires-in-7
value-child-requires-in-7 t c = item_at c.requires 1 (omega arith)

pub value-place-requires : goal.value-place-requires
value-place-requires t c = falls_to c.decreases (address_ready c.requires c.item.ensures c.child-in-7.ensures c.in-7.is)

pub value-child-c-requires-in-8 : goal.value-child-c-requires-in-8
value-child-c-requires-in-8 t c = item_at c.requires 1 (omega arith)

pub value-drops-requires : goal.value-drops-requires
value-drops-requires t c = drops_ready c.requires c.item.ensures c.in-8.is

pub value-value-v-requires-then-drops : goal.value-value-v-requires-then-drops
value-value-v-requires-then-drops t c = falls_to c.decreases (cast_ready c.requires c.item.ensures c.child-c-in-8.ensures c.in-8.is)

pub value-returns-then-drops-clause-answered : goal.value-returns-then-drops-clause-answered
value-returns-then-drops-clause-answered t c =
    drop_answer c.item.ensures c.child-c-in-8.ensures c.in-8.is c.drops.ensures c.if-drops.true c.value-v-then-drops.ensures.answered (c.drop_bounds.ensures _)

pub value-value-requires : goal.value-value-requires
value-value-requires t c = falls_to c.decreases (cast_ready c.requires c.item.ensures c.child-c-in-8.ensures c.in-8.is)

pub value-size-requires-clause-n_bound : goal.value-size-requires-clause-n_bound
value-size-requires-clause-n_bound t c = omega (arith, item_at c.requires 1 (omega arith))

pub value-size-requires-clause-known_ready : goal.value-size-requires-clause-known_ready
value-size-requires-clause-known_ready t c = (size_ready c.requires c.item.ensures c.in-9.is).1

-- ---- allocations and copies

-- A value of no other kind is one of them.
last : (t : ℕ) (c : value-In_default t) → (10 ≤ c.item.result) × (c.item.result ≤ 11)
last t c = last_kinds c.requires c.item.ensures (search rules) (search rules) (search rules) (search rules) (search rules) (search rules)

-- What is no allocation is a copy.
copy_kind : (t : ℕ) (c : value-Else-item-eq-MALLOC t) → c.item.result ≡ 11
copy_kind t c = is_copy c.requires c.item.ensures (last_kinds c.requires c.item.ensures (search rules) (search rules) (search rules) (search rules) (search rules) (search rules)) c.item-in_default.ensures c.if-item-eq-MALLOC.false

pub value-child-c-requires-in_default : goal.value-child-c-requires-in_default
value-child-c-requires-in_default t c = item_at c.requires 1 (omega arith)

pub value-noted-requires-in_default : goal.value-noted-requires-in_default
value-noted-requires-in_default t c =
    note_of c.requires (first_ready c.requires c.item.ensures c.child-c-in_default.ensures (last t (goal.at.value-noted-requires-in_default t c).In_default))

pub value-item-requires-then-is_constant-2 : goal.value-item-requires-then-is_constant-2
value-item-requires-then-is_constant-2 t c =
    item_of c.requires (first_ready c.requires c.item.ensures c.child-c-in_default.ensures (last t (goal.at.value-item-requires-then-is_constant-2 t c).In_default)) 1 (omega arith)

pub value-returns-then-is_constant-2-clause-answered : goal.value-returns-then-is_constant-2-clause-answered
value-returns-then-is_constant-2-clause-answered t c =
    let kinds = last t (goal.at.value-returns-then-is_constant-2-clause-answered t c).In_default in
    let noted = is_constant c.noted-in_default.ensures c.if-is_constant-2.true c.is_constant-in_default.ensures in
    malloc_constant_answer c.child-c-in_default.ensures c.item.ensures (constant_malloc c.requires c.item.ensures c.child-c-in_default.ensures kinds noted) noted
    c.item-then-is_constant-2.ensures refl (omega arith) (c.allocate.ensures _ (sym c.words.ensures))

pub value-item-requires-in_default : goal.value-item-requires-in_default
value-item-requires-in_default t c = item_at c.requires 0 (omega arith)

pub value-value-v-requires-then-item-eq-MALLOC : goal.value-value-v-requires-then-item-eq-MALLOC
value-value-v-requires-then-item-eq-MALLOC t c =
    falls_to c.decreases (malloc_ready c.requires c.item-in_default.ensures c.child-c-in_default.ensures c.if-item-eq-MALLOC.true)

pub value-allocate-requires-then-item-eq-MALLOC : goal.value-allocate-requires-then-item-eq-MALLOC
value-allocate-requires-then-item-eq-MALLOC t c =
    let ready = (malloc_ready c.requires c.item-in_default.ensures c.child-c-in_default.ensures c.if-item-eq-MALLOC.true).1 in
    omega (arith, c.words-then-item-eq-MALLOC.ensures, room_after ready c.value-v-then-item-eq-MALLOC.ensures.answered)

pub value-returns-then-item-eq-MALLOC-clause-answered : goal.value-returns-then-item-eq-MALLOC-clause-answered
value-returns-then-item-eq-MALLOC-clause-answered t c =
    malloc_answer c.item-in_default.ensures c.child-c-in_default.ensures c.if-item-eq-MALLOC.true c.value-v-then-item-eq-MALLOC.ensures.answered (c.allocate-then-item-eq-MALLOC.ensures _ (sym c.words-then-item-eq-MALLOC.ensures))

pub value-overflow_cast-to : goal.value-overflow_cast-to
value-overflow_cast-to t c = omega (arith, item_at c.requires 0 (omega arith))

pub value-value-v-requires-in_default : goal.value-value-v-requires-in_default
value-value-v-requires-in_default t c =
    let k = copy_kind t (goal.at.value-value-v-requires-in_default t c).Else-item-eq-MALLOC in
    falls_to c.decreases (left_ready c.requires c.item.ensures c.child-c-in_default.ensures copies k)

pub value-returns-then-v-ge-FAILED-2-clause-answered : goal.value-returns-then-v-ge-FAILED-2-clause-answered
value-returns-then-v-ge-FAILED-2-clause-answered t c =
    let k = copy_kind t (goal.at.value-returns-then-v-ge-FAILED-2-clause-answered t c).Else-item-eq-MALLOC in
    ended_answer copies c.item.ensures c.child-c-in_default.ensures k c.value-v-in_default.ensures.answered c.if-v-ge-FAILED-2.true

pub value-child-requires-in_default : goal.value-child-requires-in_default
value-child-requires-in_default t c = item_at c.requires 1 (omega arith)

pub value-type_of-requires-in_default : goal.value-type_of-requires-in_default
value-type_of-requires-in_default t c =
    let k = copy_kind t (goal.at.value-type_of-requires-in_default t c).Else-item-eq-MALLOC in
    note_of c.requires (left_ready c.requires c.item.ensures c.child-in_default.ensures copies k)

pub value-step-k-requires : goal.value-step-k-requires
value-step-k-requires t c =
    let k = copy_kind t (goal.at.value-step-k-requires t c).Else-item-eq-MALLOC in
    step_ready c.requires c.item.ensures c.child-in_default.ensures copies k c.type_of-in_default.ensures

pub value-child-d-requires-in_default : goal.value-child-d-requires-in_default
value-child-d-requires-in_default t c = item_at c.requires 2 (omega arith)

pub value-noted-requires-in_default-2 : goal.value-noted-requires-in_default-2
value-noted-requires-in_default-2 t c =
    let k = copy_kind t (goal.at.value-noted-requires-in_default-2 t c).Else-item-eq-MALLOC in
    note_of c.requires (right_ready copies c.requires c.item.ensures k c.child-c-in_default.ensures c.child-d-in_default.ensures c.value-v-in_default.ensures.answered c.if-v-ge-FAILED-2.false)

pub value-read_variable-w-requires-clause-ready :
    goal.value-read_variable-w-requires-clause-ready
value-read_variable-w-requires-clause-ready t c =
    let k = copy_kind t (goal.at.value-read_variable-w-requires-clause-ready t c).Else-item-eq-MALLOC in
    (right_ready copies c.requires c.item.ensures k c.child-c-in_default.ensures c.child-d-in_default.ensures c.value-v-in_default.ensures.answered c.if-v-ge-FAILED-2.false).1

pub value-read_variable-w-requires-clause-reads_variable :
    goal.value-read_variable-w-requires-clause-reads_variable
value-read_variable-w-requires-clause-reads_variable t c = reads_variable c.noted-in_default-2.ensures c.if-of_variable-3.true c.of_variable-in_default.ensures

pub value-copy-requires-clause-le_k : goal.value-copy-requires-clause-le_k
value-copy-requires-clause-le_k t c =
    let k = copy_kind t (goal.at.value-copy-requires-clause-le_k t c).Else-item-eq-MALLOC in
    copy_asks c.requires c.item.ensures c.child-in_default.ensures k c.type_of-in_default.ensures c.step-k.ensures

pub value-copy-requires-clause-to_inside :
    goal.value-copy-requires-clause-to_inside
value-copy-requires-clause-to_inside t c =
    let k = copy_kind t (goal.at.value-copy-requires-clause-to_inside t c).Else-item-eq-MALLOC in
    (copy_inside c.requires c.item.ensures k c.child-c-in_default.ensures c.child-d-in_default.ensures c.value-v-in_default.ensures.answered c.if-v-ge-FAILED-2.false c.read_variable-w.ensures).0

pub value-copy-requires-clause-from_inside :
    goal.value-copy-requires-clause-from_inside
value-copy-requires-clause-from_inside t c =
    let k = copy_kind t (goal.at.value-copy-requires-clause-from_inside t c).Else-item-eq-MALLOC in
    (copy_inside c.requires c.item.ensures k c.child-c-in_default.ensures c.child-d-in_default.ensures c.value-v-in_default.ensures.answered c.if-v-ge-FAILED-2.false c.read_variable-w.ensures).1

pub value-returns-then-of_variable-3-clause-answered : goal.value-returns-then-of_variable-3-clause-answered
value-returns-then-of_variable-3-clause-answered t c =
    let k = copy_kind t (goal.at.value-returns-then-of_variable-3-clause-answered t c).Else-item-eq-MALLOC in
    copy_answer c.item.ensures c.child-c-in_default.ensures c.value-v-in_default.ensures.answered c.child-d-in_default.ensures c.if-v-ge-FAILED-2.false c.child-in_default.ensures c.type_of-in_default.ensures c.step-k.ensures
    k refl c.read_variable-w.ensures c.copy.ensures.finishes

pub value-value-w-requires-in_default : goal.value-value-w-requires-in_default
value-value-w-requires-in_default t c =
    let k = copy_kind t (goal.at.value-value-w-requires-in_default t c).Else-item-eq-MALLOC in
    falls_to c.decreases (right_ready copies c.requires c.item.ensures k c.child-c-in_default.ensures c.child-d-in_default.ensures c.value-v-in_default.ensures.answered c.if-v-ge-FAILED-2.false)

pub value-copy-requires-in_default-clause-le_k : goal.value-copy-requires-in_default-clause-le_k
value-copy-requires-in_default-clause-le_k t c =
    let k = copy_kind t (goal.at.value-copy-requires-in_default-clause-le_k t c).Else-item-eq-MALLOC in
    copy_asks c.requires c.item.ensures c.child-in_default.ensures k c.type_of-in_default.ensures c.step-k.ensures

pub value-copy-requires-in_default-clause-to_inside :
    goal.value-copy-requires-in_default-clause-to_inside
value-copy-requires-in_default-clause-to_inside t c =
    let k = copy_kind t (goal.at.value-copy-requires-in_default-clause-to_inside t c).Else-item-eq-MALLOC in
    (copy_inside c.requires c.item.ensures k c.child-c-in_default.ensures c.child-d-in_default.ensures c.value-v-in_default.ensures.answered c.if-v-ge-FAILED-2.false c.value-w-in_default.ensures.answered).0

pub value-copy-requires-in_default-clause-from_inside :
    goal.value-copy-requires-in_default-clause-from_inside
value-copy-requires-in_default-clause-from_inside t c =
    let k = copy_kind t (goal.at.value-copy-requires-in_default-clause-from_inside t c).Else-item-eq-MALLOC in
    (copy_inside c.requires c.item.ensures k c.child-c-in_default.ensures c.child-d-in_default.ensures c.value-v-in_default.ensures.answered c.if-v-ge-FAILED-2.false c.value-w-in_default.ensures.answered).1

-- ---- what is answered where no way returned before

pub value-returns-in-4-clause-answered : goal.value-returns-in-4-clause-answered
value-returns-in-4-clause-answered t c = constant_answer c.item-in-4.ensures (λ t lists node. constant_kind lists node c.item.ensures c.in-4.is) c.number.ensures

pub value-returns-else-is_constant-clause-answered : goal.value-returns-else-is_constant-clause-answered
value-returns-else-is_constant-clause-answered t c =
    let d = left_done t (goal.at.value-returns-else-is_constant-clause-answered t c).Joined-of_variable in
    sum_answer c.item.ensures c.child-c.ensures d c.child-d.ensures c.if-v-ge-FAILED.false c.child.ensures c.type_of.ensures c.step-by.ensures c.in-5.is c.value-w.ensures.answered (c.sum.ensures _)

pub value-returns-else-of_variable-2-clause-answered : goal.value-returns-else-of_variable-2-clause-answered
value-returns-else-of_variable-2-clause-answered t c =
    read_answer c.item.ensures c.child-c-in-6.ensures c.in-6.is (c.bounds_in.ensures ∙ ap (λ x. x % 256) c.noted-x.ensures) c.place-at.ensures.answered c.load.ensures

pub value-returns-in-7-clause-answered : goal.value-returns-in-7-clause-answered
value-returns-in-7-clause-answered t c = address_answer c.item.ensures c.child-in-7.ensures c.in-7.is c.place.ensures.answered

pub value-returns-else-drops-clause-answered : goal.value-returns-else-drops-clause-answered
value-returns-else-drops-clause-answered t c = keep_answer c.item.ensures c.child-c-in-8.ensures c.in-8.is c.drops.ensures c.if-drops.false c.value.ensures.answered

pub value-returns-in-9-clause-answered : goal.value-returns-in-9-clause-answered
value-returns-in-9-clause-answered t c = size_answer c.item.ensures refl c.in-9.is c.size.ensures

pub value-returns-else-of_variable-3-clause-answered : goal.value-returns-else-of_variable-3-clause-answered
value-returns-else-of_variable-3-clause-answered t c =
    let k = copy_kind t (goal.at.value-returns-else-of_variable-3-clause-answered t c).Else-item-eq-MALLOC in
    copy_answer c.item.ensures c.child-c-in_default.ensures c.value-v-in_default.ensures.answered c.child-d-in_default.ensures c.if-v-ge-FAILED-2.false c.child-in_default.ensures c.type_of-in_default.ensures c.step-k.ensures
    k refl c.value-w-in_default.ensures.answered c.copy-in_default.ensures.finishes
