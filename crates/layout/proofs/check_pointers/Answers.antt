-- The entries before i pass and are noted; what is required of entry i is its part of the definition.
use Rattle.std.proofs.Common.{ℕ, ◌≡◌, ◌≤◌, ◌<◌, ◌+◌, get_or, [], Bool, true, refl, sym, ap, ◌∙◌, arith, length-set}
use borrow.Author.Tests.{eqb-true}
use Rattle.semantics.specs.Words.{Words, word}
use Rattle.semantics.specs.Table.{count, known_target}
use Rattle.semantics.specs.Check.{each}
use Rattle.layout.specs.Layout.{Stands}
use Rattle.layout.specs.Types.{slot, mark_below, Marks, marked}
use Rattle.layout.specs.declared.Section.{Section}
use Rattle.layout.proofs.Laws.{refusal_on, each_more, each_refuses, or_else_pass, or_else_refuse, entry_word}
use Rattle.layout.proofs.Types.{pointer_by, slot_below, marks_none, marks_more, marked_more, marked_to, marked_all}
use Rattle.layout.proofs.check_pointers.Goals as goal

-- A known target's slot is in the list.
below : {t : Words} {l : Section} → Stands t 2 l → (records x k : ℕ) {known : Bool} → records ≡ count t 0 → records ≤ 32 → known ≡ true → known ≡ known_target t x → k ≡ slot x → k < 98
below {t} h records x k r few known test e = omega (arith, slot_below t (omega arith) (omega (arith, h.total, h.limited)) x (sym test ∙ known))

-- And has the target's mark there.
mark : {t entry : Words} {i : ℕ} → Marks t entry i → (x k : ℕ) {known : Bool} → known ≡ true → known ≡ known_target t x → k ≡ slot x → word entry k ≡ mark_below t i x
mark {entry = entry} marks x k known test e = ap (word entry) e ∙ marks.mark_is x (sym test ∙ known)

pub loop-i-init : goal.loop-i-init
unfolding each marked
loop-i-init c = record { pass = refl; room = c.told-entry; marks = marks_none _ _ c.requires.3; list = refl }

pub returns-in_err-require-clause-found : goal.returns-in_err-require-clause-found
returns-in_err-require-clause-found c =
    let h = c.requires.0 in
    let i = c.loop-i.i in
    let fault = pointer_by h i (c.known_target-known.ensures _ c.requires.1 h.total) (entry_word h i 0 _ refl (c.entries-target-items.ensures.same i 0 (omega arith) (omega arith))) refl in
    refusal_on c.from_residual.result _ c.from_residual.ensures.1
    (each_refuses _ i c.loop-i.invariant.pass _ (omega arith) (sym fault ∙ or_else_refuse _ _ (sym c.in_err-require.ensures.faults)))

pub returns-in_err-require-clause-lists : goal.returns-in_err-require-clause-lists
returns-in_err-require-clause-lists c =
    let h = c.requires.0 in
    let i = c.loop-i.i in
    let fault = pointer_by h i (c.known_target-known.ensures _ c.requires.1 h.total) (entry_word h i 0 _ refl (c.entries-target-items.ensures.same i 0 (omega arith) (omega arith))) refl in
    marked_to _ _ i c.loop-i.invariant.pass (omega arith) (sym fault ∙ or_else_refuse _ _ (sym c.in_err-require.ensures.faults)) c.loop-i.invariant.list

pub offset_bounds-entry-slot : goal.offset_bounds-entry-slot
offset_bounds-entry-slot c =
    let h = c.requires.0 in
    omega (arith, below h _ _ _ c.requires.1 c.requires.2 c.in_ok-require.ensures.met (c.known_target-known.ensures _ c.requires.1 h.total) c.target_slot-slot.ensures)

pub bounds-entry-slot : goal.bounds-entry-slot
bounds-entry-slot c =
    let h = c.requires.0 in
    below h _ _ _ c.requires.1 c.requires.2 c.in_ok-require.ensures.met (c.known_target-known.ensures _ c.requires.1 h.total) c.target_slot-slot.ensures

pub returns-in_err-require-2-clause-found : goal.returns-in_err-require-2-clause-found
returns-in_err-require-2-clause-found c =
    let h = c.requires.0 in
    let i = c.loop-i.i in
    let known = c.known_target-known.ensures _ c.requires.1 h.total in
    let fault = pointer_by h i known (entry_word h i 0 _ refl (c.entries-target-items.ensures.same i 0 (omega arith) (omega arith))) (mark c.loop-i.invariant.marks _ _ c.in_ok-require.ensures.met known c.target_slot-slot.ensures) in
    let on = c.from_residual-in_err-require-2 in
    refusal_on on.result _ on.ensures.1
    (each_refuses _ i c.loop-i.invariant.pass _ (omega arith) (sym fault ∙ or_else_pass _ _ (sym c.in_ok-require.ensures.faults) ∙ sym c.in_err-require-2.ensures.faults))

pub returns-in_err-require-2-clause-lists : goal.returns-in_err-require-2-clause-lists
returns-in_err-require-2-clause-lists c =
    let h = c.requires.0 in
    let i = c.loop-i.i in
    let known = c.known_target-known.ensures _ c.requires.1 h.total in
    let fault = pointer_by h i known (entry_word h i 0 _ refl (c.entries-target-items.ensures.same i 0 (omega arith) (omega arith))) (mark c.loop-i.invariant.marks _ _ c.in_ok-require.ensures.met known c.target_slot-slot.ensures) in
    marked_to _ _ i c.loop-i.invariant.pass (omega arith)
    (sym fault ∙ or_else_pass _ _ (sym c.in_ok-require.ensures.faults) ∙ sym c.in_err-require-2.ensures.faults)
    c.loop-i.invariant.list

pub offset_bounds-entry-slot-in-loop-i : goal.offset_bounds-entry-slot-in-loop-i
offset_bounds-entry-slot-in-loop-i c =
    let h = c.requires.0 in
    omega (arith, below h _ _ _ c.requires.1 c.requires.2 c.in_ok-require.ensures.met (c.known_target-known.ensures _ c.requires.1 h.total) c.target_slot-slot.ensures)

pub bounds-entry-slot-in-loop-i : goal.bounds-entry-slot-in-loop-i
bounds-entry-slot-in-loop-i c =
    let h = c.requires.0 in
    below h _ _ _ c.requires.1 c.requires.2 c.in_ok-require.ensures.met (c.known_target-known.ensures _ c.requires.1 h.total) c.target_slot-slot.ensures

pub loop-i-preserved : goal.loop-i-preserved
loop-i-preserved c =
    let t = c.args.t.now in
    let h = c.requires.0 in
    let a = c.loop-i in
    let i = a.i in
    let x = word (get_or c.entries-target-items.result.now i []) 0 in
    let item = entry_word h i 0 _ refl (c.entries-target-items.ensures.same i 0 (omega arith) (omega arith)) in
    let known = c.known_target-known.ensures _ c.requires.1 h.total in
    let at = c.target_slot-slot.ensures in
    let fault = pointer_by h i known item (mark a.invariant.marks _ _ c.in_ok-require.ensures.met known at) in
    let none = eqb-true _ 0 c.in_ok-require-2.ensures.met in
    let v : ◌≡◌ {A = ℕ} (2 + i) (2 + i) = refl in
    record {
      pass = each_more _ i a.invariant.pass (sym fault ∙ or_else_pass _ _ (sym c.in_ok-require.ensures.faults) ∙ sym c.in_ok-require-2.ensures.faults);
      room = simp length-set a.invariant.room;
      marks = marks_more t (omega arith) (omega arith) a.entry i x _ _ at v a.invariant.room (sym known ∙ c.in_ok-require.ensures.met) (sym item) none a.invariant.marks;
      list = marked_more t _ i _ _ (at ∙ ap slot item) v a.invariant.list;
    }

pub returns-clause-lists : goal.returns-clause-lists
returns-clause-lists c =
    let h = c.requires.0 in
    let n : c.loop-i.i ≡ count c.args.t.now 2 = omega arith in
    marked_all _ _ n c.loop-i.invariant.pass c.loop-i.invariant.list
