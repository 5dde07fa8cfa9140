-- `nodes::Node::address` meets its contract.
use Rattle.std.proofs.Common.{arith, sym, ◌∙◌, ℕ, ◌≡◌, ◌<◌, ◌%◌, lt-ltb, le-ltb, ltb-true, ltb-false}
use Rattle.semantics.specs.Words.{Words, word}
use Rattle.semantics.specs.Table.{address, place, count, node_type}
use Rattle.layout.specs.Types.{Marks, mark_below}
use Rattle.layout.specs.Types as types
use Rattle.layout.proofs.Types.{mark_none, mark_some, slot_below}
use Rattle.nodes.proofs.Lookups.{few_records, few_pointers, type_target, mark_entry}
use Rattle.nodes.proofs.Answers.{operands_failed, types_failed, typed, placed, Child, only_child_of}
use Rattle.nodes.proofs.Node.address.Goals as goal

pub returns-in_err-only_child : goal.returns-in_err-only_child
returns-in_err-only_child c t p m = operands_failed (placed p) address _ _ c.from_residual.result _ c.from_residual.ensures.1 (c.in_err-only_child.ensures.faults _ p.noted_to)

pub bounds-entry-target_slot : goal.bounds-entry-target_slot
bounds-entry-target_slot c =
    let p = c.requires.reached in
    let child = only_child_of p place _ _ (sym (c.in_ok-only_child.ensures.faults _ p.noted_to)) in
    let ok = p.noted_to.types_pass in
    rw (c.target_slot.ensures, c.type_of.ensures, child.array) (slot_below _ (few_records ok) (few_pointers ok) _ (type_target _ _ child.known))

pub offset_bounds-entry-target_slot : goal.offset_bounds-entry-target_slot
offset_bounds-entry-target_slot c =
    let p = c.requires.reached in
    let child = only_child_of p place _ _ (sym (c.in_ok-only_child.ensures.faults _ p.noted_to)) in
    let ok = p.noted_to.types_pass in
    let below : c.target_slot.result < 98 = rw (c.target_slot.ensures, c.type_of.ensures, child.array) (slot_below _ (few_records ok) (few_pointers ok) _ (type_target _ _ child.known)) in
    omega arith

-- What is noted for the child's type.
noted : {t entry notes : Words} {n x ty slot : ℕ} → Child t notes n x → Marks t entry (count t 2) → ty ≡ word notes x % 128 → slot ≡ types.slot ty → word entry slot ≡ mark_below t (count t 2) (node_type t x)
noted child m e q = rw (q, e, child.array) (m.mark_is _ (type_target _ _ child.known))

pub returns-in_err-require : goal.returns-in_err-require
returns-in_err-require c t p m =
    let ok = sym (c.in_ok-only_child.ensures.faults _ p.noted_to) in
    let is = noted (only_child_of p place _ _ ok) m c.type_of.ensures c.target_slot.ensures in
    types_failed (placed p) address _ _ c.from_residual-in_err-require.result _ c.from_residual-in_err-require.ensures.1 ok _ c.in_err-require.ensures.faults c.in_err-require.ensures.unmet
    (le-ltb _ _ (mark_none t (count t 2) (node_type t c.args.self.now.a) (sym is ∙ (let none = ltb-false 0 _ c.in_err-require.ensures.unmet in omega arith))))

pub returns : goal.returns
returns c t p m =
    let ok = sym (c.in_ok-only_child.ensures.faults _ p.noted_to) in
    let child = only_child_of p place _ _ ok in
    let is = noted child m c.type_of.ensures c.target_slot.ensures in
    let some = mark_some t (count t 2) (node_type t c.args.self.now.a) (λ z. let some = ltb-true 0 _ c.in_ok-require.ensures.met in let none : word c.args.entry.now c.target_slot.result ≡ 0 = is ∙ z in omega arith) in
    typed (placed p) address _ _ ok (lt-ltb _ _ some) (rw (is, mark_entry t (count t 2) (node_type t c.args.self.now.a) some, ← child.array, child.same))
