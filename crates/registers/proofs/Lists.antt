-- Refusals 13, 14 and 15, from what the loops over a register list have found.
use Prim.Native.Nat.{ℕ, ◌+◌, ◌≤◌, ◌<◌}
use mathlib.Core.Bool.{Bool, true, false, not, ◌&&◌, ◌||◌}
use mathlib.Core.Path.{◌≡◌, refl, sym, ap, ◌∙◌}
use native.Mathlib.Omega.{arith}
use native.Mathlib.Decide.{ℕ_discrete}
use native.Mathlib.Numerals.{add-one}
use borrow.Author.Tests.{ltb-true, eq-eqb, ne_eqb, le-leb, lt-leb, lt-ltb, le-ltb}
use lib.Dec.{leb, ltb, eqb}
use lib.ListN.{length, get_or, set, replicate, length-set, get_or-replicate, get_or-eq_default}
use lib.Seq.{get_or-set_same, get_or-set_other}
use Rattle.semantics.specs.Words.{Words, word, sum_below, any_below, seen_before}
use Rattle.semantics.specs.Table.{variables, count, item, is_pointer}
use Rattle.semantics.specs.Registers.{register_count, register_place, register_variable, register_length, register_start}
use Rattle.semantics.specs.Check.{Verdict, passes, refused, require, each, extent_fault, names_pointer, name_fault, room_fault, registers_fault}
use Rattle.semantics.proofs.Tests.{and_true}
use Rattle.semantics.proofs.Registers.{Whole, places_rise}
use Rattle.registers.specs.Walk.{RegisterAt}
use Rattle.registers.specs.declared.Register.{Register}
use mathlib.Core.List.{List}
use Rattle.layout.specs.Layout.{Stands}
use Rattle.layout.specs.declared.Section.{Section}
use Rattle.layout.proofs.Laws.{require_holds, require_refuses, or_else_pass, or_else_refuse, item_at, sum_more}

-- What is refused where a requirement is not met.
pub unmet_as : (ok : Bool) (f p : ℕ) {m q : ℕ} {v : Verdict} → refused m q ≡ require ok f p → ok ≡ false → refused f p ≡ v → refused m q ≡ v
unmet_as ok f p e z h = e ∙ require_refuses ok f p z ∙ h

-- ---- places

pub place_none : (l : Words) → 1 ≡ register_place l 0
unfolding register_place
place_none l = refl

pub place_more : (l : Words) (i : ℕ) {p q : ℕ} → p ≡ register_place l i → q ≡ p + 2 + word l (p + 1) → q ≡ register_place l (i + 1)
unfolding register_place
place_more l i e f = rw (add-one i, ← e) f

pub place_all : (l : Words) {i n p : ℕ} → p ≡ register_place l i → i ≡ n → p ≡ register_place l n
place_all l e h = e ∙ ap (register_place l) h

-- A whole list has its count.
pub whole_length : {l : Words} → Whole l → 0 < length l
unfolding register_place
whole_length {l} h = omega (arith, places_rise l 0 (register_count l) (omega arith), h.exact)

-- A register of a list that the walk has is one of the list itself.
pub of_list : {l l' : Words} {i : ℕ} {r : Register} → RegisterAt l' i r → l' ≡ l → RegisterAt l i r
of_list h e = rw e at h

-- ---- 13

module _ (l : Words) where
  pub over_most : 16 < register_count l → refused 13 0 ≡ extent_fault l
  unfolding extent_fault
  over_most h = sym (or_else_refuse _ _ (require_refuses (leb (register_count l) 16) 13 0 (lt-leb (register_count l) 16 h)))

  module _ (few : register_count l ≤ 16) where
    counted : require (leb (register_count l) 16) 13 0 ≡ passes
    counted = require_holds _ 13 0 (le-leb (register_count l) 16 few)

    -- Some register ends past the list, so the list is cut short.
    pub cut_short : {i p : ℕ} → p ≡ register_place l i → i ≤ register_count l → length l < p → refused 13 (length l) ≡ extent_fault l
    unfolding extent_fault
    cut_short {i} e h past =
        let end : length l < register_place l (register_count l) = omega (arith, places_rise l i (register_count l) h) in
        sym (or_else_pass _ _ counted ∙ or_else_refuse _ _ (require_refuses _ 13 (length l) (lt-leb (register_place l (register_count l)) (length l) end)))

    -- All registers stand in the list, so what is left to require is that no words follow.
    pub extent_by : {p : ℕ} → p ≡ register_place l (register_count l) → p ≤ length l → require (leb (length l) p) 13 p ≡ extent_fault l
    unfolding extent_fault
    extent_by e h =
        rw e
        (sym (or_else_pass _ _ counted ∙ or_else_pass _ _ (require_holds _ 13 (length l) (le-leb (register_place l (register_count l)) (length l) (omega arith)))))

pub empty_list : (l : Words) → length l ≡ 0 → refused 13 0 ≡ extent_fault l
empty_list l e =
    rw e at (cut_short l (omega (arith, get_or-eq_default l 0 {n = 0} (omega arith))) (place_none l) (omega arith) (omega arith))

-- ---- 14

and_false : (a : Bool) → a && false ≡ false
and_false true = refl
and_false false = refl

not_is : (a b : Bool) → not a ≡ b → a ≡ not b
not_is true b e = rw (← e)
not_is false b e = rw (← e)

or_false : (a : Bool) → a || false ≡ a
or_false true = refl
or_false false = refl

or_right : (a : Bool) → a || true ≡ true
or_right true = refl
or_right false = refl

-- Whether a register below i names v.
abbrev names : Words → ℕ → ℕ → Bool
names l i v = any_below i (λ j. eqb (register_variable l j) v)

names_more : (l : Words) (i v : ℕ) → names l (i + 1) v ≡ names l i v || eqb (register_variable l i) v
unfolding any_below
names_more l i v = rw (add-one i) refl

-- A mark for each variable: whether a register below i names it.
pub record Marked (l : Words) (marks : List Bool) (i : ℕ) : Type 0 where
  pub room : length marks ≡ 64
  pub named : (v : ℕ) → v < 64 → names l i v ≡ get_or marks v false

pub none_marked : (l : Words) → Marked l (replicate 64 false) 0
unfolding any_below
none_marked l = record { room = refl; named = λ v h. sym (get_or-replicate 64 v false false h) }

pub one_marked : {l : Words} {marks : List Bool} {i w : ℕ} → Marked l marks i → w ≡ register_variable l i → w < 64 → Marked l (set marks w true) (i + 1)
one_marked {l} {marks} {i} {w} h here known =
    record { room = length-set marks w true ∙ h.room; named = λ v less. named v less (ℕ_discrete v w) }
  where
    named : (v : ℕ) → v < 64 → Dec (v ≡ w) → names l (i + 1) v ≡ get_or (set marks w true) v false
    named v less (yes q) =
        names_more l i v ∙ ap (names l i v ||◌) (eq-eqb (register_variable l i) v (sym here ∙ sym q)) ∙ or_right (names l i v)
        ∙ sym (rw q (get_or-set_same marks w true false (omega (arith, h.room))))
    named v less (no q) =
        names_more l i v ∙ ap (names l i v ||◌) (ne_eqb (register_variable l i) v (λ z. q (sym z ∙ sym here))) ∙ or_false (names l i v) ∙ h.named v less
        ∙ sym (get_or-set_other marks w v true false q)

-- A variable that is known.
module _ {t : Words} {s : Section} (h : Stands t 3 s) (v : ℕ) where
  pub unknown : s.count ≤ v → false ≡ names_pointer t v
  unfolding names_pointer
  unknown over = sym (rw (le-ltb v (count t variables) (omega (arith, h.total))) refl)

  pub pointer_test : v < s.count → {p : ℕ} → p ≡ s.at + v → (b : Bool) → b ≡ leb 1 (word t p) → b ≡ names_pointer t v
  unfolding names_pointer is_pointer
  pointer_test known {p} e b tested = tested ∙ sym (rw (lt-ltb v (count t variables) (omega (arith, h.total)), item_at h v 0 p (omega arith)) refl)

-- A variable that passes has a mark.
pub has_mark : {t : Words} {s : Section} → Stands t 3 s → {v : ℕ} {a : Bool} → a ≡ names_pointer t v → a ≡ true → v < 64
unfolding names_pointer
has_mark {t} h {v} ea e =
    omega (arith, ltb-true v (count t variables) (and_true (ltb v (count t variables)) (is_pointer (item t variables v 0)) (sym ea ∙ e)).0, h.limited, h.total)

module _ (t l : Words) (i : ℕ) {p v : ℕ} (at : p ≡ register_place l i) (is : v ≡ word l p) {a : Bool} (ea : a ≡ names_pointer t v) where
  pub no_pointer : a ≡ false → name_fault t l i ≡ refused 14 p
  unfolding name_fault
  no_pointer e = rw (← at, ← is, ← ea, e) (require_refuses _ 14 p refl)

  module _ {marks : List Bool} (m : Marked l marks i) (known : v < 64) where
    pub named_again : not (get_or marks v false) ≡ false → name_fault t l i ≡ refused 14 p
    unfolding name_fault seen_before
    named_again e = rw (← at, ← is, m.named v known, not_is (get_or marks v false) false e) (require_refuses _ 14 p (and_false (names_pointer t v)))

    pub name_passes : a ≡ true → not (get_or marks v false) ≡ true → name_fault t l i ≡ passes
    unfolding name_fault seen_before
    name_passes e free = rw (← at, ← is, ← ea, e, m.named v known, not_is (get_or marks v false) true free) (require_holds _ 14 p refl)

-- ---- 15

pub start_none : (first : ℕ) (l : Words) → first ≡ register_start first l 0
unfolding register_start sum_below
start_none first l = omega arith

pub start_more : (first : ℕ) (l : Words) (i : ℕ) {p e : ℕ} → p ≡ register_place l i → e ≡ register_start first l i → e + word l (p + 1) ≡ register_start first l (i + 1)
unfolding register_start
start_more first l i at e = omega (arith, sum_more (λ j. register_length l j) i, ap (λ q. word l (q + 1)) at)

module _ (first : ℕ) (l : Words) (memory i : ℕ) {p end : ℕ} (at : p ≡ register_place l i) (e : end ≡ register_start first l (i + 1)) where
  -- What is required of a register's room is its part of the definition.
  pub room_by : require (leb end memory) 15 (p + 1) ≡ room_fault first l memory i
  unfolding room_fault
  room_by = rw (← at, ← add-one i, ← e)

-- ---- the three in their order

module _ (t l : Words) (memory : ℕ) where
  pub extent_refused : {n p : ℕ} → refused n p ≡ extent_fault l → refused n p ≡ registers_fault t l memory
  unfolding registers_fault
  extent_refused e = sym (or_else_refuse _ _ (sym e))

  module _ (whole : passes ≡ extent_fault l) where
    pub names_refused : {n p : ℕ} → refused n p ≡ each (register_count l) (name_fault t l) → refused n p ≡ registers_fault t l memory
    unfolding registers_fault
    names_refused e = sym (or_else_pass _ _ (sym whole) ∙ or_else_refuse _ _ (sym e))

    pub room_judged : {first : ℕ} → passes ≡ each (register_count l) (name_fault t l) → first ≡ 1 + count t variables
        → each (register_count l) (room_fault first l memory) ≡ registers_fault t l memory
    unfolding registers_fault
    room_judged e first = rw first (sym (or_else_pass _ _ (sym whole) ∙ or_else_pass _ _ (sym e)))
