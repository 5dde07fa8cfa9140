-- What a register list that isn't refused tells, and that its registers keep the invariant.
use Prim.Native.Nat.{ℕ, zero, suc, ◌+◌, ◌≤◌, ◌<◌}
use mathlib.Core.Bool.{not}
use mathlib.Core.Path.{◌≡◌, refl, sym, ap, ◌∙◌}
use mathlib.Core.List.{[], ◌∷◌}
use native.Mathlib.Omega.{arith}
use borrow.Author.Tests.{ltb-true, leb-true}
use lib.Dec.{leb}
use lib.ListN.{length, take, drop, set}
use lib.Seq.{sets, length-sets, get_or-set_other}
use Rattle.semantics.specs.Words.{Words, word, zeroed, sum_below, seen_before}
use Rattle.semantics.specs.Table.{variables, count, is_pointer, item}
use Rattle.semantics.specs.Registers.{register_count, register_place, register_variable, register_length, register_words, register_start}
use Rattle.semantics.specs.Check.{passes, require, each, extent_fault, names_pointer, name_fault, room_fault, registers_fault}
use Rattle.semantics.specs.Rules.{unbounded, block_pointer, State}
use Rattle.semantics.specs.Run.{with_register, registers_below}
use Rattle.semantics.specs.Safety.{absent, held}
use Rattle.semantics.proofs.Tests.{and_true}
use Rattle.semantics.proofs.Lists.{rises, zeroed_clear}
use Rattle.semantics.proofs.Passed.{or_else_passes, require_passes, each_passes}
use Rattle.semantics.proofs.Invariant.{Inv}
use Rattle.semantics.proofs.Steps.{block_inv, block_held, values_inv, pointer_inv}

-- ---- a list that isn't refused

-- It ends where its registers do.
pub record Whole (l : Words) : Type 0 where
  pub few : register_count l ≤ 16
  pub exact : register_place l (register_count l) ≡ length l

pub whole : (l : Words) → extent_fault l ≡ passes → Whole l
unfolding extent_fault
whole l e =
    let end = register_place l (register_count l) in
    let x0 = or_else_passes (require (leb (register_count l) 16) 13 0) _ e in
    let x1 = or_else_passes (require (leb end (length l)) 13 (length l)) _ x0.1 in
    let low = leb-true end (length l) (require_passes (leb end (length l)) _ _ x1.0) in
    let high = leb-true (length l) end (require_passes (leb (length l) end) _ _ x1.1) in
    record { few = leb-true _ _ (require_passes (leb (register_count l) 16) _ _ x0.0); exact = omega (arith, low, high) }

pub places_rise : (l : Words) (i n : ℕ) → i ≤ n → register_place l i ≤ register_place l n
unfolding register_place
places_rise l = rises (register_place l) (λ n. omega arith)

-- Register i of a whole list stands in it.
pub register_inside : {l : Words} → Whole l → (i : ℕ) → i < register_count l → register_place l i + 2 + register_length l i ≤ length l
unfolding register_place
register_inside {l} h i less = omega (arith, places_rise l (suc i) (register_count l) less, h.exact)

pub record Listed (t l : Words) (len : ℕ) : Type 0 where
  pub extent : Whole l
  pub named : (i : ℕ) → i < register_count l → register_variable l i < count t variables
  pub room : (i : ℕ) → i < register_count l → register_start (1 + count t variables) l (suc i) ≤ len

pub listed : (t l : Words) (len : ℕ) → registers_fault t l len ≡ passes → Listed t l len
unfolding registers_fault name_fault names_pointer room_fault
listed t l len e =
    let p0 = or_else_passes (extent_fault l) _ e in
    let p1 = or_else_passes (each (register_count l) (name_fault t l)) _ p0.1 in
    record {
      extent = whole l p0.0;
      named = λ i h.
          let v = register_variable l i in
          let k = and_true (names_pointer t v) (not (seen_before (register_variable l) i)) (require_passes _ 14 (register_place l i) (each_passes (register_count l) (name_fault t l) p1.0 i h)) in
          ltb-true v (count t variables) (and_true _ (is_pointer (item t variables v 0)) k.0).0;
      room = λ i h.
          leb-true (register_start (1 + count t variables) l (suc i)) len
          (require_passes _ 15 (register_place l i + 1) (each_passes (register_count l) (room_fault (1 + count t variables) l len) p1.1 i h));
    }

-- ---- the invariant

length_taken : (n : ℕ) (l : Words) → length (take n l) ≤ n
length_taken zero l = omega arith
length_taken (suc n) [] = omega arith
length_taken (suc n) (x ∷ l) = omega (arith, length_taken n l)

-- Stores from index i on change nothing past the last of them.
pub sets_other : (l : Words) (i : ℕ) (xs : Words) (w : ℕ) → i + length xs ≤ w → word (sets l i xs) w ≡ word l w
sets_other l i [] w h = refl
sets_other l i (x ∷ xs) w h =
    sets_other (set l i x) (suc i) xs w (omega arith) ∙ get_or-set_other l i w x 0 (λ e. omega arith)

register_inv : {vars len : ℕ} {s : State} (v n : ℕ) (ws : Words) → v < vars → length ws ≤ n → s.unused + n ≤ len → Inv vars len s
    → Inv vars len (with_register v n ws s)
register_inv v zero ws known fits room inv = pointer_inv (1 + v) (unbounded 0) (omega (arith, inv.low)) inv (record { sound = absent refl refl })
register_inv {s = s} v (suc n) ws known fits room inv =
    let same : zeroed s.values s.unused (suc n) ≡ s.values = zeroed_clear s.values s.unused (suc n) (λ w h. (inv.clear w h).0) in
    pointer_inv (1 + v) (block_pointer s.unused (suc n)) (omega (arith, inv.low))
    (values_inv (sets s.values s.unused ws) (length-sets s.values s.unused ws ∙ ap length (sym same))
    (λ w h. sets_other s.values s.unused ws w (omega arith) ∙ ap (λ l. word l w) (sym same)) (block_inv (suc n) (omega arith) inv room))
    (record { sound = held (block_held (suc n) s (omega arith)) })

register_unused : (v n : ℕ) (ws : Words) (s : State) → (with_register v n ws s).unused ≡ s.unused + n
register_unused v zero ws s = omega arith
register_unused v (suc n) ws s = refl

-- U after the registers below i.
pub registers_unused : (l : Words) (i : ℕ) (s : State) → (registers_below l i s).unused ≡ s.unused + sum_below i (λ j. register_length l j)
unfolding registers_below sum_below
registers_unused l zero s = omega arith
registers_unused l (suc i) s = omega (arith, register_unused (register_variable l i) (register_length l i) (register_words l i) (registers_below l i s), registers_unused l i s)

pub registers_inv : {t l : Words} {len : ℕ} {s : State} → Listed t l len → s.unused ≡ 1 + count t variables → Inv (count t variables) len s
    → (i : ℕ) → i ≤ register_count l → Inv (count t variables) len (registers_below l i s)
unfolding registers_below register_start sum_below
registers_inv ok first inv zero h = inv
registers_inv {t} {l} {len} {s} ok first inv (suc i) h =
    register_inv (register_variable l i) (register_length l i) (register_words l i) (ok.named i h) (length_taken (register_length l i) (drop (register_place l i + 2) l))
    (omega (arith, registers_unused l i s, ok.room i h)) (registers_inv ok first inv i (omega arith))
