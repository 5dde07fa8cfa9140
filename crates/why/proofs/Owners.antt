-- The walk along a register list, up to the register that has a word.
use Prim.Native.Nat.{ℕ, zero, suc, ◌+◌, ◌-◌, ◌≤◌, ◌<◌}
use mathlib.Core.Bool.{Bool, true, false}
use mathlib.Core.Path.{◌≡◌, refl}
use native.Mathlib.Omega.{arith}
use native.Mathlib.Nat.{not-suc-le-zero}
use native.Mathlib.Numerals.{add-one}
use native.Mathlib.Decide.{ℕ_discrete}
use borrow.Author.Tests.{lt-ltb, le-ltb, le-leb, lt-leb}
use lib.Dec.{ltb}
use Rattle.semantics.specs.Words.{Words, word, least_below}
use Rattle.semantics.specs.Registers.{register_count, register_place, register_start}
use Rattle.why.specs.Owners.{register_with, owner_above, owner_of}
use Rattle.why.specs.declared.Owner.TheVariants.{Variable, Register, Block}

-- ---- the least number that a test holds of, where it holds of none below i

module _ (p : ℕ → Bool) where
  none_below : least_below 0 p ≡ 0
  unfolding least_below
  none_below = refl

  none_more : (i : ℕ) → least_below i p ≡ i → p i ≡ false → least_below (suc i) p ≡ suc i
  unfolding least_below
  none_more i none e = rw (none, le-ltb i i (omega arith), e)

  found : (i n : ℕ) → i < n → least_below i p ≡ i → p i ≡ true → least_below n p ≡ i
  unfolding least_below
  found i zero h none e = absurd (not-suc-le-zero h)
  found i (suc n) h none e = go (ℕ_discrete i n) (λ (less : i < n). found i n less none e)
    where
      go : Dec (i ≡ n) → (i < n → least_below n p ≡ i) → least_below (suc n) p ≡ i
      go (yes q) below = rw (← q, none, le-ltb i i (omega arith), e)
      go (no q) below = let less : i < n = omega arith in rw (below less, lt-ltb i n less)

-- ---- registers

module _ (first : ℕ) (l : Words) (w : ℕ) where
  -- Word w is past the registers below i.
  pub record Past (i : ℕ) : Type 0 where
    pub none : least_below i (λ j. ltb w (register_start first l (suc j))) ≡ i

  pub past_none : Past 0
  past_none = record { none = none_below (λ j. ltb w (register_start first l (suc j))) }

  module _ (i : ℕ) (h : Past i) where
    pub past_more : register_start first l (i + 1) ≤ w → Past (i + 1)
    past_more le =
        let e : register_start first l (suc i) ≤ w = rw add-one at le in
        record { none = rw add-one (none_more (λ j. ltb w (register_start first l (suc j))) i h.none (le-ltb w (register_start first l (suc i)) e)) }

    pub in_register : {v : ℕ} → i < register_count l → w < register_start first l (i + 1) → v ≡ word l (register_place l i) → Register i v ≡ owner_above first l w
    unfolding owner_above register_with
    in_register less below e =
        let b : w < register_start first l (suc i) = rw add-one at below in
        rw (found (λ j. ltb w (register_start first l (suc j))) i (register_count l) less h.none (lt-ltb w (register_start first l (suc i)) b), lt-ltb i (register_count l) less, e)

  pub past_all : Past (register_count l) → Block w ≡ owner_above first l w
  unfolding owner_above register_with
  past_all h = rw (h.none, le-ltb (register_count l) (register_count l) (omega arith))

-- ---- variables

module _ (vars : ℕ) (l : Words) (w : ℕ) where
  pub in_variable : 1 ≤ w → w ≤ vars → Variable (w - 1) ≡ owner_of vars l w
  unfolding owner_of
  in_variable h k = rw (le-leb 1 w h, le-leb w vars k)

  -- Word 0 is no variable.
  pub below_variables : w < 1 → owner_above (vars + 1) l w ≡ owner_of vars l w
  unfolding owner_of
  below_variables h = rw (lt-leb 1 w h)

  pub above_variables : 1 ≤ w → vars < w → owner_above (vars + 1) l w ≡ owner_of vars l w
  unfolding owner_of
  above_variables h k = rw (le-leb 1 w h, lt-leb w vars k)
