-- What a test that the definitions make tells when it is true and when it is false.
use Rattle.std.specs.Prelude.{if◌then◌else◌}
use Prim.Native.Nat.{ℕ, zero, suc, ◌+◌, ◌-◌, ◌≤◌, ◌<◌}
use mathlib.Core.Bool.{Bool, true, false, ◌&&◌, ◌||◌}
use mathlib.Core.Path.{◌≡◌, refl}
use mathlib.Core.Logic.{◌⊎◌, inl, inr}
use native.Mathlib.Omega.{arith}
use borrow.Author.Tests.{leb-true, leb-false, ltb-true, ltb-false, le-leb}
use lib.Dec.{leb, ltb}
use Rattle.semantics.specs.Rules.{Datum, Location, tested, State, noted, Outcome, ok, fails, words_left, enough_left, check_of, checked}

pub and_true : (a b : Bool) → a && b ≡ true → (a ≡ true) × (b ≡ true)
and_true true b e = (refl, e)
and_true false b e = absurd (never e)
  where
    never : false ≡ true → ⊥
    never q = mathlib.Core.Bool.false≢true q

pub and_both : (a b : Bool) → a ≡ true → b ≡ true → a && b ≡ true
and_both a b p q = rw (p, q)

pub or_true : (a b : Bool) → a || b ≡ true → (a ≡ true) ⊎ (b ≡ true)
or_true true b e = inl refl
or_true false b e = inr e

pub lt_or_le : (m n : ℕ) → (m < n) ⊎ (n ≤ m)
lt_or_le m n = go (ltb m n) refl
  where
    go : (b : Bool) → ltb m n ≡ b → (m < n) ⊎ (n ≤ m)
    go true e = inl (ltb-true m n e)
    go false e = inr (ltb-false m n e)

-- A number that is at least j and not j.
pub past : {j k : ℕ} → j ≤ k → (k ≡ j → ⊥) → suc j ≤ k
past less other = omega arith

-- Whether a word lies among the k words from `to` on.
pub data Lies (to k w : ℕ) : Type 0 where
  inside : (i : ℕ) → i < k → w ≡ to + i → Lies to k w
  outside : (w < to) ⊎ (to + k ≤ w) → Lies to k w

pub lies : (to k w : ℕ) → Lies to k w
lies to k w = go (lt_or_le w to) (lt_or_le w (to + k))
  where
    go : (w < to) ⊎ (to ≤ w) → (w < to + k) ⊎ (to + k ≤ w) → Lies to k w
    go (inl below) upto = outside (inl below)
    go (inr from) (inl upto) = inside (w - to) (omega arith) (omega arith)
    go (inr from) (inr above) = outside (inr above)

-- ---- how many words are left

-- The place is within the bounds, and so are all words up to their end; or it is outside them, and none is left.
pub data WordsLeft (b e w n : ℕ) : Type 0 where
  place_inside : b ≤ w → 1 ≤ n → w + n ≡ e → WordsLeft b e w n
  place_outside : (b ≤ w → w + 1 ≤ e → ⊥) → n ≡ 0 → WordsLeft b e w n

left_by : (b e w : ℕ) (x y : Bool) → leb b w ≡ x → ltb w e ≡ y → WordsLeft b e w (words_left b e w)
unfolding words_left
left_by b e w true true p q =
    let from = leb-true b w p in
    let less = ltb-true w e q in
    rw (p, q) (place_inside from (omega arith) (omega arith))
left_by b e w true false p q = let over = ltb-false w e q in rw (p, q) (place_outside (λ from upto. omega arith) (omega arith))
left_by b e w false y p q = let under = leb-false b w p in rw p (place_outside (λ from upto. omega arith) (omega arith))

pub words_are_left : (b e w : ℕ) → WordsLeft b e w (words_left b e w)
words_are_left b e w = left_by b e w (leb b w) (ltb w e) refl refl

-- It is known by that: of no other number is it so.
pub one_number : {b e w n m : ℕ} → WordsLeft b e w n → WordsLeft b e w m → n ≡ m
one_number (place_inside from some end) (place_inside from' some' end') = omega arith
one_number (place_inside from some end) (place_outside out none) = absurd (out from (omega arith))
one_number (place_outside out none) (place_inside from some end) = absurd (out from (omega arith))
one_number (place_outside out none) (place_outside out' none') = omega arith

-- "how many words, from a given place on, lie within the bounds": each of the first n does, and the next one does not. "Word w lies within [b, e)
-- when b ≤ w and w + 1 ≤ e."
module _ {b e w n : ℕ} where
  pub each_lies_within : WordsLeft b e w n → (i : ℕ) → i < n → (b ≤ w + i) × (w + i + 1 ≤ e)
  each_lies_within (place_inside from some end) i less = (omega arith, omega arith)
  each_lies_within (place_outside out none) i less = absurd (omega arith)

  pub next_lies_outside : WordsLeft b e w n → b ≤ w + n → w + n + 1 ≤ e → ⊥
  next_lies_outside (place_inside from some end) p q = omega arith
  next_lies_outside (place_outside out none) p q = out (omega arith) (omega arith)

-- At least k words are left, for k above 0, exactly where the words [w, w + k) lie within [b, e).
module _ {b e w n k : ℕ} where
  pub left_inside : WordsLeft b e w n → 1 ≤ k → k ≤ n → (b ≤ w) × (w + k ≤ e)
  left_inside (place_inside from some end) asked enough = (from, omega arith)
  left_inside (place_outside out none) asked enough = absurd (omega arith)

  inside_left : WordsLeft b e w n → b ≤ w → w + k ≤ e → k ≤ n
  inside_left (place_inside from some end) p q = omega arith
  inside_left (place_outside out none) p q = go k q
    where
      go : (j : ℕ) → w + j ≤ e → j ≤ n
      go zero r = omega arith
      go (suc j) r = absurd (out p (omega arith))

pub enough_true : (p : Datum) (w k : ℕ) → enough_left p w k ≡ true → 1 ≤ k → (p.base ≤ w) × (w + k ≤ p.end)
unfolding enough_left
enough_true p w k e some = left_inside (words_are_left p.base p.end w) some (leb-true k (words_left p.base p.end w) e)

pub enough_false : (p : Datum) (w k : ℕ) → enough_left p w k ≡ false → p.base ≤ w → w + k ≤ p.end → ⊥
unfolding enough_left
enough_false p w k e from upto =
    let short = leb-false k (words_left p.base p.end w) e in
    let enough = inside_left {k = k} (words_are_left p.base p.end w) from upto in
    omega arith

-- ---- a check

-- Where enough words are left it is passed.
pub check_enough : (n : ℕ) (p : Datum) (w k : ℕ) (l : Location) (s : State) → k ≤ words_left p.base p.end w
    → checked n p w k l s ≡ ok l (noted (tested (check_of n p w k)) s)
unfolding checked enough_left
check_enough n p w k l s enough = rw (le-leb k (words_left p.base p.end w) enough)

-- What a check comes to: it is logged, and is passed or not. Of one that asks for no word, that it is passed says nothing.
pub data CheckMade (n : ℕ) (p : Datum) (w k : ℕ) (l : Location) (s : State) : Outcome Location → Type 0 where
  check_passed : (1 ≤ k → (p.base ≤ w) × (w + k ≤ p.end)) → CheckMade n p w k l s (ok l (noted (tested (check_of n p w k)) s))
  check_missed : (p.base ≤ w → w + k ≤ p.end → ⊥) → CheckMade n p w k l s (fails (check_of n p w k) (noted (tested (check_of n p w k)) s))

pub check_made : (n : ℕ) (p : Datum) (w k : ℕ) (l : Location) (s : State) → CheckMade n p w k l s (checked n p w k l s)
unfolding checked
check_made n p w k l s = go (enough_left p w k) refl
  where
    go : (b : Bool) → enough_left p w k ≡ b
        → CheckMade n p w k l s (if b then ok l (noted (tested (check_of n p w k)) s) else fails (check_of n p w k) (noted (tested (check_of n p w k)) s))
    go true e = check_passed (enough_true p w k e)
    go false e = check_missed (enough_false p w k e)
