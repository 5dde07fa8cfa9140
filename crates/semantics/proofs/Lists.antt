-- Laws of the definitions of specs/Words.antt.
use Rattle.std.specs.Prelude.{if◌then◌else◌}
use Prim.Native.Nat.{ℕ, zero, suc, ◌+◌, ◌*◌, ◌≤◌, ◌<◌}
use mathlib.Core.Bool.{Bool, true, false, ◌||◌, false≢true}
use mathlib.Core.Path.{◌≡◌, refl, sym, ap, ◌∙◌}
use mathlib.Core.Logic.{◌⊎◌, inl, inr}
use mathlib.Core.List.{List, [], ◌∷◌, ◌++◌}
use native.Mathlib.Omega.{arith}
use native.Mathlib.Nat.{not-suc-le-zero, add-zero}
use native.Mathlib.Decide.{ℕ_discrete}
use borrow.Author.Tests.{ltb-true, lt-ltb, le-ltb}
use lib.Dec.{ltb}
use lib.ListN.{length, get_or, replicate, set, length-set, length-append, length-replicate, get_or-append}
use lib.Seq.{get_or_at, get_or-set_same, get_or-set_other, set-get_or, sets, length-sets}
use Rattle.semantics.specs.Words.{Words, word, zeroed, words_from, moved, sum_below, any_below, all_below, least_below, grow}

module _ {A : Type 0} (f : ℕ → List A → A) where
  pub length_grow : (n : ℕ) → length (grow f n) ≡ n
  unfolding grow
  length_grow zero = refl
  length_grow (suc n) = omega (arith, length-append (grow f n) (f n (grow f n) ∷ []), length_grow n)

  -- An element of the list is what f gave when the list had grown to it.
  pub get_d_grow : (d : A) (n i : ℕ) → i < n → get_or (grow f n) i d ≡ f i (grow f i)
  unfolding grow
  get_d_grow d zero i h = absurd (not-suc-le-zero h)
  get_d_grow d (suc n) i h = go (ℕ_discrete i n) (get_d_grow d n i)
    where
      go : Dec (i ≡ n) → (i < n → get_or (grow f n) i d ≡ f i (grow f i)) → get_or (grow f n ++ (f n (grow f n) ∷ [])) i d ≡ f i (grow f i)
      go (yes e) below = rw e (get_or_at (grow f n) (f n (grow f n)) [] d n (length_grow n))
      go (no e) below =
          let less : i < n = omega arith in
          get_or-append (grow f n) (f n (grow f n) ∷ []) d i (omega (arith, length_grow n)) ∙ below less

-- A function that rises at each step rises.
pub rises : (f : ℕ → ℕ) → ((n : ℕ) → f n ≤ f (suc n)) → (m n : ℕ) → m ≤ n → f m ≤ f n
rises f step m zero h = rw (m_zero) (omega arith)
  where
    m_zero : m ≡ 0
    m_zero = omega arith
rises f step m (suc n) h = go (ℕ_discrete m (suc n)) (rises f step m n)
  where
    go : Dec (m ≡ suc n) → (m ≤ n → f m ≤ f n) → f m ≤ f (suc n)
    go (yes e) below = rw e (omega arith)
    go (no e) below = omega (arith, below (omega arith), step n)

-- A sum is at least any of its first terms' sum.
pub sum-below-≤ : (f : ℕ → ℕ) (m n : ℕ) → m ≤ n → sum_below m f ≤ sum_below n f
unfolding sum_below
sum-below-≤ f = rises (λ n. sum_below n f) (λ n. omega arith)

-- A sum in two parts: the first m terms, and k terms from there on.
pub sum_below_+ : (f : ℕ → ℕ) (m k : ℕ) → sum_below (m + k) f ≡ sum_below m f + sum_below k (λ i. f (m + i))
unfolding sum_below
sum_below_+ f m zero =
    let e : m + 0 ≡ m = omega arith in
    rw e (omega arith)
sum_below_+ f m (suc k) =
    let e : m + suc k ≡ suc (m + k) = omega arith in
    rw e (omega (arith, sum_below_+ f m k))

-- A sum of n terms that are at most c each.
pub sum_below_most : (f : ℕ → ℕ) (c n : ℕ) → ((i : ℕ) → i < n → f i ≤ c) → sum_below n f ≤ n * c
unfolding sum_below
sum_below_most f c zero h = omega arith
sum_below_most f c (suc n) h = omega (arith, sum_below_most f c n (λ i less. h i (omega arith)), h n (omega arith))

-- Some number below n has the property exactly where the least such number is below n.
pub any_least : (n : ℕ) (p : ℕ → Bool) → any_below n p ≡ ltb (least_below n p) n
unfolding any_below least_below
any_least zero p = refl
any_least (suc n) p = go (any_below n p) (ltb (least_below n p) n) refl (p n) (any_least n p)
  where
    go : (a b : Bool) → ltb (least_below n p) n ≡ b → (c : Bool) → a ≡ b → a || c ≡ ltb (if b then least_below n p else if c then n else suc n) (suc n)
    go true true q c e = sym (lt-ltb (least_below n p) (suc n) (omega (arith, ltb-true (least_below n p) n q)))
    go false false q true e = sym (lt-ltb n (suc n) (omega arith))
    go false false q false e = sym (le-ltb (suc n) (suc n) (omega arith))
    go true false q c e = absurd (false≢true (sym e))
    go false true q c e = absurd (false≢true e)

pub all_true : (n : ℕ) (p : ℕ → Bool) → ((i : ℕ) → i < n → p i ≡ true) → all_below n p ≡ true
unfolding all_below
all_true zero p h = refl
all_true (suc n) p h = rw (all_true n p (λ i less. h i (omega arith)), h n (omega arith)) refl

-- Words stored from index i on stand there, as far as the list goes; all others are as they were.
pub sets_outside : (l : Words) (i : ℕ) (xs : Words) (w : ℕ) → (w < i) ⊎ (i + length xs ≤ w) → word (sets l i xs) w ≡ word l w
sets_outside l i [] w h = refl
sets_outside l i (x ∷ xs) w h = sets_outside (set l i x) (suc i) xs w (further h) ∙ get_or-set_other l i w x 0 (λ e. elsewhere e h)
  where
    further : (w < i) ⊎ (i + suc (length xs) ≤ w) → (w < suc i) ⊎ (suc i + length xs ≤ w)
    further (inl k) = inl (omega arith)
    further (inr k) = inr (omega arith)

    elsewhere : w ≡ i → (w < i) ⊎ (i + suc (length xs) ≤ w) → ⊥
    elsewhere e (inl k) = omega arith
    elsewhere e (inr k) = omega arith

sets_inside : (l : Words) (i : ℕ) (xs : Words) (j : ℕ) → j < length xs → i + j < length l → word (sets l i xs) (i + j) ≡ word xs j
sets_inside l i [] j less fits = absurd (not-suc-le-zero less)
sets_inside l i (x ∷ xs) zero less fits =
    let at : i + 0 ≡ i = omega arith in
    rw at (sets_outside (set l i x) (suc i) xs i (inl (omega arith)) ∙ get_or-set_same l i x 0 (omega arith))
sets_inside l i (x ∷ xs) (suc j) less fits =
    let at : i + suc j ≡ suc i + j = omega arith in
    rw at (sets_inside (set l i x) (suc i) xs j (omega arith) (omega (arith, length-set l i x)))

pub from_length : (l : Words) (from n : ℕ) → length (words_from l from n) ≡ n
unfolding words_from
from_length l from zero = refl
from_length l from (suc n) = ap suc (from_length l (suc from) n)

from_word : (l : Words) (from n i : ℕ) → i < n → word (words_from l from n) i ≡ word l (from + i)
unfolding words_from
from_word l from zero i less = absurd (not-suc-le-zero less)
from_word l from (suc n) zero less = rw (add-zero from) refl
from_word l from (suc n) (suc i) less =
    let at : from + suc i ≡ suc from + i = omega arith in
    rw at (from_word l (suc from) n i (omega arith))

-- Where words were moved to stands what stood where they came from; all other words are as they were.
pub moved_length : (l : Words) (to from n : ℕ) → length (moved l to from n) ≡ length l
unfolding moved
moved_length l to from n = length-sets l to (words_from l from n)

-- In a list of no words nothing is stored.
pub sets_nil : (i : ℕ) (xs : Words) → sets {A = ℕ} [] i xs ≡ []
sets_nil i [] = refl
sets_nil i (x ∷ xs) = sets_nil (suc i) xs

pub moved_nil : (to from n : ℕ) → moved [] to from n ≡ []
unfolding moved
moved_nil to from n = sets_nil to (words_from [] from n)

pub moved_outside : (l : Words) (to from n w : ℕ) → (w < to) ⊎ (to + n ≤ w) → word (moved l to from n) w ≡ word l w
unfolding moved
moved_outside l to from n w h = sets_outside l to (words_from l from n) w (rw (from_length l from n) h)

pub moved_inside : (l : Words) (to from n i : ℕ) → i < n → to + i < length l → word (moved l to from n) (to + i) ≡ word l (from + i)
unfolding moved
moved_inside l to from n i less fits =
    sets_inside l to (words_from l from n) i (rw (from_length l from n) less) fits ∙ from_word l from n i less

-- Clearing clear words changes nothing.
pub zeroed_clear : (l : Words) (from n : ℕ) → ((w : ℕ) → from ≤ w → word l w ≡ 0) → zeroed l from n ≡ l
unfolding zeroed
zeroed_clear l from zero h = refl
zeroed_clear l from (suc n) h =
    let same : set l from 0 ≡ l = rw (h from (omega arith)) at (set-get_or l from 0) in
    ap (λ k. sets k (suc from) (replicate n 0)) same ∙ zeroed_clear l (suc from) n (λ w k. h w (omega arith))

-- Words outside the cleared ones are as they were; those inside are 0, also past the end of the list.
pub zeroed_outside : (l : Words) (from n w : ℕ) → (w < from) ⊎ (from + n ≤ w) → word (zeroed l from n) w ≡ word l w
unfolding zeroed
zeroed_outside l from n w h = sets_outside l from (replicate n 0) w (rw (length-replicate {A = ℕ} n 0) h)

pub zeroed_inside : (l : Words) (from n w : ℕ) → from ≤ w → w < from + n → word (zeroed l from n) w ≡ 0
unfolding zeroed
zeroed_inside l from zero w h k = absurd (omega arith)
zeroed_inside l from (suc n) w h k = go (ℕ_discrete w from) (zeroed_inside (set l from 0) (suc from) n w) (zeroed_outside (set l from 0) (suc from) n w)
  where
    at_first : (m : Words) (i : ℕ) → word (set m i 0) i ≡ 0
    at_first [] i = refl
    at_first (x ∷ m) zero = refl
    at_first (x ∷ m) (suc i) = at_first m i

    go : Dec (w ≡ from) → (suc from ≤ w → w < suc from + n → word (zeroed (set l from 0) (suc from) n) w ≡ 0)
        → ((w < suc from) ⊎ (suc from + n ≤ w) → word (zeroed (set l from 0) (suc from) n) w ≡ word (set l from 0) w)
        → word (zeroed (set l from 0) (suc from) n) w ≡ 0
    go (yes e) later kept = kept (inl (omega arith)) ∙ rw e (at_first l from)
    go (no e) later kept = later (omega arith) (omega arith)
