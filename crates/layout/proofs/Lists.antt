-- Laws of lists that are filled, and of the first that a check refuses.
use Prim.Native.Nat.{ℕ, zero, suc, ◌+◌, ◌≤◌, ◌<◌}
use mathlib.Core.Path.{◌≡◌, refl, sym, ap, ◌∙◌}
use native.Mathlib.Omega.{arith}
use native.Mathlib.Nat.{not-suc-le-zero}
use native.Mathlib.Numerals.{add-one}
use native.Mathlib.Decide.{ℕ_discrete}
use borrow.Author.Tests.{le-ltb, lt-ltb}
use mathlib.Core.List.{◌++◌}
use lib.ListN.{length, take, drop, set, length-set}
use Rattle.std.proofs.lemmas.List.{length-take-le, take-append-drop, set-append_left}
use lib.Seq.{get_or-set_same, get_or-set_other, set-set}
use Rattle.semantics.specs.Words.{Words, word, least_below}
use Rattle.semantics.specs.Check.{Verdict, passes, refused, each}
use Rattle.semantics.proofs.Passed.{or_else_passes}
use Rattle.layout.specs.Lists.{filled, passed_below}
use Rattle.layout.specs.Types.{Tabulated}

module _ (l : Words) (at : ℕ) (g : ℕ → ℕ) where
  pub filled_none : filled l at 0 g ≡ l
  unfolding filled
  filled_none = refl

  -- One word more.
  pub filled_more : (n k v : ℕ) {l' : Words} → l' ≡ filled l at n g → k ≡ at + n → v ≡ g n → set l' k v ≡ filled l at (n + 1) g
  unfolding filled
  filled_more n k v e p q = rw (add-one n, e, p, q)

  pub filled_length : (n : ℕ) → length (filled l at n g) ≡ length l
  unfolding filled
  filled_length zero = refl
  filled_length (suc n) = length-set (filled l at n g) (at + n) (g n) ∙ filled_length n

  -- Words before the place are as they were.
  pub filled_before : (n k : ℕ) → k < at → word (filled l at n g) k ≡ word l k
  unfolding filled
  filled_before zero k h = refl
  filled_before (suc n) k h = get_or-set_other (filled l at n g) (at + n) k (g n) 0 (λ e. omega arith) ∙ filled_before n k h

  -- And so are those after the last.
  pub filled_after : (n k : ℕ) → at + n ≤ k → word (filled l at n g) k ≡ word l k
  unfolding filled
  filled_after zero k h = refl
  filled_after (suc n) k h = get_or-set_other (filled l at n g) (at + n) k (g n) 0 (λ e. omega arith) ∙ filled_after n k (omega arith)

  pub filled_at : (n i k : ℕ) → k ≡ at + i → at + n ≤ length l → i < n → word (filled l at n g) k ≡ g i
  unfolding filled
  filled_at zero i k e h less = absurd (not-suc-le-zero less)
  filled_at (suc n) i k e h less = go (ℕ_discrete i n) (λ (below : i < n). filled_at n i k e (omega arith) below)
    where
      go : Dec (i ≡ n) → (i < n → word (filled l at n g) k ≡ g i) → word (set (filled l at n g) (at + n) (g n)) k ≡ g i
      go (yes q) below = rw (e, q) (get_or-set_same (filled l at n g) (at + n) (g n) 0 (omega (arith, filled_length n)))
      go (no q) below = get_or-set_other (filled l at n g) (at + n) k (g n) 0 (λ z. omega arith) ∙ below (omega arith)

-- A part is filled as the whole is.
filled_append : (a b : Words) (g : ℕ → ℕ) (n : ℕ) → n ≤ length a → filled a 0 n g ++ b ≡ filled (a ++ b) 0 n g
unfolding filled
filled_append a b g zero h = refl
filled_append a b g (suc n) h =
    sym (set-append_left (filled a 0 n g) b (0 + n) (g n) (omega (arith, filled_length a 0 g n))) ∙ ap (λ (k : Words). set k (0 + n) (g n)) (filled_append a b g n (omega arith))

pub filled_front : (n : ℕ) (l : Words) (g : ℕ → ℕ) → n ≤ length l → filled (take n l) 0 n g ++ drop n l ≡ filled l 0 n g
filled_front n l g h = filled_append (take n l) (drop n l) g n (omega (arith, length-take-le n l h)) ∙ ap (λ (k : Words). filled k 0 n g) (take-append-drop n l)

-- What its first word was before makes no difference.
pub filled_again : (l : Words) (n v : ℕ) (g : ℕ → ℕ) → filled (set l 0 v) 0 (n + 1) g ≡ filled l 0 (n + 1) g
unfolding filled
filled_again l n v g = rw (add-one n) (go n)
  where
    go : (n : ℕ) → filled (set l 0 v) 0 (suc n) g ≡ filled l 0 (suc n) g
    go zero = set-set l 0 v (g 0)
    go (suc n) = ap (λ (k : Words). set k (0 + suc n) (g (suc n))) (go n)

-- A list that is filled from its start.
pub filled_tabulated : (l : Words) (n : ℕ) (g : ℕ → ℕ) {l' : Words} → n < length l → l' ≡ filled l 0 (n + 1) g → Tabulated l' n g
filled_tabulated l n g h e = record { holds = λ k less. rw e (filled_at l 0 g (n + 1) k k (omega arith) (omega arith) (omega arith)) }

-- ---- the first that is refused

module _ (f : ℕ → Verdict) where
  pub passed_all : (n : ℕ) → each n f ≡ passes → passed_below n f ≡ n
  unfolding passed_below least_below each
  passed_all zero e = refl
  passed_all (suc n) e =
      let p = or_else_passes (each n f) (f n) e in
      rw (passed_all n p.0, le-ltb n n (omega arith), p.1)

  pub passed_to : (i n : ℕ) {a p : ℕ} → each i f ≡ passes → i < n → f i ≡ refused a p → passed_below n f ≡ i
  unfolding passed_below least_below
  passed_to i zero before h r = absurd (not-suc-le-zero h)
  passed_to i (suc n) before h r = go (ℕ_discrete i n) (λ (less : i < n). passed_to i n before less r)
    where
      go : Dec (i ≡ n) → (i < n → passed_below n f ≡ i) → passed_below (suc n) f ≡ i
      go (yes q) below = rw (← q, passed_all i before, le-ltb i i (omega arith), r)
      go (no q) below = let less : i < n = omega arith in rw (below less, lt-ltb i n less)
