-- Laws of counting uses.
use Rattle.std.specs.Prelude.{if◌then◌else◌}
use Prim.Native.Nat.{ℕ, zero, suc, ◌+◌, ◌*◌, ◌≤◌}
use mathlib.Core.Bool.{Bool, true, false}
use mathlib.Core.Path.{◌≡◌}
use mathlib.Core.List.{[], ◌∷◌}
use native.Mathlib.Omega.{arith}
use lib.Dec.{eqb}
use lib.ListN.{length}
use Rattle.semantics.specs.Words.{Words, word, sum_below}
use Rattle.semantics.specs.Check.{occurrences}
use Rattle.nodes.specs.Promises.{Counted}

-- One use counts at most one.
pub counted_few : {used used' : Words} {x : ℕ} → Counted used used' (x ∷ []) → (i : ℕ) → word used' i ≤ word used i + 1
counted_few {used} {used'} {x} h i = go (eqb x i) (h.more i)
  where
    go : (b : Bool) → word used' i ≡ word used i + ((if b then 1 else 0) + 0) → word used' i ≤ word used i + 1
    go true e = omega arith
    go false e = omega arith

occurrences_few : (i : ℕ) (l : Words) → occurrences i l ≤ length l
occurrences_few i [] = omega arith
occurrences_few i (x ∷ xs) = go (eqb x i) (occurrences_few i xs)
  where
    go : (b : Bool) → occurrences i xs ≤ length xs → (if b then 1 else 0) + occurrences i xs ≤ suc (length xs)
    go true h = omega arith
    go false h = omega arith

-- Lists of at most two use a node at most twice as often as there are lists.
pub uses_few : (n i : ℕ) (f : ℕ → Words) → ((m : ℕ) → length (f m) ≤ 2) → sum_below n (λ m. occurrences i (f m)) ≤ 2 * n
unfolding sum_below
uses_few zero i f h = omega arith
uses_few (suc n) i f h = omega (arith, uses_few n i f h, occurrences_few i (f n), h n)
