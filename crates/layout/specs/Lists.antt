-- What a lent list holds at exit, as one equation for all its words: after a loop has stored in it, and where a check ends it early.
use Rattle.std.specs.Prelude.{ℕ, zero, suc, ◌+◌, Bool, true, false, set}
use Rattle.semantics.specs.Words.{Words, least_below}
use Rattle.semantics.specs.Check.{Verdict, passes, refused}

-- The list with g 0, g 1, .., n words in all, from place `at` on; its other words are as they were.
unfoldable pub filled : Words → ℕ → ℕ → (ℕ → ℕ) → Words
filled l at zero g = l
filled l at (suc n) g = set (filled l at n g) (at + n) (g n)

-- One list where the check says that it passes, another where it refuses.
abbrev pub by_verdict : Verdict → Words → Words → Words
by_verdict passes l k = l
by_verdict (refused n p) l k = k

abbrev pub refuses : Verdict → Bool
refuses passes = false
refuses (refused n p) = true

-- How many of the first n pass before the first that f refuses.
unfoldable pub passed_below : ℕ → (ℕ → Verdict) → ℕ
passed_below n f = least_below n (λ i. refuses (f i))
