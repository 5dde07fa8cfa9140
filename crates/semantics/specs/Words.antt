-- Lists of words, and the ways in which the definitions go over numbers: a sum, any, all, the least, a list that grows.
use Rattle.std.specs.Prelude.{ℕ, zero, suc, ◌+◌, Bool, true, false, ◌&&◌, ◌||◌, List, [], ◌∷◌, ◌++◌, get_or, replicate, ltb, eqb, if◌then◌else◌}
use Rattle.std.proofs.lemmas.List.Edits.{sets}

-- A table, an input list and each list of the lent memory.
abbrev pub Words : Type 0
Words = List ℕ

-- Word i of a list, 0 past its end.
abbrev pub word : Words → ℕ → ℕ
word l i = get_or l i 0

-- A list with 0 in the n words from `from` on.
unfoldable pub zeroed : Words → ℕ → ℕ → Words
zeroed l from n = sets l from (replicate n 0)

-- The sum of f over the numbers below n.
unfoldable pub sum_below : ℕ → (ℕ → ℕ) → ℕ
sum_below zero f = 0
sum_below (suc n) f = sum_below n f + f n

-- p holds of some number below n.
unfoldable pub any_below : ℕ → (ℕ → Bool) → Bool
any_below zero p = false
any_below (suc n) p = any_below n p || p n

-- p holds of every number below n.
unfoldable pub all_below : ℕ → (ℕ → Bool) → Bool
all_below zero p = true
all_below (suc n) p = all_below n p && p n

-- f gives for i what it gave for a number before it.
unfoldable pub seen_before : (ℕ → ℕ) → ℕ → Bool
seen_before f i = any_below i (λ j. eqb (f j) (f i))

-- The least number below n that p holds of, or n if there is none.
unfoldable pub least_below : ℕ → (ℕ → Bool) → ℕ
least_below zero p = 0
least_below (suc n) p = if ltb (least_below n p) n then least_below n p else if p n then n else suc n

-- The list of f at 0, 1, .. below n, where f is also given the list so far.
unfoldable pub grow : {A : Type 0} → (ℕ → List A → A) → ℕ → List A
grow f zero = []
grow f (suc n) = grow f n ++ (f n (grow f n) ∷ [])

-- The n words of a list from `from` on.
unfoldable pub words_from : Words → (from n : ℕ) → Words
words_from l from zero = []
words_from l from (suc n) = word l from ∷ words_from l (suc from) n

-- A list whose n words from `from` on stand from `to` on as well, as they were before.
unfoldable pub moved : Words → (to from n : ℕ) → Words
moved l to from n = sets l to (words_from l from n)
