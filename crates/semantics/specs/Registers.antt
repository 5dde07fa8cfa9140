-- Request 1, "Registers handed in": the list of words that a run also takes, "a count of registers, at most 16, then for each a variable
-- number, a length n, and n words". As with a table, a word past the list's end counts as 0, and a list that is cut short is refused.
use Rattle.std.specs.Prelude.{ℕ, zero, suc, ◌+◌, take, drop}
use Rattle.semantics.specs.Words.{Words, word, sum_below}

abbrev pub register_count : Words → ℕ
register_count l = word l 0

-- Where register i stands, its variable number first; for i the count, where the list ends.
unfoldable pub register_place : Words → ℕ → ℕ
register_place l zero = 1
register_place l (suc i) = register_place l i + 2 + word l (register_place l i + 1)

abbrev pub register_variable : Words → ℕ → ℕ
register_variable l i = word l (register_place l i)

abbrev pub register_length : Words → ℕ → ℕ
register_length l i = word l (register_place l i + 1)

abbrev pub register_words : Words → ℕ → Words
register_words l i = take (register_length l i) (drop (register_place l i + 2) l)

-- "The registers become blocks after the variables, in order": the first word of register i where the first register's is `first`; also the
-- first word after the register before it.
unfoldable pub register_start : ℕ → Words → ℕ → ℕ
register_start first l i = first + sum_below i (λ j. register_length l j)
