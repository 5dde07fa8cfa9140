-- Request 5, "How many words are left": the number by itself, and runs in the setting of specs/RunExamples.antt. Each would come out otherwise if
-- the number were read otherwise by one word. proofs/Examples.antt computes each list.
use Rattle.std.specs.Prelude.{ℕ, List, [], ◌∷◌}
use Rattle.semantics.specs.Rules.{Datum, unbounded, words_left}
use Rattle.semantics.specs.Run.{done, abort, Answer, ending}
use Rattle.semantics.specs.ExampleTables.{Term, Deref, Field, Num, Sum, Read, Address, Cast, Command, ◌:=◌, Example, bounded}
use Rattle.semantics.specs.RunExamples.{int*, record_0*, p, run, left, none, clear, malloc_as, at, plus, shows}

-- ---- The number

-- Bounds [base, end), a place, and how many words from there on lie within them.
pub record Counted : Type 0 where
  pub base : ℕ
  pub end : ℕ
  pub at : ℕ
  pub words : ℕ

unfoldable pub counted : Counted → Counted
counted c = record { base = c.base; end = c.end; at = c.at; words = words_left c.base c.end c.at }

abbrev counts : (base end at words : ℕ) → Counted
counts b e w n = record { base = b; end = e; at = w; words = n }

unfoldable pub numbers_left : List Counted
numbers_left =
    -- "from a given place on": the first word, one between, the last
    counts 5 9 5 4
    ∷ counts 5 9 6 3
    ∷ counts 5 9 8 1
    -- "0 if the place is outside them": by one word, and by as many as can be
    ∷ counts 5 9 4 0
    ∷ counts 5 9 0 0
    ∷ counts 5 9 9 0
    ∷ counts 5 9 10 0
    ∷ counts 5 9 4294967295 0
    -- a place past 32 bits: 6 and 4,294,967,296
    ∷ counts 5 9 4294967302 0
    -- "or there are none"
    ∷ counts 0 0 0 0
    ∷ counts 0 0 6 0
    -- one word; the last words that 32 bits can name
    ∷ counts 2 3 2 1
    ∷ counts 2 3 3 0
    ∷ counts 4294967290 4294967295 4294967291 4
    -- numbers that no run has: a base of 0, no word between base and end, an end before the base
    ∷ counts 0 4 0 4
    ∷ counts 0 4 3 1
    ∷ counts 5 5 5 0
    ∷ counts 9 5 6 0
    ∷ counts 9 5 9 0
    ∷ []

-- ---- Runs

-- p = (int*)malloc(4), words 5 to 8, and then this, which ends so and leaves v so.
abbrev in_four : Command → Answer → Datum → Example
in_four c a v = run ((p := malloc_as int* 4) ∷ c ∷ []) a (left 30 (bounded 5 5 9) v none (clear 4))

-- The first field of record 0, three words, at t.
abbrev three_words : Term → Term
three_words t = Field (Cast t record_0*) 0

unfoldable pub left_runs : List Example
left_runs =
    -- "Follow and field then ask for at least their own number": three words where four, three, two and one are left, and a word before
    in_four (shows (three_words (Read p))) (ending done 9) (bounded 5 5 8)
    ∷ in_four (shows (three_words (plus p 1))) (ending done 9) (bounded 6 6 9)
    ∷ in_four (shows (three_words (plus p 2))) (ending (abort 1) 9) none
    ∷ in_four (shows (three_words (plus p 3))) (ending (abort 1) 9) none
    ∷ in_four (shows (three_words (plus p 4294967295))) (ending (abort 1) 9) none
    -- one word where two, one and none are left, and a word before
    ∷ in_four (shows (Deref (plus p 2))) (ending done 9) (bounded 7 5 9)
    ∷ in_four (shows (Deref (plus p 3))) (ending done 9) (bounded 8 5 9)
    ∷ in_four (shows (Deref (plus p 4))) (ending (abort 1) 9) none
    ∷ in_four (shows (Deref (plus p 4294967295))) (ending (abort 1) 9) none
    -- by the pointer's own end: in a field, [5, 8), of which two words are left at 6, though the block has three there
    ∷ in_four (shows (three_words (Sum (Address (three_words (Read p))) (Num 1)))) (ending (abort 1) 9) none
    -- of no bounds none are left, wherever the place is
    ∷ run ((p := Cast (Num 2) int*) ∷ shows (at p) ∷ []) (ending (abort 1) 5) (left 30 (unbounded 2) none none [])
    ∷ run ((p := Cast (Num 2) int*) ∷ shows (three_words (Read p)) ∷ []) (ending (abort 1) 5) (left 30 (unbounded 2) none none [])
    ∷ []
