-- Request 8, "Edition 2 of the cast rule": tables with the mark before them. What the check and a call answer, and the runs that have no int with
-- bounds. Each would come out otherwise if the request were read otherwise by one word. proofs/Examples.antt computes each list. What edition 2 has of
-- its own stands in specs/EditionExamples.antt.
use Rattle.std.specs.Prelude.{ℕ, ◌+◌, List, [], ◌∷◌, ◌++◌, map, leb, replicate, set, if◌then◌else◌}
use Rattle.semantics.specs.Words.{Words}
use Rattle.semantics.specs.Check.{Verdict, passes, refused}
use Rattle.semantics.specs.Rules.{unbounded}
use Rattle.semantics.specs.Run.{abort, Answer, refusal, ending}
use Rattle.semantics.specs.ExampleTables.{types, Var, Num, ◌:=◌, routine, Judgement, gives, Request, Example, called, answer_with, untouched, no_registers}
use Rattle.semantics.specs.Examples.{verdicts, refusals, with_p, store_over_p, runs, refused_lists, register_runs}
use Rattle.semantics.specs.CallExamples.{arguments, register_lists, unequal_lists}
use Rattle.semantics.specs.RunExamples.{none}

-- ---- What is turned away

-- "An edition 2 table starts with the word 4,294,967,295 and the word 2; the sections follow."
abbrev M : ℕ
M = 4294967295

abbrev pub mark : Words → Words
mark t = M ∷ 2 ∷ t

-- "Places count the mark and the 2", where they are places in the table: those of 1 to 9. Of every table: proofs/Editions.antt.
abbrev place_after_mark : (number at : ℕ) → ℕ
place_after_mark n p = if leb n 9 then p + 2 else p

abbrev verdict_after_mark : Verdict → Verdict
verdict_after_mark passes = passes
verdict_after_mark (refused n p) = refused n (place_after_mark n p)

abbrev marked_judgement : Judgement → Judgement
marked_judgement x = gives (mark x.table) (verdict_after_mark x.verdict)

-- The example for 16 with a mark before it: what follows the 2 is a count.
abbrev marked_twice : Words
marked_twice = mark (M ∷ 1 ∷ replicate 6 0)

unfoldable pub marked_verdicts : List Judgement
marked_verdicts = set (map marked_judgement verdicts) 9 (gives marked_twice (refused 3 2))

-- x = 4,294,967,295
abbrev assigns_mark : Words
assigns_mark = types [] [] (0 ∷ []) ++ routine ((Var 0 := Num M) ∷ [])

unfoldable pub marks : List Judgement
marks =
    -- "1 at place 1 if the table ends with the mark"; then after the 2
    gives (M ∷ []) (refused 1 1)
    ∷ gives (mark []) (refused 1 2)
    ∷ gives (mark (0 ∷ 0 ∷ [])) (refused 1 4)
    -- the smallest table; one word fewer, and one more
    ∷ gives (mark (replicate 6 0)) passes
    ∷ gives (mark (replicate 5 0)) (refused 1 7)
    ∷ gives (mark (replicate 7 0)) (refused 2 8)
    -- "16 when another edition follows the mark, place 1"
    ∷ gives (M ∷ 0 ∷ []) (refused 16 1)
    ∷ gives (M ∷ 1 ∷ []) (refused 16 1)
    ∷ gives (M ∷ 3 ∷ []) (refused 16 1)
    ∷ gives (M ∷ M ∷ []) (refused 16 1)
    ∷ gives (M ∷ 0 ∷ replicate 6 0) (refused 16 1)
    ∷ gives (M ∷ 3 ∷ replicate 6 0) (refused 16 1)
    ∷ gives (M ∷ 1 ∷ 2 ∷ replicate 5 0) (refused 16 1)
    -- "3 no longer for the mark", but wherever else it is a count; one less is no mark, nor is one more, which no word is
    ∷ gives (mark (M ∷ [])) (refused 3 2)
    ∷ gives (mark (mark (replicate 6 0))) (refused 3 2)
    ∷ gives (mark (0 ∷ M ∷ replicate 5 0)) (refused 3 3)
    ∷ gives (0 ∷ M ∷ 2 ∷ []) (refused 3 1)
    ∷ gives (4294967294 ∷ 2 ∷ replicate 6 0) (refused 3 0)
    ∷ gives (4294967296 ∷ 2 ∷ replicate 6 0) (refused 3 0)
    -- and a word like others: as a record's number of fields, as a constant, and that in both editions
    ∷ gives (2 ∷ M ∷ 2 ∷ replicate 5 0) (refused 4 3)
    ∷ gives assigns_mark passes
    ∷ gives (mark assigns_mark) passes
    -- 16 "before all others": a count above its maximum, a cut table, words over, then whatever else `verdicts` has
    ∷ gives (M ∷ 1 ∷ 33 ∷ []) (refused 16 1)
    ∷ gives (M ∷ M ∷ 2 ∷ 0 ∷ []) (refused 16 1)
    ∷ gives (M ∷ 3 ∷ replicate 9 0) (refused 16 1)
    ∷ map (λ (x : Judgement). gives (M ∷ 1 ∷ x.table) (refused 16 1)) verdicts

-- ---- What a call is refused for: 10, 11 and 13 to 15 have no place in the table, so none that the mark moves. No lent word is written.

abbrev marked_request : Request → Request
marked_request c =
    record {
      table = mark c.table;
      inputs = c.inputs;
      registers = c.registers;
      values = c.values;
      bases = c.bases;
      ends = c.ends;
      verdict = verdict_after_mark c.verdict;
    }

unfoldable pub marked_requests : List Request
marked_requests = map marked_request (arguments ++ register_lists)

abbrev answer_after_mark : Answer → Answer
answer_after_mark (refusal n p) = refusal n (place_after_mark n p)
answer_after_mark (ending e u) = ending e u

-- A call with the mark before its table; a run's result is the same.
abbrev pub marked : Example → Example
marked c =
    record {
      table = mark c.table;
      inputs = c.inputs;
      registers = c.registers;
      values = c.values;
      bases = c.bases;
      ends = c.ends;
      result = record { answer = answer_after_mark c.result.answer; values = c.result.values; bases = c.result.bases; ends = c.result.ends };
    }

unfoldable pub marked_refusals : List Example
marked_refusals =
    set (map marked refusals) 9 (called marked_twice [] no_registers 2 (answer_with (refusal 3 2) (untouched 2)))
    ++ map marked (refused_lists ++ unequal_lists)

-- ---- Document 01's runs, and those on registers: all end as in edition 1 but one. An int store moves the constant's absent bounds onto p.

unfoldable pub marked_runs : List Example
marked_runs =
    set (map marked runs) 9 (marked (with_p store_over_p (ending (abort 2) 4) (unbounded 3 ∷ none ∷ none ∷ [])))
    ++ map marked register_runs
