-- What is told of a run: request 4, "A reason for every abort", in the setting of specs/RunExamples.antt. For each number told there are runs
-- that would tell otherwise if its sentence were read otherwise by one word. proofs/Examples.antt computes each list.
use Rattle.std.specs.Prelude.{ℕ, Bool, true, false, List, [], ◌∷◌, ◌++◌, replicate}
use Rattle.semantics.specs.Words.{Words}
use Rattle.semantics.specs.Rules.{unbounded, Access, named, followed, BoundsCheck, Event, loaded, stored, allocated, tested}
use Rattle.semantics.specs.Run.{Ending, done, abort, out_of_memory, stuck, refusal, ending}
use Rattle.semantics.specs.Run as begun
use Rattle.semantics.specs.Explain.{without_bounds, reason_of, block_start, Explanation, not_aborted, because, explanation, explain}
use Rattle.semantics.specs.ExampleTables.{types, of_type, Deref, Field, Num, Sum, Read, Address, Cast, Malloc, Command, ◌:=◌, routine, Example, answer_with, called, untouched, bounded, no_registers}
use Rattle.semantics.specs.RunExamples.{int, int*, record_1*, x, p, v, r, table, inputs, from_registers, run, left, none, malloc_as, at, plus, as_plus, m}

-- ---- How an explanation is written

abbrev pub check : (node at words base end : ℕ) → BoundsCheck
check n w k b e = record { node = n; at = w; words = k; base = b; end = e }

-- "the node, the place wanted, the number of words wanted, the base and end, and one reason", then "the first word"
abbrev pub told : (node at words base end reason first : ℕ) → Explanation
told n w k b e reason first = because (record { check = check n w k b e; reason = reason; first = first })

-- A call in memory of 12 words, and what is told of it.
pub record Telling : Type 0 where
  pub table : Words
  pub inputs : Words
  pub registers : Words
  pub explanation : Explanation

unfoldable pub tell : Telling → Telling
tell c =
    record {
      table = c.table;
      inputs = c.inputs;
      registers = c.registers;
      explanation = (explain c.table c.inputs c.registers (replicate 12 7) (replicate 12 8) (replicate 12 9)).explanation;
    }

abbrev with_registers : Words → List Command → Explanation → Telling
with_registers l cs e = record { table = table cs; inputs = inputs; registers = l; explanation = e }

abbrev tells : List Command → Explanation → Telling
tells = with_registers no_registers

-- ---- The three reasons. The nodes of m are 0 to 3; it leaves p with bounds [5, 7).

unfoldable pub reasons : List Telling
reasons =
    -- "1 no bounds": *p = 9, of p that is 0 and of p that is 6
    tells ((at p := Num 9) ∷ []) (told 2 0 1 0 0 1 0)
    ∷ tells ((p := Cast (Num 6) int*) ∷ (at p := Num 9) ∷ []) (told 5 6 1 0 0 1 0)
    -- "2 before the base": by one word, and by all that there are
    ∷ tells (m ∷ (Deref (plus p 4294967295) := Num 9) ∷ []) (told 8 4 1 5 7 2 5)
    ∷ tells (m ∷ (Deref (plus p 4294967291) := Num 9) ∷ []) (told 8 0 1 5 7 2 5)
    -- "3 past the end": by one word, and by as many as can be
    ∷ tells (m ∷ (Deref (plus p 2) := Num 9) ∷ []) (told 8 7 1 5 7 3 5)
    ∷ tells (m ∷ (Deref (plus p 4294967290) := Num 9) ∷ []) (told 8 4294967295 1 5 7 3 5)
    -- fields: of no bounds; one word before the base; one word past the end, with its first word inside
    ∷ tells ((Field (Read r) 2 := Num 9) ∷ []) (told 2 5 2 0 0 1 0)
    ∷ tells ((r := malloc_as record_1* 7) ∷ (Field (Cast (as_plus int* r 4294967295) record_1*) 0 := Num 9) ∷ []) (told 10 4 4 5 12 2 5)
    ∷ tells ((r := malloc_as record_1* 6) ∷ (Field (Read r) 2 := Num 9) ∷ []) (told 6 10 2 5 11 3 5)
    -- "the lowest that applies": four words from one before the base to one past the end
    ∷ tells (m ∷ (Field (Cast (plus p 4294967295) record_1*) 0 := Num 9) ∷ []) (told 9 4 4 5 7 2 5)
    -- by an input: *(&x + x), where x is 30
    ∷ tells ((Deref (Sum (Address x) (Read x)) := Num 9) ∷ []) (told 5 31 1 1 2 3 1)
    -- "The place wanted is the exact sum": 4,294,967,293 and 4, with bounds and without
    ∷ tells ((p := Read (Field (Cast (Sum (Address x) (Num 4294967292)) record_1*) 1)) ∷ []) (told 6 4294967297 1 1 2 3 1)
    ∷ tells ((p := Read (Field (Cast (Num 4294967293) record_1*) 1)) ∷ []) (told 3 4294967297 1 0 0 1 0)
    ∷ []

-- ---- The node: "this is the first check not passed in that very run"

unfoldable pub nodes_told : List Telling
nodes_told =
    -- of a command's place, of its value, and of both
    tells ((x := Read (at p)) ∷ []) (told 3 0 1 0 0 1 0)
    ∷ tells (m ∷ (Deref (plus p 2) := Read (Deref (plus p 3))) ∷ []) (told 8 7 1 5 7 3 5)
    ∷ tells (m ∷ (at p := Read (Deref (plus p 3))) ∷ []) (told 11 8 1 5 7 3 5)
    -- of two nested places the inner, **(&p + 1), and the outer, **&p
    ∷ tells ((Deref (Read (Deref (Sum (Address p) (Num 1)))) := Num 9) ∷ []) (told 4 3 1 2 3 3 2)
    ∷ tells ((Deref (Read (Deref (Address p))) := Num 9) ∷ []) (told 4 0 1 0 0 1 0)
    ∷ tells (m ∷ (p := plus p 2) ∷ (Deref (Read (Deref (Address p))) := Num 9) ∷ []) (told 13 7 1 5 7 3 5)
    -- not the node above it: a read and a cast, a sum of which it is the left or the right operand, an address, a malloc
    ∷ tells (m ∷ (p := Cast (Read (Deref (plus p 2))) int*) ∷ []) (told 9 7 1 5 7 3 5)
    ∷ tells (m ∷ (x := Sum (Read (Deref (plus p 2))) (Read (Deref (plus p 3)))) ∷ []) (told 9 7 1 5 7 3 5)
    ∷ tells (m ∷ (x := Sum (Read (at p)) (Read (Deref (plus p 3)))) ∷ []) (told 13 8 1 5 7 3 5)
    ∷ tells (m ∷ (p := Address (Deref (plus p 2))) ∷ []) (told 9 7 1 5 7 3 5)
    ∷ tells (m ∷ (v := Malloc (Read (Deref (plus p 2)))) ∷ []) (told 9 7 1 5 7 3 5)
    -- of a command before the last; the later one would abort too
    ∷ tells (m ∷ (Deref (plus p 2) := Num 9) ∷ (x := Num 1) ∷ (Deref (plus p 3) := Num 9) ∷ []) (told 8 7 1 5 7 3 5)
    ∷ []

-- ---- "the first word of the variable or block in which the bounds lie"

-- p = malloc(2), v = malloc(3), r = malloc(2): [5, 7), [7, 10), [10, 12), nodes 0 to 10
abbrev three_blocks : List Command
three_blocks = m ∷ (v := Malloc (Num 3)) ∷ (r := malloc_as record_1* 2) ∷ []

-- r has two words, [5, 7), and p three, [7, 10).
abbrev two_registers : Words
two_registers = 2 ∷ 3 ∷ 2 ∷ 71 ∷ 72 ∷ 1 ∷ 3 ∷ 73 ∷ 74 ∷ 75 ∷ []

-- v has one word, [5, 6), p none, and r six, [6, 12).
abbrev three_registers : Words
three_registers = 3 ∷ 2 ∷ 1 ∷ 71 ∷ 1 ∷ 0 ∷ 3 ∷ 6 ∷ 72 ∷ 73 ∷ 74 ∷ 75 ∷ 76 ∷ 77 ∷ []

-- One variable, an int, and none. Type 3 points to a record with fields of 2 and 2 ints.
abbrev few_variables : Words → Words → List Command → Explanation → Telling
few_variables vs is cs e =
    record {
      table = types ((of_type 0 2 ∷ of_type 0 2 ∷ []) ∷ []) (0 ∷ 65536 ∷ []) vs ++ routine cs;
      inputs = is;
      registers = no_registers;
      explanation = e;
    }

abbrev one_variable : List Command → Explanation → Telling
one_variable = few_variables (int ∷ []) (5 ∷ [])

abbrev no_variable : List Command → Explanation → Telling
no_variable = few_variables [] []

unfoldable pub first_words : List Telling
first_words =
    -- a variable: x, then p and v
    tells ((Deref (Sum (Address x) (Num 1)) := Num 9) ∷ []) (told 4 2 1 1 2 3 1)
    ∷ tells ((Deref (Sum (Cast (Address p) int*) (Num 4294967295)) := Num 9) ∷ []) (told 5 1 1 2 3 2 2)
    ∷ tells ((Deref (Sum (Cast (Address v) int*) (Num 1)) := Num 9) ∷ []) (told 5 4 1 3 4 3 3)
    -- the last variable of all; a field of the block after it, [2, 6); a block where there is no variable
    ∷ one_variable ((Deref (Sum (Address x) (Num 1)) := Num 9) ∷ []) (told 4 2 1 1 2 3 1)
    ∷ one_variable ((Deref (Sum (Address (Field (malloc_as 3 4) 1)) (Num 2)) := Num 9) ∷ []) (told 7 6 1 4 6 3 2)
    ∷ no_variable ((Deref (Sum (malloc_as int* 2) (Num 2)) := Num 9) ∷ []) (told 5 3 1 1 3 3 1)
    -- each of three blocks, past its end
    ∷ tells (three_blocks ++ ((Deref (plus p 2) := Num 9) ∷ [])) (told 15 7 1 5 7 3 5)
    ∷ tells (three_blocks ++ ((Deref (as_plus int* v 3) := Num 9) ∷ [])) (told 16 10 1 7 10 3 7)
    ∷ tells (three_blocks ++ ((Deref (as_plus int* r 2) := Num 9) ∷ [])) (told 16 12 1 10 12 3 10)
    -- bounds of a field: the base is the field's, the first word its block's; before the base it is still in the block
    ∷ tells ((r := malloc_as record_1* 7) ∷ (Deref (Sum (Address (Field (Read r) 2)) (Num 2)) := Num 9) ∷ []) (told 10 12 1 10 12 3 5)
    ∷ tells ((r := malloc_as record_1* 7) ∷ (Deref (Sum (Address (Field (Read r) 2)) (Num 4294967295)) := Num 9) ∷ []) (told 10 9 1 10 12 2 5)
    -- each of two registers, past its end and before its base, and a block after them
    ∷ with_registers two_registers ((Deref (as_plus int* r 2) := Num 9) ∷ []) (told 5 7 1 5 7 3 5)
    ∷ with_registers two_registers ((Deref (plus p 3) := Num 9) ∷ []) (told 4 10 1 7 10 3 7)
    ∷ with_registers two_registers ((Deref (plus p 4294967295) := Num 9) ∷ []) (told 4 6 1 7 10 2 7)
    ∷ with_registers two_registers ((Deref (Sum (malloc_as int* 2) (Num 2)) := Num 9) ∷ []) (told 5 12 1 10 12 3 10)
    -- a register of no words has no bounds; in the one after it, the bounds of a field
    ∷ with_registers three_registers ((at p := Num 9) ∷ []) (told 2 0 1 0 0 1 0)
    ∷ with_registers three_registers ((Deref (Sum (Address (Field (Read r) 1)) (Num 1)) := Read p) ∷ []) (told 6 11 1 10 11 3 6)
    ∷ []

-- ---- "takes what the run takes, leaves what it leaves", and "For a run that doesn't abort it says so": the whole of a call that aborts, of one
-- that is done, of one that finds no room, both after checks that are passed, and of one that is refused

pub record Whole : Type 0 where
  pub call : Example
  pub explanation : Explanation

unfoldable pub explained : Whole → Whole
explained w =
    let c = w.call in
    let e = explain c.table c.inputs c.registers c.values c.bases c.ends in
    record {
      call =
          record { table = c.table; inputs = c.inputs; registers = c.registers; values = c.values; bases = c.bases; ends = c.ends; result = e.result };
      explanation = e.explanation;
    }

abbrev tells_none : Example → Whole
tells_none c = record { call = c; explanation = not_aborted }

unfoldable pub whole_calls : List Whole
whole_calls =
    record {
      call =
          from_registers two_registers ((x := Num 8) ∷ (Deref (plus p 3) := Num 9) ∷ [])
          (ending (abort 1) 10) (left 8 (bounded 7 7 10) none (bounded 5 5 7) (unbounded 71 ∷ unbounded 72 ∷ unbounded 73 ∷ unbounded 74 ∷ unbounded 75 ∷ []));
      explanation = told 6 10 1 7 10 3 7;
    }
    ∷ tells_none (run (m ∷ (at p := Num 9) ∷ []) (ending done 7) (left 30 (bounded 5 5 7) none none (unbounded 9 ∷ none ∷ [])))
    ∷ tells_none
    (run (m ∷ (at p := Num 9) ∷ (v := Malloc (Num 6)) ∷ []) (ending (out_of_memory 2) 7) (left 30 (bounded 5 5 7) none none (unbounded 9 ∷ none ∷ [])))
    ∷ tells_none (called (table ((at p := Num 9) ∷ [])) [] no_registers 12 (answer_with (refusal 11 4) (untouched 12)))
    ∷ []

-- ---- Every check is in the log, passed or not, after the events of its child

-- Commands in memory of 12 words, and the events of their run, newest first.
pub record Logged : Type 0 where
  pub commands : List Command
  pub log : List Event

unfoldable pub logged : Logged → Logged
logged c = record { commands = c.commands; log = (begun.run (table c.commands) inputs no_registers 12).state.log }

abbrev by_p : Access
by_p = followed (bounded 5 5 7)

-- m, whose events are p's word and the block
abbrev events_of_m : List Event
events_of_m = stored 2 (named 1) ∷ allocated 5 2 ∷ []

unfoldable pub logs : List Logged
logs =
    -- *p = *p: the place, then the value
    record {
      commands = m ∷ (at p := Read (at p)) ∷ [];
      log =
          stored 5 by_p ∷ loaded 5 by_p ∷ tested (check 9 5 1 5 7) ∷ loaded 2 (named 1) ∷ tested (check 6 5 1 5 7) ∷ loaded 2 (named 1) ∷ events_of_m;
    }
    -- *(p + 2) = 9
    ∷ record { commands = m ∷ (Deref (plus p 2) := Num 9) ∷ []; log = tested (check 8 7 1 5 7) ∷ loaded 2 (named 1) ∷ events_of_m }
    -- p = &**&p
    ∷ record {
      commands = m ∷ (p := Address (Deref (Read (Deref (Address p))))) ∷ [];
      log =
          stored 2 (named 1) ∷ tested (check 9 5 1 5 7) ∷ loaded 2 (followed (bounded 2 2 3)) ∷ tested (check 7 2 1 2 3) ∷ events_of_m;
    }
    -- a field of four words over p's one
    ∷ record { commands = m ∷ (x := Read (Field (Cast (Address p) record_1*) 0)) ∷ []; log = tested (check 8 2 4 2 3) ∷ events_of_m }
    ∷ []

-- ---- The parts by themselves, also of numbers that no run has

-- A check, whether it has no bounds, and the reason were it not passed.
pub record Reasoned : Type 0 where
  pub check : BoundsCheck
  pub no_bounds : Bool
  pub reason : ℕ

abbrev because_of : (at words base end : ℕ) → Bool → ℕ → Reasoned
because_of w k b e n reason = record { check = check 3 w k b e; no_bounds = n; reason = reason }

unfoldable pub reasoned : Reasoned → Reasoned
reasoned c = record { check = c.check; no_bounds = without_bounds c.check; reason = reason_of c.check }

unfoldable pub bare_checks : List Reasoned
bare_checks =
    because_of 0 1 0 0 true 1
    ∷ because_of 9 4 0 0 true 1
    -- "A word with base 0 and end 0": both
    ∷ because_of 5 1 0 5 false 3
    ∷ because_of 4 1 5 0 false 2
    ∷ because_of 5 1 5 0 false 3
    -- the place at the base, and before it by one; the last word one past the end
    ∷ because_of 5 3 5 7 false 3
    ∷ because_of 4 1 5 7 false 2
    ∷ because_of 4 9 5 7 false 2
    ∷ []

-- A log, newest first: blocks [20, 22) and [10, 14), then every other event.
abbrev gaps : List Event
gaps =
    loaded 1 (named 0) ∷ allocated 20 2 ∷ stored 2 (named 1) ∷ tested (check 3 5 1 5 7) ∷ loaded 3 (named 2) ∷ allocated 10 4 ∷ []

-- Words, and where the block that has each of them starts.
abbrev pub some_words : Words
some_words = 0 ∷ 9 ∷ 10 ∷ 13 ∷ 14 ∷ 19 ∷ 20 ∷ 21 ∷ 22 ∷ []

unfoldable pub starts : ℕ → ℕ
starts = block_start gaps

-- What is told at each ending with the same log, newest first: by the newer of two checks, in any block of the log.
abbrev two_checks : List Event
two_checks = stored 1 (named 0) ∷ loaded 1 (named 0) ∷ allocated 5 3 ∷ tested (check 3 8 1 6 8) ∷ tested (check 2 0 1 0 0) ∷ []

unfoldable pub at_ending : Ending → Explanation
at_ending e = explanation 4 e two_checks

abbrev pub endings : List Ending
endings = done ∷ abort 0 ∷ out_of_memory 0 ∷ stuck 0 ∷ []

abbrev pub at_endings : List Explanation
at_endings = not_aborted ∷ told 3 8 1 6 8 3 5 ∷ not_aborted ∷ not_aborted ∷ []
