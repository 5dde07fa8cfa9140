-- Request 9, "Same result on the old boxes": what a bare call gives for the arguments of fenced calls, most of which stand in other files with what the
-- fenced call gives. Each would come out otherwise if the request were read otherwise by one word. proofs/Examples.antt computes each list. Runs of the
-- bare run alone stand in specs/BareRunExamples.antt, its steps by themselves in specs/BareStepExamples.antt.
use Rattle.std.specs.Prelude.{ℕ, ◌-◌, ◌&&◌, List, [], ◌∷◌, ◌++◌, map, eqb, length, replicate, take, drop, if◌then◌else◌}
use Rattle.semantics.specs.Words.{Words}
use Rattle.semantics.specs.Check.{Verdict, passes}
use Rattle.semantics.specs.Run as fenced
use Rattle.semantics.specs.Bare.{done, out_of_memory, stuck, Answer, refusal, ending, Result, call_fault, call}
use Rattle.semantics.specs.ExampleTables.{joined, types, Term, Deref, Num, Cast, Malloc, Command, ◌:=◌, routine, Request, Example, observed, bounded, no_registers}
use Rattle.semantics.specs.Examples.{refusals, runs, routine_a, refused_lists, register_runs, record_runs}
use Rattle.semantics.specs.CallExamples.{arguments, register_lists, unequal_lists}
use Rattle.semantics.specs.RunExamples.{int*, x, p, v, run, left, none, clear, malloc_as, m, plus, order_runs, place_runs, malloc_runs}
use Rattle.semantics.specs.CopyExamples.{copy_runs, copy_orders}
use Rattle.semantics.specs.MarkExamples.{marked_refusals, marked_runs}
use Rattle.semantics.specs.EditionExamples.{int_runs, sum_runs, block_runs}

-- ---- How they are written

-- A bare call's arguments, and what it must give: the answer and every word of its list.
pub record BareExample : Type 0 where
  pub table : Words
  pub inputs : Words
  pub registers : Words
  pub list : Words
  pub result : Result

-- The same call with what the definitions give.
unfoldable pub bared : BareExample → BareExample
bared c =
    record {
      table = c.table;
      inputs = c.inputs;
      registers = c.registers;
      list = c.list;
      result = call c.table c.inputs c.registers c.list;
    }

-- A run's answer and the words from 1 on, in a list of this length. Word 0 and the words after those are 0.
abbrev pub leaves : Answer → Words → ℕ → Result
leaves a ws len = record { answer = a; values = 0 ∷ ws ++ replicate (len - 1 - length ws) 0 }

-- The bare call with a fenced call's arguments, of the three lists that of the values, and this result.
abbrev as_bare : Example → Result → BareExample
as_bare c r = record { table = c.table; inputs = c.inputs; registers = c.registers; list = c.values; result = r }

-- What a fenced call's answer tells of the bare one's: nothing where it is an abort.
abbrev told : fenced.Answer → List Answer
told (fenced.refusal n p) = refusal n p ∷ []
told (fenced.ending fenced.done u) = ending done u ∷ []
told (fenced.ending (fenced.abort c) u) = []
told (fenced.ending (fenced.out_of_memory c) u) = ending (out_of_memory c) u ∷ []
told (fenced.ending (fenced.stuck c) u) = []

abbrev same_of : Example → List BareExample
same_of c = map (λ (a : Answer). as_bare c (record { answer = a; values = c.result.values })) (told c.result.answer)

-- Of these fenced calls those that don't abort: the bare call has the same answer and the same values.
abbrev same : List Example → List BareExample
same cs = joined (map same_of cs)

abbrev unless_told : List Answer → Example → List Example
unless_told [] c = c ∷ []
unless_told (a ∷ rest) c = []

-- Those that abort, in their order, and how the bare call of each ends. No call comes out as it does where a result is missing.
abbrev each_ends : List Example → List (ℕ → Result) → List BareExample
each_ends [] rs = []
each_ends (c ∷ cs) [] = as_bare c (record { answer = refusal 0 0; values = [] }) ∷ each_ends cs []
each_ends (c ∷ cs) (r ∷ rs) = as_bare c (r (length c.values)) ∷ each_ends cs rs

abbrev instead : List Example → List (ℕ → Result) → List BareExample
instead cs = each_ends (joined (map (λ (c : Example). unless_told (told c.result.answer) c) cs))

-- ---- "Refused: the run's numbers, with 10 speaking of one list." A refused call leaves its list

-- The last three of `marked_refusals` have lists that differ in length.
unfoldable pub bare_refusals : List BareExample
bare_refusals = same (refusals ++ refused_lists ++ take 24 marked_refusals)

abbrev one_variable : Words
one_variable = types [] [] (0 ∷ []) ++ routine []

abbrev one_list : Words → Words → Words → Result → BareExample
one_list t inputs list r = record { table = t; inputs = inputs; registers = no_registers; list = list; result = r }

unfoldable pub lists_alone : List BareExample
lists_alone =
    -- that of the values by itself will do
    map (λ (c : Example). as_bare c (leaves (ending done 1) [] (length c.values))) (unequal_lists ++ drop 24 marked_refusals)
    -- a list that is too short by a word, and one that is not; 10 before 11
    ++ (one_list one_variable (9 ∷ []) (3 ∷ []) (record { answer = refusal 10 0; values = 3 ∷ [] })
    ∷ one_list one_variable (9 ∷ []) (3 ∷ 4 ∷ []) (leaves (ending done 2) (9 ∷ []) 2)
    ∷ one_list one_variable [] (3 ∷ []) (record { answer = refusal 10 0; values = 3 ∷ [] })
    ∷ one_list one_variable [] (3 ∷ 4 ∷ []) (record { answer = refusal 11 1; values = 3 ∷ 4 ∷ [] })
    ∷ [])

-- A call's arguments with the length of its list, and whether it is begun or refused: as the fenced call with three lists of this length, up to 65,536 words.
-- Where the three of specs/CallExamples.antt differ in length, that of the values is long enough by itself.
pub record BareRequest : Type 0 where
  pub table : Words
  pub inputs : Words
  pub registers : Words
  pub len : ℕ
  pub verdict : Verdict

unfoldable pub bare_answered : BareRequest → BareRequest
bare_answered c =
    record {
      table = c.table;
      inputs = c.inputs;
      registers = c.registers;
      len = c.len;
      verdict = call_fault c.table c.inputs c.registers c.len;
    }

abbrev asks_one : Request → BareRequest
asks_one c =
    record {
      table = c.table;
      inputs = c.inputs;
      registers = c.registers;
      len = c.values;
      verdict = if eqb c.values c.bases && eqb c.values c.ends then c.verdict else passes;
    }

unfoldable pub bare_requests : List BareRequest
bare_requests = map asks_one (arguments ++ register_lists)

-- ---- Fenced runs that are done, and that find no room, in both editions: "the bare run is done too and ends with the same U and the same value in each word"

unfoldable pub same_runs : List BareExample
same_runs = same (runs ++ register_runs ++ marked_runs ++ malloc_runs ++ copy_orders)

-- ---- Fenced runs that abort: "the same steps without checks"

-- Document 01's. *(p+2) = 5 goes past the list, *(p+4294967295) = 5 to p itself, and (int*)2 is followed; of *(p+2) = (int)malloc(9) the value is worked out
-- before the place is assigned; *((int*)malloc(1)+1) = 0 goes to word 3, at U. Routine A overwrites the queue.
abbrev first_three : List (ℕ → Result)
first_three = leaves (ending (stuck 1) 4) (2 ∷ []) ∷ leaves (ending done 4) (5 ∷ []) ∷ leaves (ending done 4) (2 ∷ 5 ∷ []) ∷ []

abbrev queue_written : ℕ → Result
queue_written = leaves (ending done 7) (3 ∷ 5 ∷ 9 ∷ 0 ∷ 9 ∷ [])

abbrev other_three : List (ℕ → Result)
other_three = leaves (ending (out_of_memory 1) 4) (2 ∷ []) ∷ leaves (ending done 3) [] ∷ queue_written ∷ []

-- *(p+1) = 5 past p's register goes to q's.
abbrev register_written : List (ℕ → Result)
register_written = leaves (ending done 5) (3 ∷ 4 ∷ 70 ∷ 5 ∷ []) ∷ []

unfoldable pub runs_past_aborts : List BareExample
runs_past_aborts =
    instead runs (first_three ++ other_three)
    ++ instead register_runs register_written
    -- m; *(int*)&p = 3; *p = 8 in edition 2: as in edition 1, which does not abort
    ++ instead marked_runs (first_three ++ (leaves (ending done 4) (3 ∷ 0 ∷ 8 ∷ []) ∷ []) ++ other_three ++ register_written)
    -- the queue of a third record is word 13 of 11
    ++ instead record_runs (leaves (ending (stuck 1) 11) (3 ∷ []) ∷ [])

unfoldable pub steps_past_aborts : List BareExample
steps_past_aborts =
    instead order_runs
    -- *p = (int)malloc(9), where p is 0: the value comes before the place is assigned
    (leaves (ending (out_of_memory 0) 5) (30 ∷ [])
    -- x = *p + (int)malloc(9)
    ∷ leaves (ending (stuck 0) 5) (30 ∷ [])
    -- *p = 2, and nothing after it
    ∷ leaves (ending (stuck 1) 5) (1 ∷ [])
    ∷ leaves (ending (stuck 1) 5) (1 ∷ [])
    -- *((int*)malloc(2)+2) = 9 goes to word 7, at U; x = 3
    ∷ leaves (ending done 7) (3 ∷ 0 ∷ 0 ∷ 0 ∷ 0 ∷ 0 ∷ 9 ∷ [])
    -- *(int*)malloc(2) = *p
    ∷ leaves (ending (stuck 0) 7) (30 ∷ [])
    ∷ [])
    ++ instead place_runs
    -- *(&x+1) = 8 goes to p
    (leaves (ending done 5) (30 ∷ 8 ∷ [])
    -- x = *(p+2), *(p-1) and *(p+4294967290), of words 7 and 4 and of none
    ∷ leaves (ending done 7) (0 ∷ 5 ∷ [])
    ∷ leaves (ending done 7) (0 ∷ 5 ∷ [])
    ∷ leaves (ending (stuck 1) 7) (30 ∷ 5 ∷ [])
    -- p = &*(p+2); v = (void*)&*p, where p is 0: nothing is read
    ∷ leaves (ending done 7) (30 ∷ 7 ∷ [])
    ∷ leaves (ending done 5) (30 ∷ [])
    -- fields that have a word too few: their first word is assigned, at U too, and read
    ∷ leaves (ending done 8) (30 ∷ 0 ∷ 0 ∷ 5 ∷ 8 ∷ [])
    ∷ leaves (ending done 9) (30 ∷ 0 ∷ 0 ∷ 5 ∷ 0 ∷ 0 ∷ 0 ∷ 0 ∷ 1 ∷ [])
    ∷ leaves (ending done 11) (0 ∷ 0 ∷ 0 ∷ 5 ∷ [])
    -- the address of a field before the block
    ∷ leaves (ending done 12) (30 ∷ 0 ∷ 4 ∷ 5 ∷ [])
    -- "Its sums are all modulo 4,294,967,296": 4,294,967,293 + 4 is x's word; 4,294,967,291 + 4 is none
    ∷ leaves (ending done 5) (30 ∷ 30 ∷ [])
    ∷ leaves (ending (stuck 0) 5) (30 ∷ [])
    -- a word past a field
    ∷ leaves (ending done 12) (30 ∷ 0 ∷ 0 ∷ 5 ∷ 0 ∷ 0 ∷ 0 ∷ 0 ∷ 8 ∷ [])
    ∷ [])

-- a and b as the registers are, words 5 to 10, and x = copy(..): "The words at b go to a .. as they were before the copy, even where the two overlap"
abbrev copied : Words → ℕ → Result
copied ws = leaves (ending done 11) (3 ∷ 0 ∷ 5 ∷ 8 ∷ ws)

unfoldable pub copies_past_aborts : List BareExample
copies_past_aborts =
    instead copy_runs
    -- to a's second word; from b's second, whose third word is word 11, at U
    (copied (71 ∷ 74 ∷ 75 ∷ 76 ∷ 75 ∷ 76 ∷ [])
    ∷ copied (75 ∷ 76 ∷ 0 ∷ 74 ∷ 75 ∷ 76 ∷ [])
    -- to a's second word and to b's own, and to 5
    ∷ copied (71 ∷ 74 ∷ 75 ∷ 76 ∷ 75 ∷ 76 ∷ [])
    ∷ leaves (ending done 11) (3 ∷ 0 ∷ 5 ∷ 74 ∷ 75 ∷ 76 ∷ 73 ∷ 74 ∷ 75 ∷ 76 ∷ [])
    ∷ copied (74 ∷ 75 ∷ 76 ∷ 74 ∷ 75 ∷ 76 ∷ [])
    -- from b's second word, from a's last, and from 8
    ∷ copied (75 ∷ 76 ∷ 0 ∷ 74 ∷ 75 ∷ 76 ∷ [])
    ∷ copied (73 ∷ 74 ∷ 75 ∷ 74 ∷ 75 ∷ 76 ∷ [])
    ∷ copied (74 ∷ 75 ∷ 76 ∷ 74 ∷ 75 ∷ 76 ∷ [])
    -- a has two words, and b has
    ∷ leaves (ending done 10) (3 ∷ 0 ∷ 5 ∷ 7 ∷ 73 ∷ 74 ∷ 75 ∷ 74 ∷ 75 ∷ [])
    ∷ leaves (ending done 10) (3 ∷ 0 ∷ 5 ∷ 8 ∷ 74 ∷ 75 ∷ 0 ∷ 74 ∷ 75 ∷ [])
    -- a third record, above U
    ∷ leaves (ending done 11) (3 ∷ 0 ∷ 5 ∷ 0 ∷ 0 ∷ 0 ∷ 0 ∷ 74 ∷ 75 ∷ 76 ∷ [])
    ∷ [])
    ++ instead copy_orders
    -- a's operand reads word 0; a is word 0, and b's block stays
    (leaves (ending (stuck 0) 5) (30 ∷ [])
    ∷ leaves (ending (stuck 0) 9) (30 ∷ [])
    -- blocks of three and two words, and of two and three
    ∷ leaves (ending done 10) (3 ∷ [])
    ∷ leaves (ending done 10) (3 ∷ [])
    -- b is word 0
    ∷ leaves (ending (stuck 1) 15) (3 ∷ [])
    -- copy((record 1*)copy(a, b), b) goes to words 3 to 5
    ∷ leaves (ending done 11) (3 ∷ 0 ∷ 74 ∷ 75 ∷ 76 ∷ 75 ∷ 76 ∷ 74 ∷ 75 ∷ 76 ∷ [])
    -- x = copy(a, b) + *p
    ∷ leaves (ending (stuck 0) 11) (30 ∷ 0 ∷ 5 ∷ 8 ∷ 74 ∷ 75 ∷ 76 ∷ 74 ∷ 75 ∷ 76 ∷ [])
    ∷ [])

-- Editions are alike without bounds: a run that aborts in one ends as in the other, where that is done. Those in pairs abort in both.
abbrev pair : (ℕ → Result) → List (ℕ → Result)
pair r = r ∷ r ∷ []

unfoldable pub editions_past_aborts : List BareExample
editions_past_aborts =
    instead int_runs
    ((leaves (ending done 7) (3 ∷ 5 ∷ 6 ∷ 0 ∷ 0 ∷ 9 ∷ [])
    ∷ leaves (ending done 7) (5 ∷ 5 ∷ 8 ∷ 0 ∷ 5 ∷ 5 ∷ [])
    ∷ leaves (ending done 7) (8 ∷ 5 ∷ 5 ∷ 5 ∷ 5 ∷ [])
    ∷ leaves (ending done 10) (7 ∷ 8 ∷ 8 ∷ 0 ∷ 0 ∷ 0 ∷ 0 ∷ 9 ∷ [])
    ∷ leaves (ending done 7) (8 ∷ 5 ∷ 5 ∷ 0 ∷ 6 ∷ 9 ∷ [])
    ∷ [])
    ++ pair (leaves (ending done 7) (6 ∷ 5 ∷ 5 ∷ 0 ∷ 6 ∷ 9 ∷ []))
    ++ pair (leaves (ending done 5) (3 ∷ 9 ∷ 1 ∷ []))
    ++ pair (leaves (ending done 11) (6 ∷ 0 ∷ 6 ∷ 5 ∷ 0 ∷ 0 ∷ 6 ∷ 9 ∷ []))
    ++ pair (leaves (ending done 7) (6 ∷ 5 ∷ 5 ∷ 0 ∷ 9 ∷ [])))
    ++ instead sum_runs
    ((leaves (ending done 7) (0 ∷ 6 ∷ 6 ∷ 0 ∷ 0 ∷ 9 ∷ []) ∷ [])
    ++ pair (leaves (ending done 10) (3 ∷ 5 ∷ 6 ∷ 0 ∷ 0 ∷ 9 ∷ []))
    ++ (leaves (ending done 7) (8 ∷ 5 ∷ 5 ∷ 5 ∷ 5 ∷ []) ∷ leaves (ending done 7) (8 ∷ 5 ∷ 5 ∷ 0 ∷ 9 ∷ []) ∷ [])
    ++ pair (leaves (ending done 7) (5 ∷ 5 ∷ 6 ∷ 0 ∷ 0 ∷ 9 ∷ []))
    ++ pair (leaves (ending done 7) (3 ∷ 5 ∷ 2 ∷ 0 ∷ 9 ∷ [])))
    ++ instead block_runs
    (leaves (ending done 12) (3 ∷ 11 ∷ 5 ∷ 5 ∷ 71 ∷ 5 ∷ 9 ∷ 71 ∷ 5 ∷ 73 ∷ 77 ∷ [])
    ∷ leaves (ending done 12) (6 ∷ 8 ∷ 5 ∷ 5 ∷ 74 ∷ 75 ∷ 76 ∷ 9 ∷ 75 ∷ 76 ∷ 77 ∷ [])
    ∷ [])

-- ---- What the agreement does not say: a fenced run that aborts beside the bare run with the same arguments

pub record Both : Type 0 where
  pub with_fence : Example
  pub without : Result

unfoldable pub compared : Both → Both
compared c =
    record {
      with_fence = observed c.with_fence;
      without = call c.with_fence.table c.with_fence.inputs c.with_fence.registers c.with_fence.values;
    }

abbrev beside : Example → (ℕ → Result) → Both
beside c r = record { with_fence = c; without = r (length c.values) }

-- *(int*)k
abbrev pub at_word : ℕ → Term
at_word k = Deref (Cast (Num k) int*)

-- Of a run in the setting of specs/RunExamples.antt that aborts at command c before anything was obtained, with x so.
abbrev aborts_beside : List Command → ℕ → ℕ → (ℕ → Result) → Both
aborts_beside cs c n = beside (run cs (fenced.ending (fenced.abort c) 5) (left n none none none []))

unfoldable pub beside_aborts : List Both
beside_aborts =
    -- routine A: the fence stops it at the queue, and the bare run writes there and is done
    beside routine_a queue_written
    -- m; *(p+7) = 9: stuck where the other aborts, and at a later command
    ∷ beside (run (m ∷ (Deref (plus p 7) := Num 9) ∷ []) (fenced.ending (fenced.abort 1) 7) (left 30 (bounded 5 5 7) none none (clear 2)))
    (leaves (ending (stuck 1) 7) (30 ∷ 5 ∷ []))
    ∷ aborts_beside ((x := Num 1) ∷ (at_word 8 := Num 9) ∷ (v := Malloc (Num 2)) ∷ (at_word 12 := Num 9) ∷ (x := Num 2) ∷ []) 1 1
    (leaves (ending (stuck 3) 7) (1 ∷ 0 ∷ 5 ∷ 0 ∷ 0 ∷ 0 ∷ 0 ∷ 9 ∷ []))
    -- no room at a later command
    ∷ aborts_beside ((x := Num 1) ∷ (at_word 8 := Num 9) ∷ (v := Malloc (Num 8)) ∷ []) 1 1
    (leaves (ending (out_of_memory 2) 5) (1 ∷ 0 ∷ 0 ∷ 0 ∷ 0 ∷ 0 ∷ 0 ∷ 9 ∷ []))
    -- words 5 to 7 are written above U; malloc(2) clears 5 and 6, and word 7 stays so
    ∷ aborts_beside ((at_word 5 := Num 81) ∷ (at_word 6 := Num 82) ∷ (at_word 7 := Num 83) ∷ (p := malloc_as int* 2) ∷ []) 0 30
    (leaves (ending done 7) (30 ∷ 5 ∷ 0 ∷ 0 ∷ 0 ∷ 0 ∷ 83 ∷ []))
    ∷ []
