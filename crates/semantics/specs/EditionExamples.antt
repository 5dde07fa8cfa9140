-- Request 8, "Edition 2 of the cast rule": runs in both editions side by side, steps by themselves on numbers that no run has, and what is told of
-- runs that abort. Each would come out otherwise if the request were read otherwise by one word. proofs/Examples.antt computes each list, and the
-- trees of a marked table.
use Rattle.std.specs.Prelude.{ℕ, true, false, List, [], ◌∷◌, ◌++◌, map}
use Rattle.semantics.specs.Words.{Words}
use Rattle.semantics.specs.Rules.{Datum, unbounded, named, Event, loaded, stored, State, Outcome, ok, variable_location, read_step, sum_step, cast_step, assign_step}
use Rattle.semantics.specs.Run.{done, abort, out_of_memory, Answer, ending}
use Rattle.semantics.specs.Explain.{Explanation, not_aborted}
use Rattle.semantics.specs.ExampleTables.{joined, types, of_type, Term, Var, Deref, Field, Num, Sum, Read, Address, Cast, Size, Malloc, Copy, Command, ◌:=◌, routine, Example, ends_so, bounded, no_registers}
use Rattle.semantics.specs.RunExamples.{targets, int, int*, int**, record_1*, record_0*, x, p, r, none, clear, malloc_as, at, plus, m}
use Rattle.semantics.specs.TreeExamples.{small}
use Rattle.semantics.specs.ExplainExamples.{told, Telling}
use Rattle.semantics.specs.MarkExamples.{mark, marked}

-- ---- Runs in both editions

-- Record 0 has two ints, record 1 a pointer to int and two ints. Memory of 14 words: the int x in word 1 is 6, p in word 2, the int y in word 3 is 5,
-- and the record 1* r in word 4.
abbrev table : List Command → Words
table cs = types ((of_type int 2 ∷ []) ∷ (of_type int* 1 ∷ of_type int 2 ∷ []) ∷ []) targets (int ∷ int* ∷ int ∷ record_1* ∷ []) ++ routine cs

abbrev y : Term
y = Var 2

abbrev inputs : Words
inputs = 6 ∷ 0 ∷ 5 ∷ 0 ∷ []

-- These commands on these registers: how they end in edition 2 and what they leave, and the same of edition 1.
abbrev on_registers : Words → List Command → Answer → List Datum → Answer → List Datum → List Example
on_registers l cs a₂ m₂ a₁ m₁ = marked (ends_so (table cs) inputs l 14 a₂ m₂) ∷ ends_so (table cs) inputs l 14 a₁ m₁ ∷ []

abbrev each : List Command → Answer → List Datum → Answer → List Datum → List Example
each = on_registers no_registers

-- In both the same.
abbrev alike : List Command → Answer → List Datum → List Example
alike cs a l = each cs a l a l

-- (int)t, *(int*)t, *(int**)t
abbrev as_int : Term → Term
as_int t = Cast (Read t) int

abbrev int_at : Term → Term
int_at t = Deref (Cast t int*)

abbrev pointer_at : Term → Term
pointer_at t = Deref (Cast (Read t) int**)

-- A value with the bounds of m's block, words 5 and 6.
abbrev own : ℕ → Datum
own v = bounded v 5 7

unfoldable pub int_runs : List Example
int_runs =
    joined
    -- "In edition 2 a cast changes nothing, so an int may have bounds": by a sum and back to a pointer; "Every read and every assignment moves value,
    -- base and end", of an int too, also where it has none
    (each (m ∷ (x := as_int p) ∷ (y := plus x 1) ∷ (int_at (Read y) := Num 9) ∷ (x := Num 3) ∷ [])
    (ending done 7) (unbounded 3 ∷ own 5 ∷ own 6 ∷ none ∷ none ∷ unbounded 9 ∷ [])
    (ending (abort 3) 7) (unbounded 5 ∷ own 5 ∷ unbounded 6 ∷ none ∷ clear 2)
    -- p's word read as an int, which goes to a block, and from there beside it
    ∷ each (m ∷ (x := Read (int_at (Address p))) ∷ (at p := Read x) ∷ (int_at (plus x 1) := Read (at p)) ∷ (y := Num 8) ∷ [])
    (ending done 7) (own 5 ∷ own 5 ∷ unbounded 8 ∷ none ∷ own 5 ∷ own 5 ∷ [])
    (ending (abort 3) 7) (unbounded 5 ∷ own 5 ∷ unbounded 5 ∷ none ∷ unbounded 5 ∷ none ∷ [])
    -- from a pointer to int, to int, to another pointer
    ∷ each (m ∷ (r := Cast (Cast (as_int p) int) record_1*) ∷ (Field (Read r) 0 := Read p) ∷ (x := Num 8) ∷ [])
    (ending done 7) (unbounded 8 ∷ own 5 ∷ unbounded 5 ∷ own 5 ∷ own 5 ∷ none ∷ [])
    (ending (abort 2) 7) (unbounded 6 ∷ own 5 ∷ unbounded 5 ∷ unbounded 5 ∷ clear 2)
    -- an int over a pointer: p has the bounds of x's block, [7, 10)
    ∷ each (m ∷ (x := malloc_as int 3) ∷ (int_at (Address p) := plus x 1) ∷ (at p := Num 9) ∷ (y := Num 8) ∷ [])
    (ending done 10) (bounded 7 7 10 ∷ bounded 8 7 10 ∷ unbounded 8 ∷ none ∷ clear 3 ++ (unbounded 9 ∷ none ∷ []))
    (ending (abort 3) 10) (unbounded 7 ∷ bounded 8 5 7 ∷ unbounded 5 ∷ none ∷ clear 5)
    -- an int without bounds over a pointer in a block, and over an int
    ∷ each (m ∷ (pointer_at p := Read p) ∷ (at p := Num 6) ∷ (Deref (Read (pointer_at p)) := Num 9) ∷ (x := Num 8) ∷ [])
    (ending (abort 3) 7) (unbounded 6 ∷ own 5 ∷ unbounded 5 ∷ none ∷ unbounded 6 ∷ none ∷ [])
    (ending done 7) (unbounded 8 ∷ own 5 ∷ unbounded 5 ∷ none ∷ own 6 ∷ unbounded 9 ∷ [])
    ∷ alike (m ∷ (x := as_int p) ∷ (at p := Read x) ∷ (at p := Num 6) ∷ (x := Read (at p)) ∷ (int_at (Read x) := Num 9) ∷ [])
    (ending (abort 5) 7) (unbounded 6 ∷ own 5 ∷ unbounded 5 ∷ none ∷ unbounded 6 ∷ none ∷ [])
    -- an int with a variable's bounds, and with a field's: past them, though within the block
    ∷ each ((y := Cast (Address x) int) ∷ (int_at (Read y) := Num 8) ∷ (int_at (plus y 1) := Num 9) ∷ (x := Num 3) ∷ [])
    (ending (abort 2) 5) (unbounded 8 ∷ none ∷ bounded 1 1 2 ∷ none ∷ [])
    (ending (abort 1) 5) (unbounded 6 ∷ none ∷ unbounded 1 ∷ none ∷ [])
    ∷ each ((r := malloc_as record_1* 6) ∷ (y := Cast (Address (Field (Read r) 1)) int) ∷ (int_at (plus y 1) := Read y) ∷ (int_at (plus y 2) := Num 9) ∷ [])
    (ending (abort 3) 11) (unbounded 6 ∷ none ∷ bounded 6 6 8 ∷ bounded 5 5 11 ∷ clear 2 ++ (bounded 6 6 8 ∷ clear 3))
    (ending (abort 2) 11) (unbounded 6 ∷ none ∷ unbounded 6 ∷ bounded 5 5 11 ∷ clear 6)
    -- an input has none
    ∷ alike (m ∷ (int_at (Read y) := Num 9) ∷ []) (ending (abort 1) 7) (unbounded 6 ∷ own 5 ∷ unbounded 5 ∷ none ∷ clear 2)
    ∷ [])

-- x = (int)p - 5: 0, with bounds
abbrev zero_with_bounds : Command
zero_with_bounds = x := Sum (as_int p) (Num 4294967291)

-- "A sum takes the left bounds if the left end isn't 0, else the right ones."
unfoldable pub sum_runs : List Example
sum_runs =
    joined
    -- a pointer made of two ints, of which the right has bounds, and an int of which the left has
    (each (m ∷ zero_with_bounds ∷ (y := Num 6) ∷ (p := Cast (Sum (Read y) (Read x)) int*) ∷ (at p := Num 9) ∷ (y := Sum (Read x) (Read y)) ∷ [])
    (ending done 7) (own 0 ∷ own 6 ∷ own 6 ∷ none ∷ none ∷ unbounded 9 ∷ [])
    (ending (abort 4) 7) (unbounded 0 ∷ unbounded 6 ∷ unbounded 6 ∷ none ∷ clear 2)
    -- both have some, and y [7, 10): x + y is followed, y + x isn't
    ∷ each
    (m ∷ zero_with_bounds ∷ (y := Sum (malloc_as int 3) (Num 4294967295)) ∷ (int_at (Sum (Read x) (Read y)) := Num 8)
    ∷ (int_at (Sum (Read y) (Read x)) := Num 9) ∷ (x := Num 3) ∷ [])
    (ending (abort 4) 10) (own 0 ∷ own 5 ∷ bounded 6 7 10 ∷ none ∷ none ∷ unbounded 8 ∷ clear 3)
    (ending (abort 3) 10) (unbounded 0 ∷ own 5 ∷ unbounded 6 ∷ none ∷ clear 5)
    -- a pointer and an int that both have some
    ∷ each (m ∷ (y := malloc_as int 3) ∷ (p := Sum (Read p) (plus y 4294967290)) ∷ (at p := Num 9) ∷ [])
    (ending done 10) (unbounded 6 ∷ own 6 ∷ bounded 7 7 10 ∷ none ∷ none ∷ unbounded 9 ∷ clear 3)
    (ending done 10) (unbounded 6 ∷ own 6 ∷ unbounded 7 ∷ none ∷ none ∷ unbounded 9 ∷ clear 3)
    -- a pointer without bounds, to record 1 and to record 0, moved by three and by two times the int: -10 + 15, -5 + 10
    ∷ each (m ∷ (r := Cast (Num 4294967286) record_1*) ∷ (r := Sum (Read r) (as_int p)) ∷ (Field (Read r) 0 := Read p) ∷ (x := Num 8) ∷ [])
    (ending done 7) (unbounded 8 ∷ own 5 ∷ unbounded 5 ∷ own 5 ∷ own 5 ∷ none ∷ [])
    (ending (abort 3) 7) (unbounded 6 ∷ own 5 ∷ unbounded 5 ∷ unbounded 5 ∷ clear 2)
    ∷ each (m ∷ (p := Cast (Sum (Cast (Num 4294967291) record_0*) (as_int p)) int*) ∷ (at p := Num 9) ∷ (x := Num 8) ∷ [])
    (ending done 7) (unbounded 8 ∷ own 5 ∷ unbounded 5 ∷ none ∷ unbounded 9 ∷ none ∷ [])
    (ending (abort 2) 7) (unbounded 6 ∷ unbounded 5 ∷ unbounded 5 ∷ none ∷ clear 2)
    -- neither has any: an int and a constant, a size and a constant over ints that had some
    ∷ alike (m ∷ (x := Num 5) ∷ (y := plus x 1) ∷ (int_at (Read y) := Num 9) ∷ [])
    (ending (abort 3) 7) (unbounded 5 ∷ own 5 ∷ unbounded 6 ∷ none ∷ clear 2)
    ∷ alike (m ∷ (x := as_int p) ∷ (y := Read x) ∷ (x := Size 65537) ∷ (y := Num 2) ∷ (int_at (Sum (Read x) (Read y)) := Num 9) ∷ [])
    (ending (abort 5) 7) (unbounded 3 ∷ own 5 ∷ unbounded 2 ∷ none ∷ clear 2)
    ∷ [])

-- r has a register of 71 to 76, two records, [5, 11), and p one of 77.
abbrev two_registers : Words
two_registers = 2 ∷ 3 ∷ 6 ∷ 71 ∷ 72 ∷ 73 ∷ 74 ∷ 75 ∷ 76 ∷ 1 ∷ 1 ∷ 77 ∷ []

abbrev of_r : ℕ → Datum
of_r v = bounded v 5 11

abbrev ints : Words → List Datum
ints = map unbounded

unfoldable pub block_runs : List Example
block_runs =
    joined
    -- "Obtain n" goes by the int's value: 5 words, none, and one more than there is room for
    (each (m ∷ (x := as_int p) ∷ (y := Cast (Malloc (Read x)) int) ∷ [])
    (ending done 12) (own 5 ∷ own 5 ∷ bounded 7 7 12 ∷ none ∷ clear 7)
    (ending done 12) (unbounded 5 ∷ own 5 ∷ unbounded 7 ∷ none ∷ clear 7)
    ∷ each (m ∷ (r := Cast (Read p) record_1*) ∷ zero_with_bounds ∷ (r := Cast (Malloc (Read x)) record_1*) ∷ (y := Num 8) ∷ [])
    (ending done 7) (own 0 ∷ own 5 ∷ unbounded 8 ∷ none ∷ clear 2)
    (ending done 7) (unbounded 0 ∷ own 5 ∷ unbounded 8 ∷ none ∷ clear 2)
    ∷ each (m ∷ (x := Sum (as_int p) (Num 3)) ∷ (y := Cast (Malloc (Read x)) int) ∷ (x := Num 1) ∷ [])
    (ending (out_of_memory 2) 7) (own 8 ∷ own 5 ∷ unbounded 5 ∷ none ∷ clear 2)
    (ending (out_of_memory 2) 7) (unbounded 8 ∷ own 5 ∷ unbounded 5 ∷ none ∷ clear 2)
    -- a copy from r to r + 1, of an int with the register's bounds; they are followed where y has them from the copy. Its result has none
    ∷ on_registers two_registers
    ((x := as_int r) ∷ (Field (Read r) 1 := Read x) ∷ (x := Copy (plus r 1) (Read r)) ∷ (y := Read (Field (plus r 1) 1)) ∷ (int_at (plus y 2) := Num 9) ∷ [])
    (ending done 12) (unbounded 3 ∷ bounded 11 11 12 ∷ of_r 5 ∷ of_r 5 ∷ unbounded 71 ∷ of_r 5 ∷ unbounded 9 ∷ unbounded 71 ∷ of_r 5 ∷ ints (73 ∷ 77 ∷ []))
    (ending (abort 4) 12) (unbounded 3 ∷ bounded 11 11 12 ∷ unbounded 5 ∷ of_r 5 ∷ ints (71 ∷ 5 ∷ 73 ∷ 71 ∷ 5 ∷ 73 ∷ 77 ∷ []))
    ∷ on_registers two_registers ((p := Cast (Sum (Copy (Read r) (plus r 1)) (as_int r)) int*) ∷ (at p := Num 9) ∷ [])
    (ending done 12) (unbounded 6 ∷ of_r 8 ∷ unbounded 5 ∷ of_r 5 ∷ ints (74 ∷ 75 ∷ 76 ∷ 9 ∷ 75 ∷ 76 ∷ 77 ∷ []))
    (ending (abort 1) 12) (unbounded 6 ∷ unbounded 8 ∷ unbounded 5 ∷ of_r 5 ∷ ints (74 ∷ 75 ∷ 76 ∷ 74 ∷ 75 ∷ 76 ∷ 77 ∷ []))
    ∷ [])

-- ---- The step of a sum by itself, of a left operand moved by three times the right

-- Two operands, and the sum with left bounds alone and with either.
pub record Addition : Type 0 where
  pub left : Datum
  pub right : Datum
  pub by_left : Outcome Datum
  pub by_either : Outcome Datum

unfoldable pub added : Addition → Addition
added c =
    record {
      left = c.left;
      right = c.right;
      by_left = sum_step false 3 c.left c.right small;
      by_either = sum_step true 3 c.left c.right small;
    }

abbrev adds : (left right by_left by_either : Datum) → Addition
adds p x d e = record { left = p; right = x; by_left = ok d small; by_either = ok e small }

unfoldable pub additions : List Addition
additions =
    -- "if the left end isn't 0": the end alone is asked for, and not the base, the value or whether there is a word between base and end
    adds (bounded 5 0 5) (bounded 2 7 9) (bounded 11 0 5) (bounded 11 0 5)
    ∷ adds (bounded 5 5 0) (bounded 2 7 9) (bounded 11 5 0) (bounded 11 7 9)
    ∷ adds (bounded 0 6 8) (bounded 2 7 9) (bounded 6 6 8) (bounded 6 6 8)
    ∷ adds (bounded 5 0 1) (bounded 2 7 9) (bounded 11 0 1) (bounded 11 0 1)
    ∷ adds (bounded 5 3 3) (bounded 2 7 9) (bounded 11 3 3) (bounded 11 3 3)
    ∷ adds (bounded 5 9 4) (bounded 2 7 9) (bounded 11 9 4) (bounded 11 9 4)
    -- "else the right ones", whatever they are
    ∷ adds (unbounded 5) (bounded 2 7 9) (unbounded 11) (bounded 11 7 9)
    ∷ adds (unbounded 5) (bounded 2 7 0) (unbounded 11) (bounded 11 7 0)
    ∷ adds (unbounded 5) (bounded 2 0 7) (unbounded 11) (bounded 11 0 7)
    ∷ adds (unbounded 5) (unbounded 2) (unbounded 11) (unbounded 11)
    -- left bounds stay where the right has none; the value is modulo 4,294,967,296 with either's
    ∷ adds (bounded 5 6 8) (unbounded 2) (bounded 11 6 8) (bounded 11 6 8)
    ∷ adds (unbounded 4294967295) (bounded 1431655766 7 9) (unbounded 1) (bounded 1 7 9)
    ∷ []

-- ---- The steps of a read, a cast and an assignment by themselves: word 1 is 11 with base 0 and end 5, word 2 is 12 with base 5 and end 0

abbrev odd_words : List Event → State
odd_words log = record { values = 0 ∷ 11 ∷ 12 ∷ []; bases = 0 ∷ 0 ∷ 5 ∷ []; ends = 0 ∷ 5 ∷ 0 ∷ []; unused = 3; log = log }

abbrev pub reads_and_casts : List (Outcome Datum)
reads_and_casts =
    read_step true (variable_location 0) (odd_words [])
    ∷ read_step true (variable_location 1) (odd_words [])
    ∷ read_step false (variable_location 0) (odd_words [])
    ∷ read_step false (variable_location 1) (odd_words [])
    ∷ cast_step true (bounded 9 0 5) (odd_words [])
    ∷ cast_step true (bounded 9 5 0) (odd_words [])
    ∷ cast_step false (bounded 9 0 5) (odd_words [])
    ∷ cast_step false (bounded 9 5 0) (odd_words [])
    ∷ []

unfoldable pub reads_and_casts_outcomes : List (Outcome Datum)
reads_and_casts_outcomes =
    ok (bounded 11 0 5) (odd_words (loaded 1 (named 0) ∷ []))
    ∷ ok (bounded 12 5 0) (odd_words (loaded 2 (named 1) ∷ []))
    ∷ ok (unbounded 11) (odd_words (loaded 1 (named 0) ∷ []))
    ∷ ok (unbounded 12) (odd_words (loaded 2 (named 1) ∷ []))
    ∷ ok (bounded 9 0 5) (odd_words [])
    ∷ ok (bounded 9 5 0) (odd_words [])
    ∷ ok (unbounded 9) (odd_words [])
    ∷ ok (unbounded 9) (odd_words [])
    ∷ []

-- Word 2 assigned to, with bounds and without.
abbrev pub assignments : List (Outcome (Unit {0}))
assignments =
    assign_step true (variable_location 1) (bounded 9 0 7) (odd_words [])
    ∷ assign_step true (variable_location 1) (unbounded 9) (odd_words [])
    ∷ assign_step false (variable_location 1) (bounded 9 0 7) (odd_words [])
    ∷ []

-- The base and the end that it has then.
abbrev assigned : ℕ → ℕ → Outcome (Unit {0})
assigned b e =
    ok tt (record { values = 0 ∷ 11 ∷ 9 ∷ []; bases = 0 ∷ 0 ∷ b ∷ []; ends = 0 ∷ 5 ∷ e ∷ []; unused = 3; log = stored 2 (named 1) ∷ [] })

unfoldable pub assignments_outcomes : List (Outcome (Unit {0}))
assignments_outcomes = assigned 0 7 ∷ assigned 0 0 ∷ assigned 5 0 ∷ []

-- ---- What is told of a run that aborts, in memory of 12 words: a node's number doesn't count the mark

abbrev tell_on : Words → List Command → Explanation → Explanation → List Telling
tell_on l cs e₂ e₁ =
    record { table = mark (table cs); inputs = inputs; registers = l; explanation = e₂ }
    ∷ record { table = table cs; inputs = inputs; registers = l; explanation = e₁ }
    ∷ []

abbrev tell_each : List Command → Explanation → Explanation → List Telling
tell_each = tell_on no_registers

unfoldable pub editions_told : List Telling
editions_told =
    joined
    -- by an int's bounds, past the end and before the base; "the first word of the .. block in which the bounds lie"
    (tell_each (m ∷ (x := as_int p) ∷ (int_at (plus x 2) := Num 9) ∷ []) (told 13 7 1 5 7 3 5) (told 13 7 1 0 0 1 0)
    ∷ tell_each (m ∷ (x := as_int p) ∷ (int_at (plus x 4294967295) := Num 9) ∷ []) (told 13 4 1 5 7 2 5) (told 13 4 1 0 0 1 0)
    -- by the right operand's, by a variable's, by a field's
    ∷ tell_each (m ∷ (int_at (Sum (Read x) (as_int p)) := Num 9) ∷ []) (told 11 11 1 5 7 3 5) (told 11 11 1 0 0 1 0)
    ∷ tell_each ((y := Cast (Address x) int) ∷ (int_at (plus y 1) := Num 9) ∷ []) (told 9 2 1 1 2 3 1) (told 9 2 1 0 0 1 0)
    ∷ tell_each ((r := malloc_as record_1* 3) ∷ (x := Cast (Address (Field (Read r) 1)) int) ∷ (int_at (plus x 2) := Num 9) ∷ [])
    (told 15 8 1 6 8 3 5) (told 15 8 1 0 0 1 0)
    -- "1 no bounds": an int store has taken p's
    ∷ tell_each (m ∷ (int_at (Address p) := Num 6) ∷ (at p := Num 9) ∷ []) (told 11 6 1 0 0 1 0) not_aborted
    -- a copy's check by a register's bounds; one that passes, so that the run is done
    ∷ tell_on two_registers ((x := as_int r) ∷ (y := Copy (Cast (plus x 4) record_1*) (Read r)) ∷ []) (told 12 9 3 5 11 3 5) (told 12 9 3 0 0 1 0)
    ∷ tell_on two_registers ((x := as_int r) ∷ (y := Copy (Cast (plus x 3) record_1*) (Read r)) ∷ []) not_aborted (told 12 8 3 0 0 1 0)
    ∷ [])
