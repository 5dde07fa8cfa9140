-- Request 6, "Whole records copied": the words of one list, runs, and what is told of runs that abort. Each would come out otherwise if the request
-- were read otherwise by one word. proofs/Examples.antt computes each list. Tables that are refused stand in specs/RefusalExamples.antt, the tree and
-- the step with its events in specs/TreeExamples.antt.
use Rattle.std.specs.Prelude.{ℕ, List, [], ◌∷◌, ◌++◌, map}
use Rattle.semantics.specs.Words.{Words, words_from, moved}
use Rattle.semantics.specs.Rules.{Datum, unbounded}
use Rattle.semantics.specs.Run.{done, abort, out_of_memory, Answer, ending}
use Rattle.semantics.specs.Explain.{Explanation, not_aborted}
use Rattle.semantics.specs.ExampleTables.{types, of_type, Term, Var, Deref, Field, Num, Sum, Read, Address, Cast, Malloc, Copy, Command, ◌:=◌, routine, Example, ends_so, bounded, no_registers}
use Rattle.semantics.specs.RunExamples.{targets, int, int*, int**, record_1*, record_0*, x, p, inputs, left, none, clear, malloc_as, at, plus, as_plus}
use Rattle.semantics.specs.ExplainExamples.{told, Telling}

-- ---- One list: its words "as they were before the copy, even where the two overlap"

-- Of the list 11 to 15, n words from `from` on, and the list with these from `to` on as well.
pub record Shift : Type 0 where
  pub to : ℕ
  pub from : ℕ
  pub n : ℕ
  pub part : Words
  pub list : Words

abbrev five_words : Words
five_words = 11 ∷ 12 ∷ 13 ∷ 14 ∷ 15 ∷ []

unfoldable pub shifted : Shift → Shift
shifted c =
    record { to = c.to; from = c.from; n = c.n; part = words_from five_words c.from c.n; list = moved five_words c.to c.from c.n }

abbrev shift : (to from n : ℕ) → Words → Words → Shift
shift to from n part list = record { to = to; from = from; n = n; part = part; list = list }

unfoldable pub shifts : List Shift
shifts =
    -- apart, to a lower place and to a higher
    shift 0 3 2 (14 ∷ 15 ∷ []) (14 ∷ 15 ∷ 13 ∷ 14 ∷ 15 ∷ [])
    ∷ shift 3 0 2 (11 ∷ 12 ∷ []) (11 ∷ 12 ∷ 13 ∷ 11 ∷ 12 ∷ [])
    -- overlapping by two words and by one, either way, and onto themselves
    ∷ shift 0 1 3 (12 ∷ 13 ∷ 14 ∷ []) (12 ∷ 13 ∷ 14 ∷ 14 ∷ 15 ∷ [])
    ∷ shift 1 0 3 (11 ∷ 12 ∷ 13 ∷ []) (11 ∷ 11 ∷ 12 ∷ 13 ∷ 15 ∷ [])
    ∷ shift 0 2 3 (13 ∷ 14 ∷ 15 ∷ []) (13 ∷ 14 ∷ 15 ∷ 14 ∷ 15 ∷ [])
    ∷ shift 2 0 3 (11 ∷ 12 ∷ 13 ∷ []) (11 ∷ 12 ∷ 11 ∷ 12 ∷ 13 ∷ [])
    ∷ shift 1 1 3 (12 ∷ 13 ∷ 14 ∷ []) five_words
    -- one word, and none
    ∷ shift 0 4 1 (15 ∷ []) (15 ∷ 12 ∷ 13 ∷ 14 ∷ 15 ∷ [])
    ∷ shift 4 0 1 (11 ∷ []) (11 ∷ 12 ∷ 13 ∷ 14 ∷ 11 ∷ [])
    ∷ shift 3 1 0 [] five_words
    -- what no copy has: a word past the list's end counts as 0, and none is written there
    ∷ shift 0 3 4 (14 ∷ 15 ∷ 0 ∷ 0 ∷ []) (14 ∷ 15 ∷ 0 ∷ 0 ∷ 15 ∷ [])
    ∷ shift 1 5 2 (0 ∷ 0 ∷ []) (11 ∷ 0 ∷ 0 ∷ 14 ∷ 15 ∷ [])
    ∷ shift 3 0 4 (11 ∷ 12 ∷ 13 ∷ 14 ∷ []) (11 ∷ 12 ∷ 13 ∷ 11 ∷ 12 ∷ [])
    ∷ shift 5 0 2 (11 ∷ 12 ∷ []) five_words
    ∷ []

-- ---- Runs, in memory of 16 words: the int x in word 1, p in word 2, and the record 1* a in word 3 and b in word 4

-- Record 0 has one int. Record 1 has a pointer to int and two ints.
abbrev small_records : List (List Words)
small_records = (of_type 0 1 ∷ []) ∷ (of_type 2 1 ∷ of_type 0 2 ∷ []) ∷ []

abbrev pub table : List Command → Words
table cs = types small_records targets (int ∷ int* ∷ record_1* ∷ record_1* ∷ []) ++ routine cs

abbrev pub a : Term
a = Var 2

abbrev pub b : Term
b = Var 3

abbrev run : Words → List Command → Answer → List Datum → Example
run l cs = ends_so (table cs) inputs l 16

abbrev ints : Words → List Datum
ints = map unbounded

-- Registers of 71 to 73 for a, [5, 8), and of 74 to 76 for b, [8, 11); one of 71 to 76 for a, [5, 11).
abbrev pub three_and_three : Words
three_and_three = 2 ∷ 2 ∷ 3 ∷ 71 ∷ 72 ∷ 73 ∷ 3 ∷ 3 ∷ 74 ∷ 75 ∷ 76 ∷ []

abbrev six : Words
six = 1 ∷ 2 ∷ 6 ∷ 71 ∷ 72 ∷ 73 ∷ 74 ∷ 75 ∷ 76 ∷ []

abbrev as_handed_in : List Datum
as_handed_in = ints (71 ∷ 72 ∷ 73 ∷ 74 ∷ 75 ∷ 76 ∷ [])

-- These commands with the first two; they leave x, p and the words from 5 on so.
abbrev leaves : List Command → Answer → ℕ → Datum → List Datum → Example
leaves cs e n d m = run three_and_three cs e (left n d (bounded 5 5 8) (bounded 8 8 11) m)

-- x = t, which is done
abbrev computes : Term → ℕ → List Datum → Example
computes t n m = leaves ((x := t) ∷ []) (ending done 11) n none m

-- x = t, which aborts: every word is as it was
abbrev aborts : Term → Example
aborts t = leaves ((x := t) ∷ []) (ending (abort 0) 11) 30 none as_handed_in

-- copy(a, b), and what it leaves
abbrev pub a_from_b : Term
a_from_b = Copy (Read a) (Read b)

abbrev both_b : List Datum
both_b = ints (74 ∷ 75 ∷ 76 ∷ 74 ∷ 75 ∷ 76 ∷ [])

-- (record 1*)((int*)t + k), (record 0*)t, *(int*)t, *(int**)((int*)t + k)
abbrev on : Term → ℕ → Term
on t k = Cast (as_plus int* t k) record_1*

abbrev pub one_word : Term → Term
one_word t = Cast t record_0*

abbrev first_of : Term → Term
first_of t = Deref (Cast (Read t) int*)

abbrev pointer_at : Term → ℕ → Term
pointer_at t k = Deref (Cast (as_plus int* t k) int**)

unfoldable pub copy_runs : List Example
copy_runs =
    -- "The words at b go to a .. The result is the number of words"; "int stores the value only, and the word's base and end stay"
    computes a_from_b 3 both_b
    ∷ run three_and_three ((Deref (Cast (Address x) int**) := Address x) ∷ (x := a_from_b) ∷ [])
    (ending done 11) (bounded 3 1 2 ∷ none ∷ bounded 5 5 8 ∷ bounded 8 8 11 ∷ both_b)
    -- "with value, base and end": a pointer, which is followed then; an int whose word has kept bounds; none where a had some
    ∷ leaves
    ((p := malloc_as int* 1) ∷ (Field (Read b) 0 := Read p) ∷ (pointer_at b 1 := Address x) ∷ (Field (Read b) 1 := Num 9) ∷ (pointer_at a 2 := Address x)
    ∷ (x := a_from_b) ∷ (Deref (Read (Field (Read a) 0)) := Num 8) ∷ [])
    (ending done 12) 3 (bounded 11 11 12)
    (bounded 11 11 12 ∷ bounded 9 1 2 ∷ unbounded 76 ∷ bounded 11 11 12 ∷ bounded 9 1 2 ∷ unbounded 76 ∷ unbounded 8 ∷ [])
    -- a record of one word, also a variable's and a field's; a field of two words has not three
    ∷ computes (Copy (one_word (Read a)) (one_word (Read b))) 1 (ints (74 ∷ 72 ∷ 73 ∷ 74 ∷ 75 ∷ 76 ∷ []))
    ∷ leaves ((x := Copy (one_word (Address p)) (one_word (Address x))) ∷ [])
    (ending done 11) 1 (unbounded 30) as_handed_in
    ∷ computes (Copy (one_word (Address (Field (Read a) 1))) (one_word (Read b))) 1 (ints (71 ∷ 74 ∷ 73 ∷ 74 ∷ 75 ∷ 76 ∷ []))
    ∷ computes (Copy (one_word (Read a)) (one_word (Address (Field (Read b) 1)))) 1 (ints (75 ∷ 72 ∷ 73 ∷ 74 ∷ 75 ∷ 76 ∷ []))
    ∷ aborts (Copy (Cast (Address (Field (Read a) 1)) record_1*) (Read b))
    ∷ aborts (Copy (Read a) (Cast (Address (Field (Read b) 1)) record_1*))
    -- "a's place is checked for the record's size, then b's": a word further on, a word before the base, no bounds. Where b's isn't passed a is not written
    ∷ aborts (Copy (on a 1) (Read b))
    ∷ aborts (Copy (on a 4294967295) (Read b))
    ∷ aborts (Copy (Cast (Num 5) record_1*) (Read b))
    ∷ aborts (Copy (Read a) (on b 1))
    ∷ aborts (Copy (Read a) (on b 4294967295))
    ∷ aborts (Copy (Read a) (Cast (Num 8) record_1*))
    -- a block of one word fewer, as a and as b
    ∷ run (2 ∷ 2 ∷ 2 ∷ 71 ∷ 72 ∷ 3 ∷ 3 ∷ 73 ∷ 74 ∷ 75 ∷ []) ((x := a_from_b) ∷ [])
    (ending (abort 0) 10) (left 30 none (bounded 5 5 7) (bounded 7 7 10) (ints (71 ∷ 72 ∷ 73 ∷ 74 ∷ 75 ∷ [])))
    ∷ run (2 ∷ 2 ∷ 3 ∷ 71 ∷ 72 ∷ 73 ∷ 3 ∷ 2 ∷ 74 ∷ 75 ∷ []) ((x := a_from_b) ∷ [])
    (ending (abort 0) 10) (left 30 none (bounded 5 5 8) (bounded 8 8 10) (ints (71 ∷ 72 ∷ 73 ∷ 74 ∷ 75 ∷ [])))
    -- by steps of a record: the second of two, either way; there is no third
    ∷ run six ((x := Copy (plus a 1) (Read a)) ∷ []) (ending done 11) (left 3 none (bounded 5 5 11) none (ints (71 ∷ 72 ∷ 73 ∷ 71 ∷ 72 ∷ 73 ∷ [])))
    ∷ run six ((x := Copy (Read a) (plus a 1)) ∷ []) (ending done 11) (left 3 none (bounded 5 5 11) none both_b)
    ∷ run six ((x := Copy (Read a) (plus a 2)) ∷ []) (ending (abort 0) 11) (left 30 none (bounded 5 5 11) none as_handed_in)
    ∷ []

-- Word 6 is &x and word 8 is a, with their bounds; then x = copy(a + j, a + k), by words.
abbrev overlapping : (j k : ℕ) → List Datum → Example
overlapping j k m =
    run six ((pointer_at a 1 := Address x) ∷ (pointer_at a 3 := Cast (Read a) int*) ∷ (x := Copy (on a j) (on a k)) ∷ [])
    (ending done 11) (left 3 none (bounded 5 5 11) none m)

abbrev to_x : Datum
to_x = bounded 1 1 2

abbrev to_a : Datum
to_a = bounded 5 5 11

unfoldable pub overlaps : List Example
overlaps =
    -- "as they were before the copy, even where the two overlap": a above b by one, two and three words, below it, and at it
    overlapping 1 0 (unbounded 71 ∷ unbounded 71 ∷ to_x ∷ unbounded 73 ∷ unbounded 75 ∷ unbounded 76 ∷ [])
    ∷ overlapping 2 0 (unbounded 71 ∷ to_x ∷ unbounded 71 ∷ to_x ∷ unbounded 73 ∷ unbounded 76 ∷ [])
    ∷ overlapping 3 0 (unbounded 71 ∷ to_x ∷ unbounded 73 ∷ unbounded 71 ∷ to_x ∷ unbounded 73 ∷ [])
    ∷ overlapping 0 1 (to_x ∷ unbounded 73 ∷ to_a ∷ to_a ∷ unbounded 75 ∷ unbounded 76 ∷ [])
    ∷ overlapping 1 3 (unbounded 71 ∷ to_a ∷ unbounded 75 ∷ unbounded 76 ∷ unbounded 75 ∷ unbounded 76 ∷ [])
    ∷ overlapping 1 1 (unbounded 71 ∷ to_x ∷ unbounded 73 ∷ to_a ∷ unbounded 75 ∷ unbounded 76 ∷ [])
    ∷ []

-- x = t without registers, which ends so and leaves n clear words from 5 on
abbrev ends_clear : Term → Answer → ℕ → Example
ends_clear t e n = run no_registers ((x := t) ∷ []) e (left 30 none none none (clear n))

unfoldable pub copy_orders : List Example
copy_orders =
    -- "Both are evaluated": a first, then b; "then a's place is checked": b's block is there, and b's no room comes before a's check
    ends_clear (Copy (malloc_as record_1* 12) (Cast (Read (at p)) record_1*)) (ending (out_of_memory 0) 5) 0
    ∷ ends_clear (Copy (Cast (Read (at p)) record_1*) (malloc_as record_1* 12)) (ending (abort 0) 5) 0
    ∷ ends_clear (Copy (Read a) (malloc_as record_1* 4)) (ending (abort 0) 9) 4
    ∷ ends_clear (Copy (Read a) (malloc_as record_1* 12)) (ending (out_of_memory 0) 5) 0
    -- "blocks already obtained by it stay"
    ∷ ends_clear (Copy (malloc_as record_1* 3) (malloc_as record_1* 2)) (ending (abort 0) 10) 5
    ∷ ends_clear (Copy (malloc_as record_1* 2) (malloc_as record_1* 3)) (ending (abort 0) 10) 5
    ∷ run no_registers ((x := Copy (malloc_as record_1* 3) (malloc_as record_1* 4)) ∷ (x := Copy (malloc_as record_1* 3) (Read b)) ∷ (x := Num 8) ∷ [])
    (ending (abort 1) 15) (left 3 none none none (clear 10))
    -- a's pointer is worked out before a copy in b's overwrites it: p is a; copy((record 0*)p, (record 0*)b + copy((record 0*)&p, (record 0*)&x))
    ∷ leaves
    ((p := Cast (Read a) int*)
    ∷ (x := Copy (one_word (Read p)) (Sum (one_word (Read b)) (Copy (one_word (Address p)) (one_word (Address x))))) ∷ [])
    (ending done 11) 1 (unbounded 30) (ints (75 ∷ 72 ∷ 73 ∷ 74 ∷ 75 ∷ 76 ∷ []))
    -- a copy in b's operand goes before the copy of it: copy(a, (record 1*)((int*)b + copy((record 0*)(b + 1), (record 0*)a)))
    ∷ run (2 ∷ 2 ∷ 3 ∷ 71 ∷ 72 ∷ 73 ∷ 3 ∷ 4 ∷ 74 ∷ 75 ∷ 76 ∷ 77 ∷ [])
    ((x := Copy (Read a) (Cast (Sum (Cast (Read b) int*) (Copy (one_word (on b 1)) (one_word (Read a)))) record_1*)) ∷ [])
    (ending done 12) (left 3 none (bounded 5 5 8) (bounded 8 8 12) (ints (71 ∷ 76 ∷ 77 ∷ 74 ∷ 71 ∷ 76 ∷ 77 ∷ [])))
    -- a pointer made of a copy has no bounds to follow; what an operand has copied stays, at an abort and at no room
    ∷ leaves ((x := Copy (Cast a_from_b record_1*) (Read b)) ∷ []) (ending (abort 0) 11) 30 none both_b
    ∷ leaves ((x := Sum a_from_b (Read (at p))) ∷ []) (ending (abort 0) 11) 30 none both_b
    ∷ leaves ((x := Sum a_from_b (malloc_as int 6)) ∷ []) (ending (out_of_memory 0) 11) 30 none both_b
    -- a value like others: of a sum, of malloc, of a pointer's step by words and by records
    ∷ computes (Sum a_from_b (Num 1)) 4 both_b
    ∷ leaves ((p := Cast (Malloc a_from_b) int*) ∷ []) (ending done 14) 30 (bounded 11 11 14) (both_b ++ clear 3)
    ∷ leaves ((p := Sum (Cast (Read b) int*) a_from_b) ∷ []) (ending done 11) 30 (bounded 11 8 11) both_b
    ∷ run three_and_three ((a := Sum (Read a) a_from_b) ∷ []) (ending done 11) (left 30 none (bounded 14 5 8) (bounded 8 8 11) both_b)
    -- memory is written while a value is worked out: the right operand sees it, the left one does not; a command's value sees what its place has copied
    ∷ computes (Sum a_from_b (Read (first_of a))) 77 both_b
    ∷ computes (Sum (Read (first_of a)) a_from_b) 74 both_b
    ∷ leaves ((Deref (Sum (Cast (Read a) int*) (Copy (one_word (Read a)) (one_word (Read b)))) := Read (first_of a)) ∷ [])
    (ending done 11) 30 none (ints (74 ∷ 74 ∷ 73 ∷ 74 ∷ 75 ∷ 76 ∷ []))
    -- "a command's place before its value": the place stays where it was, though the copy overwrites the pointer that led there
    ∷ leaves
    ((p := malloc_as int* 1) ∷ (Field (Read a) 0 := Address x) ∷ (Field (Read b) 0 := Read p) ∷ (Deref (Read (Field (Read a) 0)) := a_from_b) ∷ [])
    (ending done 12) 3 (bounded 11 11 12)
    (bounded 11 11 12 ∷ unbounded 75 ∷ unbounded 76 ∷ bounded 11 11 12 ∷ unbounded 75 ∷ unbounded 76 ∷ none ∷ [])
    ∷ leaves ((p := Address x) ∷ (at p := Copy (one_word (Address p)) (one_word (Read b))) ∷ [])
    (ending done 11) 1 (unbounded 74) as_handed_in
    -- and is assigned to after the copy: x = copy((record 0*)&x, (record 0*)b)
    ∷ computes (Copy (one_word (Address x)) (one_word (Read b))) 1 as_handed_in
    ∷ []

-- ---- What is told of a check not passed: "the explaining tool names kind 11's node for either". Memory of 12 words; x is node 0.

abbrev tells : Words → Term → Explanation → Telling
tells l t e = record { table = table ((x := t) ∷ []); inputs = inputs; registers = l; explanation = e }

unfoldable pub copies_told : List Telling
copies_told =
    -- a's place is its pointer's value, the words are the record's: 1, 2 and 3, the last also by as many words as can be
    tells three_and_three (Copy (Cast (Num 6) record_1*) (Read b)) (told 5 6 3 0 0 1 0)
    ∷ tells three_and_three (Copy (on a 4294967295) (Read b)) (told 9 4 3 5 8 2 5)
    ∷ tells three_and_three (Copy (on a 1) (Read b)) (told 9 6 3 5 8 3 5)
    ∷ tells three_and_three (Copy (on a 4294967290) (Read b)) (told 9 4294967295 3 5 8 3 5)
    -- b's
    ∷ tells three_and_three (Copy (Read a) (Cast (Num 9) record_1*)) (told 5 9 3 0 0 1 0)
    ∷ tells three_and_three (Copy (Read a) (on b 4294967295)) (told 9 7 3 8 11 2 8)
    ∷ tells three_and_three (Copy (Read a) (on b 1)) (told 9 9 3 8 11 3 8)
    -- of both a's; but a check in b's operand comes before it, and one in a's before that
    ∷ tells three_and_three (Copy (on a 1) (on b 4294967295)) (told 13 6 3 5 8 3 5)
    ∷ tells no_registers (Copy (Cast (Num 6) record_1*) (Cast (Read (at p)) record_1*)) (told 5 0 1 0 0 1 0)
    ∷ tells no_registers (Copy (Cast (Read (at p)) record_1*) (Cast (Read (Deref (Sum (Address x) (Num 1)))) record_1*)) (told 3 0 1 0 0 1 0)
    -- "the lowest that applies": three words from one before the base to one past the end; one word of a record of one
    ∷ tells (2 ∷ 2 ∷ 1 ∷ 71 ∷ 3 ∷ 3 ∷ 72 ∷ 73 ∷ 74 ∷ []) (Copy (on a 4294967295) (Read b)) (told 9 4 3 5 6 2 5)
    ∷ tells three_and_three (Copy (as_plus record_0* a 3) (one_word (Read b))) (told 9 8 1 5 8 3 5)
    ∷ tells three_and_three (Copy (one_word (Read a)) (as_plus record_0* b 3)) (told 9 11 1 8 11 3 8)
    -- "the first word of the variable or block": of x and of p; of a block in which a field's bounds lie; of blocks that a and then b obtained
    ∷ tells three_and_three (Copy (Cast (Address x) record_1*) (Read b)) (told 6 1 3 1 2 3 1)
    ∷ tells three_and_three (Copy (Read a) (Cast (Address p) record_1*)) (told 6 2 3 2 3 3 2)
    ∷ tells three_and_three (Copy (Cast (Address (Field (Read a) 1)) record_1*) (Read b)) (told 8 6 3 6 8 3 5)
    ∷ tells three_and_three (Copy (Read a) (Cast (Address (Field (Read b) 1)) record_1*)) (told 8 9 3 9 11 3 8)
    ∷ tells no_registers (Copy (malloc_as record_1* 2) (malloc_as record_1* 4)) (told 7 5 3 5 7 3 5)
    ∷ tells no_registers (Copy (malloc_as record_1* 4) (malloc_as record_1* 2)) (told 7 9 3 9 11 3 9)
    -- of two copies, one in the other's operand: the inner, and the outer
    ∷ tells three_and_three (Copy (Read a) (Cast (Copy (Read a) (on b 1)) record_1*)) (told 11 9 3 8 11 3 8)
    ∷ tells three_and_three (Copy (Read a) (Cast a_from_b record_1*)) (told 9 3 3 0 0 1 0)
    -- "For a run that doesn't abort it says so"
    ∷ tells three_and_three a_from_b not_aborted
    ∷ tells no_registers (Copy (Read a) (malloc_as record_1* 8)) not_aborted
    ∷ []
