-- What a run does: document 01, "Memory" and "Steps", and what requests 1 and 2 add. For each sentence there are runs that would end
-- otherwise if it were read otherwise by one word. proofs/Examples.antt computes each list.
use Rattle.std.specs.Prelude.{ℕ, Bool, true, false, List, [], ◌∷◌, ◌++◌, replicate}
use Rattle.semantics.specs.Words.{Words}
use Rattle.semantics.specs.Rules.{Datum, unbounded, touchable}
use Rattle.semantics.specs.Run.{cleared, done, abort, out_of_memory, Answer, ending}
use Rattle.semantics.specs.ExampleTables.{types, of_type, Term, Var, Deref, Field, Num, Sum, Read, Address, Cast, Size, Malloc, Command, ◌:=◌, routine, Example, ends_so, bounded, no_registers}

-- ---- The setting: types 0 to 6, four variables, memory of 12 words

-- Record 0 has fields of 3, 1, 2 and 2 ints. Record 1 has a field of 4 ints, one of a pointer to int, and one of 2 ints.
abbrev two_records : List (List Words)
two_records =
    (of_type 0 3 ∷ of_type 0 1 ∷ of_type 0 2 ∷ of_type 0 2 ∷ [])
    ∷ (of_type 0 4 ∷ of_type 2 1 ∷ of_type 0 2 ∷ [])
    ∷ []

abbrev pub targets : Words
targets = 0 ∷ 2 ∷ 65537 ∷ 65536 ∷ 1 ∷ []

abbrev pub int : ℕ
int = 0

abbrev void* : ℕ
void* = 1

abbrev pub int* : ℕ
int* = 2

abbrev pub int** : ℕ
int** = 3

abbrev pub record_1* : ℕ
record_1* = 4

abbrev pub record_0* : ℕ
record_0* = 5

-- Variables: the int x in word 1, p in word 2, v in word 3, r in word 4. The first block begins at word 5.
abbrev pub x : Term
x = Var 0

abbrev pub p : Term
p = Var 1

abbrev pub v : Term
v = Var 2

abbrev pub r : Term
r = Var 3

abbrev pub table : List Command → Words
table cs = types two_records targets (int ∷ int* ∷ void* ∷ record_1* ∷ []) ++ routine cs

abbrev pub inputs : Words
inputs = 30 ∷ 0 ∷ 0 ∷ 0 ∷ []

abbrev pub from_registers : Words → List Command → Answer → List Datum → Example
from_registers l cs = ends_so (table cs) inputs l 12

abbrev pub run : List Command → Answer → List Datum → Example
run = from_registers no_registers

-- Memory up to U: the four variables, then the blocks.
abbrev pub left : ℕ → Datum → Datum → Datum → List Datum → List Datum
left a b c d blocks = unbounded a ∷ b ∷ c ∷ d ∷ blocks

abbrev pub none : Datum
none = unbounded 0

abbrev pub clear : ℕ → List Datum
clear n = replicate n none

-- (ty)malloc(n), *t, (ty)t + k
abbrev pub malloc_as : ℕ → ℕ → Term
malloc_as ty n = Cast (Malloc (Num n)) ty

abbrev pub at : Term → Term
at t = Deref (Read t)

abbrev pub plus : Term → ℕ → Term
plus t k = Sum (Read t) (Num k)

abbrev pub as_plus : ℕ → Term → ℕ → Term
as_plus ty t k = Sum (Cast (Read t) ty) (Num k)

-- p = (int*)malloc(2), words 5 and 6
abbrev pub m : Command
m = p := malloc_as int* 2

-- ---- "Memory"

unfoldable pub memory_runs : List Example
memory_runs =
    -- "sets each variable's value from the input list, one input a variable": "Variable number i is word 1 + i"
    ends_so (types [] (0 ∷ []) (0 ∷ 2 ∷ 0 ∷ 0 ∷ []) ++ routine []) (5 ∷ 0 ∷ 4294967295 ∷ 6 ∷ []) no_registers 7
    (ending done 5) (unbounded 5 ∷ none ∷ unbounded 4294967295 ∷ unbounded 6 ∷ [])
    -- each variable assigned
    ∷ run ((x := Num 7) ∷ (r := Cast (Num 8) record_1*) ∷ (v := Cast (Num 9) void*) ∷ (p := Cast (Num 10) int*) ∷ [])
    (ending done 5) (left 7 (unbounded 10) (unbounded 9) (unbounded 8) [])
    -- request 1: registers for variables in another order, "With n = 0 it starts as 0 without bounds"; then the first block
    ∷ from_registers (3 ∷ 3 ∷ 2 ∷ 71 ∷ 72 ∷ 1 ∷ 0 ∷ 2 ∷ 1 ∷ 73 ∷ []) []
    (ending done 8) (left 30 none (bounded 7 7 8) (bounded 5 5 7) (unbounded 71 ∷ unbounded 72 ∷ unbounded 73 ∷ []))
    ∷ from_registers (2 ∷ 2 ∷ 1 ∷ 71 ∷ 1 ∷ 0 ∷ []) []
    (ending done 6) (left 30 none (bounded 5 5 6) none (unbounded 71 ∷ []))
    ∷ from_registers (3 ∷ 3 ∷ 2 ∷ 71 ∷ 72 ∷ 1 ∷ 0 ∷ 2 ∷ 1 ∷ 73 ∷ [])
    (m ∷ (at p := Num 9) ∷ (x := Read (Deref (as_plus int* r 1))) ∷ [])
    (ending done 10)
    (left 72 (bounded 8 8 10) (bounded 7 7 8) (bounded 5 5 7) (unbounded 71 ∷ unbounded 72 ∷ unbounded 73 ∷ unbounded 9 ∷ none ∷ []))
    ∷ []

-- ---- The order of evaluation, and how a run ends

unfoldable pub order_runs : List Example
order_runs =
    -- "a command's place before its value": whose block is the first, and which of two failures ends the run
    run ((Deref (malloc_as int* 1) := malloc_as int 2) ∷ [])
    (ending done 8) (left 30 none none none (unbounded 6 ∷ none ∷ none ∷ []))
    ∷ run ((at p := malloc_as int 9) ∷ [])
    (ending (abort 0) 5) (left 30 none none none [])
    ∷ run ((Deref (malloc_as int* 9) := Read (at p)) ∷ [])
    (ending (out_of_memory 0) 5) (left 30 none none none [])
    -- "Child a goes before child b"
    ∷ run ((p := Sum (malloc_as int* 2) (malloc_as int 1)) ∷ [])
    (ending done 8) (left 30 (bounded 12 5 7) none none (clear 3))
    ∷ run ((x := Sum (malloc_as int 9) (Read (at p))) ∷ [])
    (ending (out_of_memory 0) 5) (left 30 none none none [])
    ∷ run ((x := Sum (Read (at p)) (malloc_as int 9)) ∷ [])
    (ending (abort 0) 5) (left 30 none none none [])
    -- "The first abort or no room ends the run at that command": nothing after it is done
    ∷ run ((x := Num 1) ∷ (at p := Num 2) ∷ (x := Num 3) ∷ (v := Malloc (Num 1)) ∷ [])
    (ending (abort 1) 5) (left 1 none none none [])
    ∷ run ((x := Num 1) ∷ (at p := Num 2) ∷ (v := Malloc (Num 8)) ∷ (at p := Num 3) ∷ [])
    (ending (abort 1) 5) (left 1 none none none [])
    ∷ run ((x := Num 1) ∷ (v := Malloc (Num 8)) ∷ (x := Num 3) ∷ (v := Malloc (Num 1)) ∷ [])
    (ending (out_of_memory 1) 5) (left 1 none none none [])
    ∷ run ((x := Num 1) ∷ (x := Num 2) ∷ (v := Malloc (Num 8)) ∷ (at p := Num 3) ∷ (v := Malloc (Num 9)) ∷ [])
    (ending (out_of_memory 2) 5) (left 2 none none none [])
    -- "blocks already obtained by it stay": at an abort of its place and of its value, and at no room; the place isn't written
    ∷ run ((x := Num 1) ∷ (Deref (Sum (malloc_as int* 2) (Num 2)) := Num 9) ∷ (x := Num 3) ∷ [])
    (ending (abort 1) 7) (left 1 none none none (clear 2))
    ∷ run ((Deref (malloc_as int* 2) := Read (at p)) ∷ (x := Num 3) ∷ [])
    (ending (abort 0) 7) (left 30 none none none (clear 2))
    ∷ run ((v := Malloc (Num 1)) ∷ (Deref (malloc_as int* 2) := malloc_as int 5) ∷ (x := Num 3) ∷ [])
    (ending (out_of_memory 1) 8) (left 30 none (bounded 5 5 6) none (clear 3))
    ∷ []

-- ---- Places: variable, follow, field, and their addresses

-- r = (record 1*)malloc(n), and then this
abbrev in_record : ℕ → Command → Answer → List Datum → Example
in_record n c = run ((r := malloc_as record_1* n) ∷ c ∷ [])

-- v = (void*)&t
abbrev pub shows : Term → Command
shows t = v := Cast (Address t) void*

unfoldable pub place_runs : List Example
place_runs =
    -- "Variable: its word, with bounds [word, word + 1)"
    run ((p := Address x) ∷ (at p := Num 8) ∷ []) (ending done 5) (left 8 (bounded 1 1 2) none none [])
    ∷ run (shows p ∷ []) (ending done 5) (left 30 none (bounded 2 2 3) none [])
    ∷ run (shows v ∷ []) (ending done 5) (left 30 none (bounded 3 3 4) none [])
    ∷ run ((Deref (Sum (Address x) (Num 1)) := Num 8) ∷ []) (ending (abort 0) 5) (left 30 none none none [])
    -- "b ≤ v and v + 1 ≤ e": the first word, the last, one before and one after, assigned and read
    ∷ run (m ∷ (at p := Num 8) ∷ (Deref (plus p 1) := Num 9) ∷ (x := Read (Deref (plus p 1))) ∷ [])
    (ending done 7) (left 9 (bounded 5 5 7) none none (unbounded 8 ∷ unbounded 9 ∷ []))
    ∷ run (m ∷ (x := Read (Deref (plus p 2))) ∷ []) (ending (abort 1) 7) (left 30 (bounded 5 5 7) none none (clear 2))
    ∷ run (m ∷ (x := Read (Deref (plus p 4294967295))) ∷ []) (ending (abort 1) 7) (left 30 (bounded 5 5 7) none none (clear 2))
    -- "These sums .. are exact": of 4,294,967,295 and 1 too
    ∷ run (m ∷ (x := Read (Deref (plus p 4294967290))) ∷ []) (ending (abort 1) 7) (left 30 (bounded 5 5 7) none none (clear 2))
    -- "The place is v and keeps [b, e)"; "the checks of its place are made, though nothing is read"
    ∷ run (m ∷ (p := Address (Deref (plus p 1))) ∷ []) (ending done 7) (left 30 (bounded 6 5 7) none none (clear 2))
    ∷ run (m ∷ (p := Address (Deref (plus p 2))) ∷ []) (ending (abort 1) 7) (left 30 (bounded 5 5 7) none none (clear 2))
    ∷ run (shows (at p) ∷ []) (ending (abort 0) 5) (left 30 none none none [])
    -- "Field: with w = v + offset .. The place is w with bounds [w, w + k)", for each field of record 1, then of record 0
    ∷ in_record 7 (shows (Field (Read r) 0)) (ending done 12) (left 30 none (bounded 5 5 9) (bounded 5 5 12) (clear 7))
    ∷ in_record 7 (shows (Field (Read r) 1)) (ending done 12) (left 30 none (bounded 9 9 10) (bounded 5 5 12) (clear 7))
    ∷ in_record 7 (shows (Field (Read r) 2)) (ending done 12) (left 30 none (bounded 10 10 12) (bounded 5 5 12) (clear 7))
    ∷ in_record 7 (shows (Field (Cast (Read r) record_0*) 0)) (ending done 12) (left 30 none (bounded 5 5 8) (bounded 5 5 12) (clear 7))
    ∷ in_record 7 (shows (Field (Cast (Read r) record_0*) 1)) (ending done 12) (left 30 none (bounded 8 8 9) (bounded 5 5 12) (clear 7))
    ∷ in_record 7 (shows (Field (Cast (Read r) record_0*) 2)) (ending done 12) (left 30 none (bounded 9 9 11) (bounded 5 5 12) (clear 7))
    -- "it passes when b ≤ w and w + k ≤ e": a block with just the field's words, and with one fewer
    ∷ in_record 4 (Field (Read r) 0 := Num 8) (ending done 9) (left 30 none none (bounded 5 5 9) (unbounded 8 ∷ clear 3))
    ∷ in_record 3 (Field (Read r) 0 := Num 8) (ending (abort 1) 8) (left 30 none none (bounded 5 5 8) (clear 3))
    ∷ in_record 5 (Field (Read r) 1 := Address x) (ending done 10) (left 30 none none (bounded 5 5 10) (clear 4 ++ (bounded 1 1 2 ∷ [])))
    ∷ in_record 4 (Field (Read r) 1 := Address x) (ending (abort 1) 9) (left 30 none none (bounded 5 5 9) (clear 4))
    ∷ in_record 7 (Field (Read r) 2 := Num 8) (ending done 12) (left 30 none none (bounded 5 5 12) (clear 5 ++ (unbounded 8 ∷ none ∷ [])))
    ∷ in_record 6 (x := Read (Field (Read r) 2)) (ending (abort 1) 11) (left 30 none none (bounded 5 5 11) (clear 6))
    -- one word before the block: field 0 is out of bounds, and field 1 is not
    ∷ in_record 7 (shows (Field (Cast (as_plus int* r 4294967295) record_1*) 0)) (ending (abort 1) 12) (left 30 none none (bounded 5 5 12) (clear 7))
    ∷ in_record 7 (shows (Field (Cast (as_plus int* r 4294967295) record_1*) 1)) (ending done 12) (left 30 none (bounded 8 8 9) (bounded 5 5 12) (clear 7))
    -- exact sums: v + 4 is 4,294,967,297, and then w + 1 is 4,294,967,296
    ∷ run ((p := Read (Field (Cast (Sum (Address x) (Num 4294967292)) record_1*) 1)) ∷ [])
    (ending (abort 0) 5) (left 30 none none none [])
    ∷ run ((p := Read (Field (Cast (Sum (Address x) (Num 4294967290)) record_1*) 1)) ∷ [])
    (ending (abort 0) 5) (left 30 none none none [])
    -- the address of a field has the field's bounds: its fourth word is the last
    ∷ in_record 7 (Deref (Sum (Address (Field (Read r) 0)) (Num 3)) := Num 8)
    (ending done 12) (left 30 none none (bounded 5 5 12) (clear 3 ++ (unbounded 8 ∷ clear 3)))
    ∷ in_record 7 (Deref (Sum (Address (Field (Read r) 0)) (Num 4)) := Num 8)
    (ending (abort 1) 12) (left 30 none none (bounded 5 5 12) (clear 7))
    ∷ []

-- ---- Values: constant, size, read, sum, cast, obtain; and assign

-- x = t
abbrev computes : Term → ℕ → Example
computes t n = run ((x := t) ∷ []) (ending done 5) (left n none none none [])

-- One, three and two fields.
abbrev three_records : List (List Words)
three_records =
    (of_type 0 5 ∷ [])
    ∷ (of_type 0 1 ∷ of_type 0 2 ∷ of_type 0 4 ∷ [])
    ∷ (of_type 0 3 ∷ of_type 0 3 ∷ [])
    ∷ []

-- v = (void*)malloc(1), *(int**)v = (int*)v: the word 5 has bounds
abbrev pointer_in_block : List Command
pointer_in_block = (v := Malloc (Num 1)) ∷ (Deref (Cast (Read v) int**) := Cast (Read v) int*) ∷ []

unfoldable pub value_runs : List Example
value_runs =
    -- "Constant and size: their number"; "Every type is one word in size; a record's size is the exact sum of its field counts"
    computes (Num 4294967295) 4294967295
    ∷ computes (Size int) 1
    ∷ computes (Size void*) 1
    ∷ computes (Size record_0*) 1
    ∷ computes (Size 65536) 8
    ∷ computes (Size 65537) 7
    ∷ ends_so (types three_records [] (0 ∷ 0 ∷ 0 ∷ []) ++ routine ((Var 0 := Size 65536) ∷ (Var 1 := Size 65537) ∷ (Var 2 := Size 65538) ∷ []))
    (0 ∷ 0 ∷ 0 ∷ []) no_registers 4 (ending done 4) (unbounded 5 ∷ unbounded 7 ∷ unbounded 6 ∷ [])
    -- "Read: a pointer type gives value, base and end of the word; int gives the value without bounds"
    ∷ computes (Sum (Read x) (Num 1)) 31
    ∷ run (pointer_in_block ++ ((p := Read (Deref (Cast (Read v) int**))) ∷ (x := Read (Deref (Cast (Read v) int*))) ∷ []))
    (ending done 6) (left 5 (bounded 5 5 6) (bounded 5 5 6) none (bounded 5 5 6 ∷ []))
    ∷ run ((x := Num 1) ∷ m ∷ (at p := Num 8) ∷ []) (ending done 7) (left 1 (bounded 5 5 7) none none (unbounded 8 ∷ none ∷ []))
    ∷ run (pointer_in_block ++ ((p := Cast (Read (Deref (Cast (Read v) int*))) int*) ∷ []))
    (ending done 6) (left 30 (unbounded 5) (bounded 5 5 6) none (bounded 5 5 6 ∷ []))
    -- "Assign: a pointer type stores value, base and end; int stores the value only, and the word's base and end stay"
    ∷ run (pointer_in_block ++ ((Deref (Cast (Read v) int*) := Num 9) ∷ (p := Read (Deref (Cast (Read v) int**))) ∷ []))
    (ending done 6) (left 30 (bounded 9 5 6) (bounded 5 5 6) none (bounded 9 5 6 ∷ []))
    ∷ run (pointer_in_block ++ ((Deref (Cast (Read v) int**) := Cast (Num 9) int*) ∷ []))
    (ending done 6) (left 30 none (bounded 5 5 6) none (unbounded 9 ∷ []))
    ∷ run (m ∷ (Deref (Cast (Address x) int**) := Read p) ∷ (x := Num 6) ∷ (p := Read (Deref (Cast (Address x) int**))) ∷ (at p := Num 8) ∷ [])
    (ending done 7) (bounded 6 5 7 ∷ bounded 6 5 7 ∷ none ∷ none ∷ none ∷ unbounded 8 ∷ [])
    -- "Sum: modulo 4,294,967,296"
    ∷ computes (Sum (Num 4294967295) (Num 1)) 0
    ∷ computes (Sum (Num 4294967295) (Num 4294967295)) 4294967294
    ∷ computes (Sum (Num 4294967294) (Num 1)) 4294967295
    -- "and keeps its bounds", also outside of them: back inside it is followed
    ∷ run (m ∷ (p := plus p 10) ∷ (p := plus p 4294967287) ∷ (at p := Num 8) ∷ [])
    (ending done 7) (left 30 (bounded 6 5 7) none none (none ∷ unbounded 8 ∷ []))
    ∷ run ((v := Malloc (Num 2)) ∷ (v := plus v 4294967295) ∷ [])
    (ending done 7) (left 30 none (bounded 4 5 7) none (clear 2))
    -- request 2: "by that number times the record's size", record 1's and record 0's; back by one
    ∷ in_record 1 (r := plus r 1) (ending done 6) (left 30 none none (bounded 12 5 6) (clear 1))
    ∷ in_record 1 (r := plus r 4294967295) (ending done 6) (left 30 none none (bounded 4294967294 5 6) (clear 1))
    ∷ in_record 1 (r := plus r 613566756) (ending done 6) (left 30 none none (bounded 1 5 6) (clear 1))
    ∷ in_record 1 (v := Cast (as_plus record_0* r 2) void*) (ending done 6) (left 30 none (bounded 21 5 6) (bounded 5 5 6) (clear 1))
    -- "Cast: pointer to pointer keeps everything; from int, or to int, the value is kept without bounds"
    ∷ run (m ∷ (v := Cast (Read p) void*) ∷ (r := Cast (Read v) record_1*) ∷ (p := Cast (Read r) int*) ∷ [])
    (ending done 7) (left 30 (bounded 5 5 7) (bounded 5 5 7) (bounded 5 5 7) (clear 2))
    ∷ run (m ∷ (p := Cast (Cast (Read p) int) int*) ∷ []) (ending done 7) (left 30 (unbounded 5) none none (clear 2))
    ∷ run (m ∷ (v := Cast (Cast (Read p) int) void*) ∷ []) (ending done 7) (left 30 (bounded 5 5 7) (unbounded 5) none (clear 2))
    ∷ run ((v := Malloc (Num 2)) ∷ (p := Cast (Cast (Read v) int) int*) ∷ []) (ending done 7) (left 30 (unbounded 5) (bounded 5 5 7) none (clear 2))
    ∷ run ((v := Malloc (Num 2)) ∷ (x := Cast (Read v) int) ∷ []) (ending done 7) (left 5 none (bounded 5 5 7) none (clear 2))
    ∷ computes (Cast (Read x) int) 30
    ∷ []

unfoldable pub malloc_runs : List Example
malloc_runs =
    -- "for n = 0, value 0 without bounds", also where memory is full
    run ((v := Malloc (Num 0)) ∷ (p := malloc_as int* 1) ∷ []) (ending done 6) (left 30 (bounded 5 5 6) none none (clear 1))
    ∷ run ((v := Malloc (Num 7)) ∷ (v := Malloc (Num 0)) ∷ []) (ending done 12) (left 30 none none none (clear 7))
    -- "no room exactly when U + n exceeds the length", an exact sum; n is whatever its child gives
    ∷ run ((v := Malloc (Num 7)) ∷ []) (ending done 12) (left 30 none (bounded 5 5 12) none (clear 7))
    ∷ run ((v := Malloc (Num 8)) ∷ []) (ending (out_of_memory 0) 5) (left 30 none none none [])
    ∷ run ((v := Malloc (Num 4294967295)) ∷ []) (ending (out_of_memory 0) 5) (left 30 none none none [])
    ∷ run ((v := Malloc (Read x)) ∷ []) (ending (out_of_memory 0) 5) (left 30 none none none [])
    ∷ run ((v := Malloc (malloc_as int 2)) ∷ []) (ending done 12) (left 30 none (bounded 7 7 12) none (clear 7))
    ∷ run (m ∷ (v := Malloc (Num 5)) ∷ []) (ending done 12) (left 30 (bounded 5 5 7) (bounded 7 7 12) none (clear 7))
    ∷ run (m ∷ (v := Malloc (Num 6)) ∷ []) (ending (out_of_memory 1) 7) (left 30 (bounded 5 5 7) none none (clear 2))
    -- "value U, bounds [U, U + n), and U rises by n. The new words are clear": after the words before them were written
    ∷ run (m ∷ (at p := Num 8) ∷ (Deref (plus p 1) := Num 9) ∷ (v := Malloc (Num 2)) ∷ [])
    (ending done 9) (left 30 (bounded 5 5 7) (bounded 7 7 9) none (unbounded 8 ∷ unbounded 9 ∷ clear 2))
    ∷ []

-- ---- "Reading or assigning word 0, or a word not below U, has no rule." No run comes there, so this is about the rule itself.

-- Word w, and whether it has a rule with two variables, so with U 3, in memory of 5 words.
pub record Touch : Type 0 where
  pub w : ℕ
  pub has_rule : Bool

unfoldable pub touched : Touch → Touch
touched t = record { w = t.w; has_rule = touchable (cleared (types [] [] (0 ∷ 0 ∷ []) ++ routine []) (0 ∷ 0 ∷ []) 5) t.w }

abbrev touch : ℕ → Bool → Touch
touch w b = record { w = w; has_rule = b }

unfoldable pub touches : List Touch
touches = touch 0 false ∷ touch 1 true ∷ touch 2 true ∷ touch 3 false ∷ touch 4 false ∷ touch 4294967295 false ∷ []
