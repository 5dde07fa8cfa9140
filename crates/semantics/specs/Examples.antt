-- Document 01's own examples, its refusals, starred runs and routine A, as one table each, and registers and steps along records beside them:
-- what is called, and what must be answered. proofs/Examples.antt computes the tables.
use Rattle.std.specs.Prelude.{ℕ, List, [], ◌∷◌, ◌++◌, map, replicate}
use Rattle.semantics.specs.Words.{Words}
use Rattle.semantics.specs.Check.{Verdict, passes, refused}
use Rattle.semantics.specs.Rules.{Datum, unbounded}
use Rattle.semantics.specs.Run.{done, abort, out_of_memory, Answer, refusal, ending}
use Rattle.semantics.specs.ExampleTables.{types, of_type, Term, Var, Deref, Field, Num, Sum, Read, Address, Cast, Malloc, Command, ◌:=◌, routine, Judgement, gives, Example, called, answer_with, untouched, ends_so, bounded, no_registers}

-- ---- "What is turned away", one example for each number that the check gives; that for 7 "takes kind 99" (request 6), and
-- that for 16 is request 8's

abbrev printed : List Judgement
printed =
    gives (0 ∷ 0 ∷ 0 ∷ []) (refused 1 3)
    ∷ gives (0 ∷ 0 ∷ 0 ∷ 0 ∷ 0 ∷ 0 ∷ 9 ∷ []) (refused 2 6)
    ∷ gives (33 ∷ []) (refused 3 0)
    ∷ gives (1 ∷ 0 ∷ 0 ∷ 0 ∷ 0 ∷ 0 ∷ 0 ∷ []) (refused 4 1)
    ∷ gives (0 ∷ 0 ∷ 0 ∷ 1 ∷ 2 ∷ 0 ∷ 0 ∷ []) (refused 5 4)
    ∷ gives (0 ∷ 0 ∷ 2 ∷ 0 ∷ 0 ∷ 0 ∷ 0 ∷ 0 ∷ []) (refused 6 4)
    ∷ gives (0 ∷ 0 ∷ 0 ∷ 0 ∷ 1 ∷ 99 ∷ 0 ∷ 0 ∷ 0 ∷ []) (refused 7 5)
    ∷ gives (0 ∷ 0 ∷ 0 ∷ 1 ∷ 1 ∷ 3 ∷ 1 ∷ 0 ∷ 0 ∷ 6 ∷ 0 ∷ 0 ∷ 2 ∷ 1 ∷ 0 ∷ 0 ∷ []) (refused 8 12)
    ∷ gives (0 ∷ 0 ∷ 0 ∷ 0 ∷ 1 ∷ 4 ∷ 7 ∷ 0 ∷ 0 ∷ []) (refused 9 5)
    ∷ gives (4294967295 ∷ 1 ∷ 0 ∷ 0 ∷ 0 ∷ 0 ∷ 0 ∷ 0 ∷ []) (refused 16 1)
    ∷ []

unfoldable pub verdicts : List Judgement
verdicts = printed

-- A call with such a table; the lent words stay as they came.
abbrev refusal_of : Verdict → Answer
refusal_of passes = ending done 0
refusal_of (refused n p) = refusal n p

abbrev refused_call : Judgement → Example
refused_call x = called x.table [] no_registers 2 (answer_with (refusal_of x.verdict) (untouched 2))

unfoldable pub refusals : List Example
refusals =
    map refused_call printed
    ++ (called (0 ∷ 0 ∷ 0 ∷ 0 ∷ 0 ∷ 0 ∷ []) [] no_registers 0 (answer_with (refusal 10 0) [])
    ∷ called (0 ∷ 0 ∷ 0 ∷ 1 ∷ 1 ∷ 0 ∷ 0 ∷ []) (5 ∷ []) no_registers 2 (answer_with (refusal 11 0) (untouched 2))
    ∷ [])

-- ---- "Runs to compare"

-- "Memory 4 words, one variable p, pointer to int": p is variable 0, pointer to int type 2, and type 3 is pointer to pointer to int.
abbrev pub with_p : List Command → Answer → List Datum → Example
with_p cs = ends_so (types [] (0 ∷ 2 ∷ []) (2 ∷ []) ++ routine cs) (0 ∷ []) no_registers 4

abbrev p : Term
p = Var 0

-- p + k, and the word at it
abbrev p_plus : ℕ → Term
p_plus k = Sum (Read p) (Num k)

abbrev at_p_plus : ℕ → Term
at_p_plus k = Deref (p_plus k)

-- p = (int*)malloc(n)
abbrev malloc_to_p : ℕ → Command
malloc_to_p n = p := Cast (Malloc (Num n)) 2

-- m; *(int*)&p = 3; *p = 8
abbrev pub store_over_p : List Command
store_over_p = malloc_to_p 2 ∷ (Deref (Cast (Address p) 2) := Num 3) ∷ (Deref (Read p) := Num 8) ∷ []

-- Routine A: a record of a snapshot and a live queue, two ints each; the snapshot's pointer stepped by 2 aborts at the queue
abbrev pub routine_a : Example
routine_a =
    ends_so
    (1 ∷ 2
    ∷ 2 ∷ 0 ∷ 2 ∷ 0 ∷ 2
    ∷ 2 ∷ 65536 ∷ 0
    ∷ 2 ∷ 2 ∷ 3
    ∷ 22
    ∷ 1 ∷ 0 ∷ 0 ∷ 9 ∷ 65536 ∷ 0 ∷ 10 ∷ 1 ∷ 0 ∷ 8 ∷ 2 ∷ 2
    ∷ 1 ∷ 1 ∷ 0 ∷ 1 ∷ 0 ∷ 0 ∷ 6 ∷ 5 ∷ 0 ∷ 3 ∷ 6 ∷ 0 ∷ 7 ∷ 7 ∷ 0
    ∷ 1 ∷ 1 ∷ 0 ∷ 6 ∷ 9 ∷ 0 ∷ 2 ∷ 10 ∷ 0 ∷ 4 ∷ 9 ∷ 0
    ∷ 1 ∷ 1 ∷ 0 ∷ 1 ∷ 1 ∷ 0 ∷ 6 ∷ 14 ∷ 0 ∷ 4 ∷ 2 ∷ 0 ∷ 5 ∷ 15 ∷ 16
    ∷ 1 ∷ 1 ∷ 0 ∷ 6 ∷ 18 ∷ 0 ∷ 2 ∷ 19 ∷ 0 ∷ 4 ∷ 9 ∷ 0
    ∷ 5 ∷ 0 ∷ 3 ∷ 4 ∷ 8 ∷ 11 ∷ 12 ∷ 13 ∷ 17 ∷ 20 ∷ 21 ∷ [])
    (0 ∷ 0 ∷ []) no_registers 16
    (ending (abort 4) 7) (bounded 3 3 7 ∷ bounded 5 3 5 ∷ unbounded 9 ∷ unbounded 0 ∷ unbounded 0 ∷ unbounded 0 ∷ [])

unfoldable pub runs : List Example
runs =
    -- six zeros, memory 1 word
    ends_so (0 ∷ 0 ∷ 0 ∷ 0 ∷ 0 ∷ 0 ∷ []) [] no_registers 1 (ending done 1) []
    -- m, malloc(3), malloc(0)
    ∷ with_p (malloc_to_p 2 ∷ []) (ending done 4) (bounded 2 2 4 ∷ unbounded 0 ∷ unbounded 0 ∷ [])
    ∷ with_p (malloc_to_p 3 ∷ []) (ending (out_of_memory 0) 2) (unbounded 0 ∷ [])
    ∷ with_p (malloc_to_p 0 ∷ []) (ending done 2) (unbounded 0 ∷ [])
    -- m; *(p+1) = 5
    ∷ with_p (malloc_to_p 2 ∷ (at_p_plus 1 := Num 5) ∷ [])
    (ending done 4) (bounded 2 2 4 ∷ unbounded 0 ∷ unbounded 5 ∷ [])
    -- m; *(p+2) = 5
    ∷ with_p (malloc_to_p 2 ∷ (at_p_plus 2 := Num 5) ∷ [])
    (ending (abort 1) 4) (bounded 2 2 4 ∷ unbounded 0 ∷ unbounded 0 ∷ [])
    -- m; *(p+4294967295) = 5
    ∷ with_p (malloc_to_p 2 ∷ (at_p_plus 4294967295 := Num 5) ∷ [])
    (ending (abort 1) 4) (bounded 2 2 4 ∷ unbounded 0 ∷ unbounded 0 ∷ [])
    -- m; p = (int*)2; *p = 5
    ∷ with_p (malloc_to_p 2 ∷ (p := Cast (Num 2) 2) ∷ (Deref (Read p) := Num 5) ∷ [])
    (ending (abort 2) 4) (unbounded 2 ∷ unbounded 0 ∷ unbounded 0 ∷ [])
    -- m; p = &*(p+1); *(p+4294967295) = 7
    ∷ with_p (malloc_to_p 2 ∷ (p := Address (at_p_plus 1)) ∷ (at_p_plus 4294967295 := Num 7) ∷ [])
    (ending done 4) (bounded 3 2 4 ∷ unbounded 7 ∷ unbounded 0 ∷ [])
    -- m; *(int*)&p = 3; *p = 8
    ∷ with_p store_over_p (ending done 4) (bounded 3 2 4 ∷ unbounded 0 ∷ unbounded 8 ∷ [])
    -- m; *(p+2) = (int)malloc(9)
    ∷ with_p (malloc_to_p 2 ∷ (at_p_plus 2 := Cast (Malloc (Num 9)) 0) ∷ [])
    (ending (abort 1) 4) (bounded 2 2 4 ∷ unbounded 0 ∷ unbounded 0 ∷ [])
    -- *((int*)malloc(1)+1) = 0
    ∷ with_p ((Deref (Sum (Cast (Malloc (Num 1)) 2) (Num 1)) := Num 0) ∷ [])
    (ending (abort 0) 3) (unbounded 0 ∷ unbounded 0 ∷ [])
    ∷ routine_a
    ∷ []

-- ---- Request 1

-- Two variables, a pointer to void and an int, in memory of 6 words; refused for this register list.
abbrev refused_list : Words → ℕ → ℕ → Example
refused_list l n p =
    called (types [] [] (1 ∷ 0 ∷ []) ++ routine []) (0 ∷ 0 ∷ []) l 6 (answer_with (refusal n p) (untouched 6))

unfoldable pub refused_lists : List Example
refused_lists =
    -- more than 16 registers, also where the list is cut short too
    refused_list (17 ∷ []) 13 0
    -- cut short: empty, before a length, within a register's words, however many there should be
    ∷ refused_list [] 13 0
    ∷ refused_list (1 ∷ 0 ∷ []) 13 2
    ∷ refused_list (1 ∷ 0 ∷ 3 ∷ 5 ∷ 6 ∷ []) 13 5
    ∷ refused_list (2 ∷ 0 ∷ 4294967295 ∷ 5 ∷ []) 13 4
    -- words over, told before the variable that is unknown
    ∷ refused_list (0 ∷ 0 ∷ []) 13 1
    ∷ refused_list (1 ∷ 2 ∷ 1 ∷ 5 ∷ 6 ∷ []) 13 4
    -- a variable that is unknown, one that is an int, and one that was named by a register of no words
    ∷ refused_list (1 ∷ 2 ∷ 0 ∷ []) 14 1
    ∷ refused_list (1 ∷ 1 ∷ 0 ∷ []) 14 1
    ∷ refused_list (2 ∷ 0 ∷ 0 ∷ 0 ∷ 1 ∷ 5 ∷ []) 14 3
    -- one word too many, told after the second register's variable
    ∷ refused_list (1 ∷ 0 ∷ 4 ∷ 5 ∷ 6 ∷ 7 ∷ 8 ∷ []) 15 2
    ∷ refused_list (2 ∷ 0 ∷ 4 ∷ 5 ∷ 6 ∷ 7 ∷ 8 ∷ 1 ∷ 0 ∷ []) 14 7
    ∷ []

-- Two variables p and q, pointers to int (type 2), with this register list, memory and commands.
abbrev on_registers : Words → ℕ → List Command → Answer → List Datum → Example
on_registers l len cs = ends_so (types [] (0 ∷ []) (2 ∷ 2 ∷ []) ++ routine cs) (0 ∷ 0 ∷ []) l len

unfoldable pub register_runs : List Example
register_runs =
    -- q is named first, memory is filled exactly; a register of no words leaves p without bounds
    on_registers (2 ∷ 1 ∷ 2 ∷ 70 ∷ 80 ∷ 0 ∷ 1 ∷ 90 ∷ []) 6 []
    (ending done 6) (bounded 5 5 6 ∷ bounded 3 3 5 ∷ unbounded 70 ∷ unbounded 80 ∷ unbounded 90 ∷ [])
    ∷ on_registers (2 ∷ 0 ∷ 0 ∷ 1 ∷ 1 ∷ 70 ∷ []) 4 []
    (ending done 4) (unbounded 0 ∷ bounded 3 3 4 ∷ unbounded 70 ∷ [])
    -- *(p+1) = 5 within p's register, and past it onto q's
    ∷ on_registers (2 ∷ 0 ∷ 2 ∷ 70 ∷ 80 ∷ 1 ∷ 1 ∷ 90 ∷ []) 6 ((at_p_plus 1 := Num 5) ∷ [])
    (ending done 6) (bounded 3 3 5 ∷ bounded 5 5 6 ∷ unbounded 70 ∷ unbounded 5 ∷ unbounded 90 ∷ [])
    ∷ on_registers (2 ∷ 0 ∷ 1 ∷ 70 ∷ 1 ∷ 1 ∷ 90 ∷ []) 5 ((at_p_plus 1 := Num 5) ∷ [])
    (ending (abort 0) 5) (bounded 3 3 4 ∷ bounded 4 4 5 ∷ unbounded 70 ∷ unbounded 90 ∷ [])
    -- p = (int*)malloc(2): a block after the registers, and no room for it
    ∷ on_registers (1 ∷ 1 ∷ 1 ∷ 70 ∷ []) 6 (malloc_to_p 2 ∷ [])
    (ending done 6) (bounded 4 4 6 ∷ bounded 3 3 4 ∷ unbounded 70 ∷ unbounded 0 ∷ unbounded 0 ∷ [])
    ∷ on_registers (1 ∷ 1 ∷ 1 ∷ 70 ∷ []) 5 (malloc_to_p 2 ∷ [])
    (ending (out_of_memory 0) 4) (unbounded 0 ∷ bounded 3 3 4 ∷ unbounded 70 ∷ [])
    ∷ []

-- ---- Request 2

-- Routine A's record (pointer to it: type 2) in memory of 11 words, with two variables: p, a pointer to the record, at the first of two
-- such records in words 3 to 10, and the int i. Command 0 obtains the records. Pointer to int is type 3, pointer to pointer to the record
-- type 4.
abbrev on_records : Command → Answer → List Datum → Example
on_records c =
    ends_so
    (types ((of_type 0 2 ∷ of_type 0 2 ∷ []) ∷ []) (65536 ∷ 0 ∷ 2 ∷ []) (2 ∷ 0 ∷ []) ++ routine (malloc_to_p 8 ∷ c ∷ []))
    (0 ∷ 0 ∷ []) no_registers 11

-- i = (int)((ty)p + k)
abbrev step_by : ℕ → ℕ → ℕ → Example
step_by ty k i =
    on_records (Var 1 := Cast (Sum (Cast (Read p) ty) (Num k)) 0)
    (ending done 11) (bounded 3 3 11 ∷ unbounded i ∷ replicate 8 (unbounded 0))

-- (p + k)->queue = 9: of the queue its first word is assigned to
abbrev store_in_queue : ℕ → Answer → List Datum → Example
store_in_queue k a m = on_records (Field (p_plus k) 1 := Num 9) a (bounded 3 3 11 ∷ unbounded 0 ∷ m)

unfoldable pub record_runs : List Example
record_runs =
    -- "With routine A's record, p + 1 is four words on"
    step_by 2 1 7
    -- a number near 2^32 moves back; of the product 4,294,967,300 its excess over 2^32 counts
    ∷ step_by 2 4294967295 4294967295
    ∷ step_by 2 1073741825 7
    -- as void*, int*, pointer to pointer to the record, and int: one word
    ∷ step_by 1 1 4
    ∷ step_by 3 1 4
    ∷ step_by 4 1 4
    ∷ step_by 0 1 4
    -- the second record's queue is reached, also by a product that wraps; there is no third record
    ∷ store_in_queue 1 (ending done 11) (replicate 6 (unbounded 0) ++ (unbounded 9 ∷ unbounded 0 ∷ []))
    ∷ store_in_queue 1073741825 (ending done 11) (replicate 6 (unbounded 0) ++ (unbounded 9 ∷ unbounded 0 ∷ []))
    ∷ store_in_queue 2 (ending (abort 1) 11) (replicate 8 (unbounded 0))
    -- p = (record*)((int*)(p + 1) + 2): the step goes by the left operand's type, and bounds are kept
    ∷ on_records (p := Cast (Sum (Cast (p_plus 1) 3) (Num 2)) 2)
    (ending done 11) (bounded 9 3 11 ∷ unbounded 0 ∷ replicate 8 (unbounded 0))
    ∷ []
