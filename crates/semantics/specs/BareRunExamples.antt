-- Request 9: bare runs that leave the blocks of the fenced run, which would abort. Each would come out otherwise if the request were read otherwise by
-- one word. proofs/Examples.antt computes each list.
use Rattle.std.specs.Prelude.{ℕ, List, [], ◌∷◌, ◌++◌, map, replicate}
use Rattle.semantics.specs.Words.{Words}
use Rattle.semantics.specs.Bare.{done, out_of_memory, stuck, Answer, ending}
use Rattle.semantics.specs.ExampleTables.{Term, Deref, Field, Num, Sum, Read, Address, Cast, Malloc, Copy, Command, ◌:=◌, no_registers}
use Rattle.semantics.specs.RunExamples.{int, int*, int**, record_1*, record_0*, x, p, v, r, table, inputs, malloc_as, at, plus, as_plus, shows}
use Rattle.semantics.specs.CopyExamples.{table as copy_table, a, b, three_and_three, a_from_b, one_word}
use Rattle.semantics.specs.BareExamples.{BareExample, leaves, at_word}

-- The table of specs/RunExamples.antt over a list of this length: x is 30 in word 1, p, v and r are 0, and U is 5. Then the words from 1 on at the end.
abbrev in_list : ℕ → List Command → Answer → Words → BareExample
in_list len cs e ws =
    record { table = table cs; inputs = inputs; registers = no_registers; list = replicate len 7; result = leaves e ws len }

abbrev run : List Command → Answer → Words → BareExample
run = in_list 12

-- *(int**)k
abbrev pointer_at : ℕ → Term
pointer_at k = Deref (Cast (Num k) int**)

-- (record 1*)k
abbrev to : ℕ → Term
to k = Cast (Num k) record_1*

-- ---- "stuck when it reads or assigns outside the lent memory or at word 0"

-- One command that is stuck before anything was obtained.
abbrev stuck_at : Command → BareExample
stuck_at c = run (c ∷ []) (ending (stuck 0) 5) (30 ∷ [])

unfoldable pub outside_runs : List BareExample
outside_runs =
    map stuck_at
    -- word 0, the first word past the list, and words far from it: read and assigned, an int and a pointer
    ((x := Read (at_word 0)) ∷ (x := Read (at_word 12)) ∷ (x := Read (at_word 65536)) ∷ (x := Read (at_word 4294967295))
    ∷ (p := Read (pointer_at 0)) ∷ (p := Read (pointer_at 12))
    ∷ (at_word 0 := Num 8) ∷ (at_word 12 := Num 8) ∷ (at_word 65536 := Num 8) ∷ (at_word 4294967295 := Num 8)
    ∷ (pointer_at 0 := Address x) ∷ (pointer_at 12 := Address x)
    -- as a field, of r that is 0 and of others
    ∷ (x := Read (Field (Read r) 0)) ∷ (Field (Read r) 0 := Num 8) ∷ (p := Read (Field (to 8) 1)) ∷ (Field (to 12) 0 := Num 8)
    ∷ [])
    -- the first word and the last, and words at and above U
    ++ (run ((at_word 1 := Num 8) ∷ []) (ending done 5) (8 ∷ [])
    ∷ run ((p := Cast (Read (at_word 1)) int*) ∷ []) (ending done 5) (30 ∷ 30 ∷ [])
    ∷ run ((at_word 5 := Num 8) ∷ (x := Read (at_word 5)) ∷ []) (ending done 5) (8 ∷ 0 ∷ 0 ∷ 0 ∷ 8 ∷ [])
    ∷ run ((at_word 11 := Num 8) ∷ (x := Read (at_word 11)) ∷ []) (ending done 5) (8 ∷ replicate 9 0 ++ (8 ∷ []))
    ∷ run ((pointer_at 11 := Address x) ∷ (p := Read (pointer_at 11)) ∷ []) (ending done 5) (30 ∷ 1 ∷ replicate 8 0 ++ (1 ∷ []))
    -- fields of r that is 0: words 4 and 5; a field of four words of which one is in the list, which is the one that is read and assigned
    ∷ run ((Field (Read r) 1 := Address x) ∷ []) (ending done 5) (30 ∷ 0 ∷ 0 ∷ 1 ∷ [])
    ∷ run ((Field (Read r) 2 := Num 8) ∷ []) (ending done 5) (30 ∷ 0 ∷ 0 ∷ 0 ∷ 8 ∷ [])
    ∷ run ((Field (to 11) 0 := Num 8) ∷ (x := Read (Field (to 11) 0)) ∷ []) (ending done 5) (8 ∷ replicate 9 0 ++ (8 ∷ []))
    -- lists of other lengths, the first no longer than U
    ∷ in_list 5 ((at_word 4 := Num 8) ∷ []) (ending done 5) (30 ∷ 0 ∷ 0 ∷ 8 ∷ [])
    ∷ in_list 5 ((at_word 5 := Num 8) ∷ []) (ending (stuck 0) 5) (30 ∷ [])
    ∷ in_list 6 ((at_word 5 := Num 8) ∷ (x := Read (at_word 5)) ∷ []) (ending done 5) (8 ∷ 0 ∷ 0 ∷ 0 ∷ 8 ∷ [])
    ∷ in_list 6 ((x := Read (at_word 6)) ∷ []) (ending (stuck 0) 5) (30 ∷ [])
    ∷ [])

-- ---- "A stuck bare run stops there, answers the command and U, and leaves its writes so far"

unfoldable pub stuck_runs : List BareExample
stuck_runs =
    -- above U and below it, in a block obtained, and none after it
    run
    ((x := Num 1) ∷ (at_word 11 := Num 8) ∷ (v := Malloc (Num 2)) ∷ (at_word 6 := Num 9) ∷ (at_word 12 := Num 9) ∷ (x := Num 2) ∷ (v := Malloc (Num 9)) ∷ [])
    (ending (stuck 4) 7) (1 ∷ 0 ∷ 5 ∷ 0 ∷ 0 ∷ 9 ∷ 0 ∷ 0 ∷ 0 ∷ 0 ∷ 8 ∷ [])
    -- the first that is stuck, and it alone; before no room, and after it
    ∷ run ((x := Num 1) ∷ (x := Num 2) ∷ (x := Read (at_word 0)) ∷ (v := Malloc (Num 8)) ∷ (at_word 0 := Num 5) ∷ []) (ending (stuck 2) 5) (2 ∷ [])
    ∷ run ((x := Num 1) ∷ (at_word 0 := Num 5) ∷ (x := Read (at_word 0)) ∷ (x := Num 3) ∷ []) (ending (stuck 1) 5) (1 ∷ [])
    ∷ run ((x := Num 1) ∷ (v := Malloc (Num 8)) ∷ (x := Read (at_word 0)) ∷ (x := Num 3) ∷ []) (ending (out_of_memory 1) 5) (1 ∷ [])
    -- "stops there": of a command that is stuck at a read, what comes before it is done and what comes after it isn't. In a sum's left operand and right, in
    -- the place, which isn't assigned, and in the value
    ∷ run ((p := Sum (Cast (Read (at_word 12)) int*) (malloc_as int 2)) ∷ []) (ending (stuck 0) 5) (30 ∷ [])
    ∷ run ((p := Sum (malloc_as int* 2) (Read (at_word 12))) ∷ []) (ending (stuck 0) 7) (30 ∷ [])
    ∷ run ((Deref (Cast (Read (at_word 0)) int*) := malloc_as int 2) ∷ []) (ending (stuck 0) 5) (30 ∷ [])
    ∷ run ((Deref (Cast (Sum (malloc_as int 2) (Read (at_word 0))) int*) := malloc_as int 1) ∷ []) (ending (stuck 0) 7) (30 ∷ [])
    ∷ run ((v := Malloc (Num 1)) ∷ (Deref (malloc_as int* 2) := Sum (malloc_as int 1) (Read (at_word 12))) ∷ []) (ending (stuck 1) 9) (30 ∷ 0 ∷ 5 ∷ [])
    -- also where its number is cast, obtained or followed
    ∷ stuck_at (x := Cast (Read (pointer_at 0)) int)
    ∷ stuck_at (v := Malloc (Read (at_word 12)))
    ∷ stuck_at (shows (Deref (Read (pointer_at 12))))
    -- an assignment is stuck when its value was worked out: U has risen, new words are clear, and no room comes first
    ∷ run ((at_word 0 := malloc_as int 2) ∷ []) (ending (stuck 0) 7) (30 ∷ [])
    ∷ run ((at_word 12 := malloc_as int 2) ∷ []) (ending (stuck 0) 7) (30 ∷ [])
    ∷ run ((at_word 5 := Num 81) ∷ (at_word 6 := Num 82) ∷ (at_word 0 := malloc_as int 1) ∷ []) (ending (stuck 2) 6) (30 ∷ 0 ∷ 0 ∷ 0 ∷ 0 ∷ 82 ∷ [])
    ∷ run ((at_word 0 := malloc_as int 8) ∷ []) (ending (out_of_memory 0) 5) (30 ∷ [])
    -- "a command's place before its value": by blocks of both; words 11 and 12
    ∷ run ((Deref (Sum (malloc_as int* 2) (Num 6)) := malloc_as int 1) ∷ []) (ending done 8) (30 ∷ replicate 9 0 ++ (7 ∷ []))
    ∷ run ((Deref (Sum (malloc_as int* 2) (Num 7)) := malloc_as int 1) ∷ []) (ending (stuck 0) 8) (30 ∷ [])
    ∷ []

-- ---- "a copy with word 0 or a word outside is stuck and writes nothing"

-- In a list of 16 words: x is 30, p 0, the record 1* a is 5 and b is 8, with registers of 71 to 73 and 74 to 76, and U is 11. Record 1 has three words.
abbrev on_records : List Command → Answer → Words → BareExample
on_records cs e ws =
    record { table = copy_table cs; inputs = inputs; registers = three_and_three; list = replicate 16 7; result = leaves e ws 16 }

abbrev handed_in : Words
handed_in = 5 ∷ 8 ∷ 71 ∷ 72 ∷ 73 ∷ 74 ∷ 75 ∷ 76 ∷ []

abbrev both_b : Words
both_b = 5 ∷ 8 ∷ 74 ∷ 75 ∷ 76 ∷ 74 ∷ 75 ∷ 76 ∷ []

-- x = t, which is stuck
abbrev copy_stuck : Term → BareExample
copy_stuck t = on_records ((x := t) ∷ []) (ending (stuck 0) 11) (30 ∷ 0 ∷ handed_in)

-- to k from b, and to a from k
abbrev either_stuck : ℕ → List BareExample
either_stuck k = map copy_stuck (Copy (to k) (Read b) ∷ Copy (Read a) (to k) ∷ [])

abbrev either_stuck_by_one : ℕ → List BareExample
either_stuck_by_one k = map copy_stuck (Copy (one_word (Num k)) (one_word (Read b)) ∷ Copy (one_word (Read a)) (one_word (Num k)) ∷ [])

-- x = t, which is done
abbrev computes : Term → Words → BareExample
computes t ws = on_records ((x := t) ∷ []) (ending done 11) ws

-- copy((record 0*)&p, (record 0*)b), which makes p 74
abbrev p_from_b : Term
p_from_b = Copy (one_word (Address p)) (one_word (Read b))

unfoldable pub bare_copies : List BareExample
bare_copies =
    -- word 0; the last word outside, the last two, all; words far away, after which words 0 and 1 would come modulo 4,294,967,296; one word
    either_stuck 0 ++ either_stuck 14 ++ either_stuck 15 ++ either_stuck 16 ++ either_stuck 4294967295 ++ either_stuck 4294967294
    ++ either_stuck_by_one 0 ++ either_stuck_by_one 16 ++ either_stuck_by_one 4294967295
    ++ (copy_stuck (Copy (to 14) (to 14))
    -- words 13 to 15, to them and from them; at U; one word
    ∷ computes (Copy (to 13) (Read b)) (3 ∷ 0 ∷ handed_in ++ (0 ∷ 0 ∷ 74 ∷ 75 ∷ 76 ∷ []))
    ∷ on_records ((at_word 13 := Num 81) ∷ (at_word 15 := Num 83) ∷ (x := Copy (Read a) (to 13)) ∷ [])
    (ending done 11) (3 ∷ 0 ∷ 5 ∷ 8 ∷ 81 ∷ 0 ∷ 83 ∷ 74 ∷ 75 ∷ 76 ∷ 0 ∷ 0 ∷ 81 ∷ 0 ∷ 83 ∷ [])
    ∷ computes (Copy (to 11) (Read b)) (3 ∷ 0 ∷ handed_in ++ (74 ∷ 75 ∷ 76 ∷ []))
    ∷ computes (Copy (one_word (Num 15)) (one_word (Read b))) (1 ∷ 0 ∷ handed_in ++ (0 ∷ 0 ∷ 0 ∷ 0 ∷ 74 ∷ []))
    ∷ computes (Copy (one_word (Read a)) (one_word (Num 15))) (1 ∷ 0 ∷ 5 ∷ 8 ∷ 0 ∷ 72 ∷ 73 ∷ 74 ∷ 75 ∷ 76 ∷ [])
    -- over variables, x's too, which is assigned after it; overlapping, upwards and downwards
    ∷ computes (Copy (to 1) (Read b)) (3 ∷ 75 ∷ 76 ∷ 8 ∷ 71 ∷ 72 ∷ 73 ∷ 74 ∷ 75 ∷ 76 ∷ [])
    ∷ computes (Copy (to 2) (to 1)) (3 ∷ 30 ∷ 0 ∷ 5 ∷ 71 ∷ 72 ∷ 73 ∷ 74 ∷ 75 ∷ 76 ∷ [])
    ∷ computes (Copy (to 1) (to 2)) (3 ∷ 5 ∷ 8 ∷ 8 ∷ 71 ∷ 72 ∷ 73 ∷ 74 ∷ 75 ∷ 76 ∷ [])
    ∷ computes (Copy (to 6) (to 5)) (3 ∷ 0 ∷ 5 ∷ 8 ∷ 71 ∷ 71 ∷ 72 ∷ 73 ∷ 75 ∷ 76 ∷ [])
    ∷ computes (Copy (to 5) (to 6)) (3 ∷ 0 ∷ 5 ∷ 8 ∷ 72 ∷ 73 ∷ 74 ∷ 74 ∷ 75 ∷ 76 ∷ [])
    -- at a later command; "leaves its writes so far": those of a copy in its operand, of one that is then not assigned, and blocks of either operand
    ∷ on_records ((x := Num 1) ∷ (at_word 12 := Num 8) ∷ (x := Copy (to 14) (Read b)) ∷ (x := Num 2) ∷ [])
    (ending (stuck 2) 11) (1 ∷ 0 ∷ handed_in ++ (0 ∷ 8 ∷ []))
    ∷ on_records ((x := Copy (Cast (Sum (Num 11) a_from_b) record_1*) (Read b)) ∷ []) (ending (stuck 0) 11) (30 ∷ 0 ∷ both_b)
    ∷ on_records ((x := Copy (Read a) (Cast (Sum (Num 11) a_from_b) record_1*)) ∷ []) (ending (stuck 0) 11) (30 ∷ 0 ∷ both_b)
    ∷ on_records ((at_word 0 := a_from_b) ∷ []) (ending (stuck 0) 11) (30 ∷ 0 ∷ both_b)
    ∷ on_records ((at_word 16 := a_from_b) ∷ []) (ending (stuck 0) 11) (30 ∷ 0 ∷ both_b)
    ∷ on_records ((x := Copy (to 14) (malloc_as record_1* 3)) ∷ []) (ending (stuck 0) 14) (30 ∷ 0 ∷ handed_in)
    ∷ on_records ((x := Copy (malloc_as record_1* 3) (to 14)) ∷ []) (ending (stuck 0) 14) (30 ∷ 0 ∷ handed_in)
    -- the place of an assignment stays where it was, in the list and outside, though the copy overwrites the pointer that led there
    ∷ on_records ((p := Cast (Num 12) int*) ∷ (at p := p_from_b) ∷ []) (ending done 11) (30 ∷ 74 ∷ handed_in ++ (0 ∷ 1 ∷ []))
    ∷ on_records ((p := Cast (Num 16) int*) ∷ (at p := p_from_b) ∷ []) (ending (stuck 1) 11) (30 ∷ 74 ∷ handed_in)
    ∷ [])

-- ---- "Its sums are all modulo 4,294,967,296, except U + n, which stays exact."

unfoldable pub wrapping_runs : List BareExample
wrapping_runs =
    -- a field at 4: onto word 1, assigned and read, onto word 0, and one less; its address
    run ((Field (to 4294967293) 1 := Address x) ∷ []) (ending done 5) (1 ∷ [])
    ∷ run ((p := Read (Field (to 4294967293) 1)) ∷ []) (ending done 5) (30 ∷ 30 ∷ [])
    ∷ stuck_at (Field (to 4294967292) 1 := Address x)
    ∷ stuck_at (Field (to 4294967291) 1 := Address x)
    ∷ run (shows (Field (to 4294967293) 1) ∷ []) (ending done 5) (30 ∷ 0 ∷ 1 ∷ [])
    ∷ run (shows (Field (to 4294967292) 1) ∷ []) (ending done 5) (30 ∷ [])
    ∷ run (shows (Field (to 4294967291) 1) ∷ []) (ending done 5) (30 ∷ 0 ∷ 4294967295 ∷ [])
    -- a pointer and a number: onto word 2 and onto word 0; two ints
    ∷ run ((Deref (Sum (Cast (Num 4294967295) int*) (Num 3)) := Num 8) ∷ []) (ending done 5) (30 ∷ 8 ∷ [])
    ∷ stuck_at (Deref (Sum (Address x) (Num 4294967295)) := Num 8)
    ∷ run ((x := plus x 4294967295) ∷ []) (ending done 5) (29 ∷ [])
    -- a step of 613,566,757 records of 7 words is one of 3 words; 536,870,913 of 8 words, one of 8; and one back
    ∷ run ((Field (plus r 613566757) 0 := Num 9) ∷ []) (ending done 5) (30 ∷ 0 ∷ 9 ∷ [])
    ∷ run ((Field (as_plus record_0* r 536870913) 0 := Num 9) ∷ []) (ending done 5) (30 ∷ 0 ∷ 0 ∷ 0 ∷ 0 ∷ 0 ∷ 0 ∷ 9 ∷ [])
    ∷ run ((r := to 11) ∷ (Field (plus r 4294967295) 0 := Num 9) ∷ []) (ending done 5) (30 ∷ 0 ∷ 0 ∷ 9 ∷ [])
    -- U + n is 4,294,967,296, a word more, and as much as can be: no room
    ∷ run ((at_word 5 := Num 81) ∷ (v := Malloc (Num 4294967291)) ∷ []) (ending (out_of_memory 1) 5) (30 ∷ 0 ∷ 0 ∷ 0 ∷ 81 ∷ [])
    ∷ run ((v := Malloc (Num 4294967292)) ∷ []) (ending (out_of_memory 0) 5) (30 ∷ [])
    ∷ run ((v := Malloc (Num 4294967295)) ∷ []) (ending (out_of_memory 0) 5) (30 ∷ [])
    ∷ run ((x := malloc_as int 2) ∷ (v := Malloc (Num 4294967289)) ∷ []) (ending (out_of_memory 1) 7) (5 ∷ [])
    ∷ []

-- ---- "An obtain sets its new words to 0, as a bare run may have written there."

-- Words 5 to 8 are 81 to 84, then these commands.
abbrev over_dirt : List Command → Answer → Words → BareExample
over_dirt cs = run ((at_word 5 := Num 81) ∷ (at_word 6 := Num 82) ∷ (at_word 7 := Num 83) ∷ (at_word 8 := Num 84) ∷ cs)

unfoldable pub allocating_runs : List BareExample
allocating_runs =
    -- "its new words" and none beside them: one word, two and then one, all that there are
    over_dirt ((p := malloc_as int* 1) ∷ []) (ending done 6) (30 ∷ 5 ∷ 0 ∷ 0 ∷ 0 ∷ 82 ∷ 83 ∷ 84 ∷ [])
    ∷ over_dirt ((p := malloc_as int* 2) ∷ (v := Malloc (Num 1)) ∷ []) (ending done 8) (30 ∷ 5 ∷ 7 ∷ 0 ∷ 0 ∷ 0 ∷ 0 ∷ 84 ∷ [])
    ∷ over_dirt ((v := Malloc (Num 7)) ∷ []) (ending done 12) (30 ∷ 0 ∷ 5 ∷ [])
    ∷ run ((at_word 4 := Num 9) ∷ (v := Malloc (Num 1)) ∷ []) (ending done 6) (30 ∷ 0 ∷ 5 ∷ 9 ∷ [])
    ∷ on_records ((at_word 11 := Num 81) ∷ (at_word 12 := Num 82) ∷ (p := malloc_as int* 1) ∷ []) (ending done 12) (30 ∷ 11 ∷ handed_in ++ (0 ∷ 82 ∷ []))
    -- "for n = 0, value 0", and U stays: no word is new
    ∷ over_dirt ((p := Cast (Num 9) int*) ∷ (p := malloc_as int* 0) ∷ []) (ending done 5) (30 ∷ 0 ∷ 0 ∷ 0 ∷ 81 ∷ 82 ∷ 83 ∷ 84 ∷ [])
    -- no room, by one word: no word is new, and earlier blocks stay; the last word, written above U, is obtained
    ∷ over_dirt ((v := Malloc (Num 8)) ∷ []) (ending (out_of_memory 4) 5) (30 ∷ 0 ∷ 0 ∷ 0 ∷ 81 ∷ 82 ∷ 83 ∷ 84 ∷ [])
    ∷ over_dirt ((p := malloc_as int* 2) ∷ (v := Malloc (Num 6)) ∷ []) (ending (out_of_memory 5) 7) (30 ∷ 5 ∷ 0 ∷ 0 ∷ 0 ∷ 0 ∷ 83 ∷ 84 ∷ [])
    ∷ run
    ((at_word 11 := Num 8) ∷ (p := malloc_as int* 6) ∷ (x := Read (at_word 11)) ∷ (v := Malloc (Num 1)) ∷ (v := Malloc (Num 1)) ∷ [])
    (ending (out_of_memory 4) 12) (8 ∷ 5 ∷ 11 ∷ [])
    -- when it is worked out: before a read to its right and after one to its left, after the place's read, and before the assignment
    ∷ over_dirt ((x := Sum (malloc_as int 1) (Read (at_word 5))) ∷ []) (ending done 6) (5 ∷ 0 ∷ 0 ∷ 0 ∷ 0 ∷ 82 ∷ 83 ∷ 84 ∷ [])
    ∷ over_dirt ((x := Sum (Read (at_word 5)) (malloc_as int 1)) ∷ []) (ending done 6) (86 ∷ 0 ∷ 0 ∷ 0 ∷ 0 ∷ 82 ∷ 83 ∷ 84 ∷ [])
    ∷ run ((at_word 5 := Num 8) ∷ (Deref (Cast (Read (at_word 5)) int*) := malloc_as int 1) ∷ []) (ending done 6) (30 ∷ 0 ∷ 0 ∷ 0 ∷ 0 ∷ 0 ∷ 0 ∷ 5 ∷ [])
    ∷ over_dirt ((at_word 6 := malloc_as int 2) ∷ []) (ending done 7) (30 ∷ 0 ∷ 0 ∷ 0 ∷ 0 ∷ 5 ∷ 83 ∷ 84 ∷ [])
    -- "Child a goes before child b": 5 + 7
    ∷ over_dirt ((p := Sum (malloc_as int* 2) (malloc_as int 1)) ∷ []) (ending done 8) (30 ∷ 12 ∷ 0 ∷ 0 ∷ 0 ∷ 0 ∷ 0 ∷ 84 ∷ [])
    -- n is whatever its child gives, from above U too
    ∷ over_dirt ((at_word 8 := Num 2) ∷ (v := Malloc (Read (at_word 8))) ∷ []) (ending done 7) (30 ∷ 0 ∷ 5 ∷ 0 ∷ 0 ∷ 0 ∷ 83 ∷ 2 ∷ [])
    ∷ []

-- ---- "without checks and without the two bounds lists"

unfoldable pub plain_runs : List BareExample
plain_runs =
    -- the address of a place that could not be read: past the list, word 0, a field past the list and one of r that is 0
    run (shows (at_word 12) ∷ []) (ending done 5) (30 ∷ 0 ∷ 12 ∷ [])
    ∷ run (shows (at_word 4294967295) ∷ []) (ending done 5) (30 ∷ 0 ∷ 4294967295 ∷ [])
    ∷ run ((p := Address x) ∷ (p := Address (at_word 0)) ∷ []) (ending done 5) (30 ∷ [])
    ∷ run (shows (Field (to 12) 1) ∷ []) (ending done 5) (30 ∷ 0 ∷ 16 ∷ [])
    ∷ run (shows (Field (Read r) 2) ∷ []) (ending done 5) (30 ∷ 0 ∷ 5 ∷ [])
    -- a cast keeps the value, and a pointer made of an int is followed
    ∷ run ((x := Cast (Cast (to 4294967295) int*) int) ∷ []) (ending done 5) (4294967295 ∷ [])
    ∷ run ((p := Cast (Num 5) int*) ∷ (at p := Num 8) ∷ []) (ending done 5) (30 ∷ 5 ∷ 0 ∷ 0 ∷ 8 ∷ [])
    -- an int over a pointer, which is followed then; a pointer over an int; an int read as a pointer
    ∷ run ((at_word 2 := Num 5) ∷ (at p := Num 8) ∷ []) (ending done 5) (30 ∷ 5 ∷ 0 ∷ 0 ∷ 8 ∷ [])
    ∷ run ((pointer_at 1 := Cast (Num 8) int*) ∷ []) (ending done 5) (8 ∷ [])
    ∷ run ((p := Read (pointer_at 1)) ∷ []) (ending done 5) (30 ∷ 30 ∷ [])
    ∷ []
