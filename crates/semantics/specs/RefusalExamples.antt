-- What the check answers: document 01, "The table" and "What is turned away", and what request 6 adds to it. For each sentence there are tables
-- that would be judged otherwise if it were read otherwise by one word. proofs/Examples.antt computes each list.
use Rattle.std.specs.Prelude.{ℕ, zero, suc, ◌+◌, ◌*◌, List, [], ◌∷◌, ◌++◌, map, length, replicate, take}
use Rattle.semantics.specs.Words.{Words}
use Rattle.semantics.specs.Check.{Verdict, passes, refused}
use Rattle.semantics.specs.ExampleTables.{section, of_type, types, node, var, deref, field, num, sum, read, address, cast, size, malloc, copy, assign, Judgement, gives}

-- ---- 1 to 3: sections, counts and words over

-- A table with entries in all sections, of which no two have the same number: 4 records, 5 fields, 2 pointers, 3 variables, 6 nodes, 1 command.
abbrev full : Words
full =
    types
    ((of_type 0 1 ∷ []) ∷ (of_type 0 1 ∷ of_type 0 1 ∷ []) ∷ (of_type 0 1 ∷ []) ∷ (of_type 0 1 ∷ []) ∷ [])
    (0 ∷ 1 ∷ []) (0 ∷ 1 ∷ 2 ∷ [])
    ++ section (var 0 ∷ num 1 ∷ num 2 ∷ sum 1 2 ∷ num 3 ∷ sum 3 4 ∷ [])
    ++ section (assign 0 5 ∷ [])

-- Its first words, fewer than n, are cut short.
abbrev cut_below : ℕ → List Judgement
cut_below zero = []
cut_below (suc n) = gives (take n full) (refused 1 n) ∷ cut_below n

unfoldable pub sections : List Judgement
sections =
    -- "For a cut table the place is its length": after each of its words
    cut_below (length full)
    -- the whole of it passes; "words after the last section", one and more, also where a record is without fields
    ++ (gives full passes
    ∷ gives (full ++ (0 ∷ [])) (refused 2 (length full))
    ∷ gives (full ++ (0 ∷ 4294967295 ∷ [])) (refused 2 (length full))
    ∷ gives (1 ∷ 0 ∷ 0 ∷ 0 ∷ 0 ∷ 0 ∷ 0 ∷ 0 ∷ []) (refused 2 7)
    -- the six maxima, told after the count is there and before the extent is; each count at its maximum, and one above
    ∷ gives (32 ∷ []) (refused 1 1)
    ∷ gives (33 ∷ []) (refused 3 0)
    ∷ gives (0 ∷ 128 ∷ []) (refused 1 2)
    ∷ gives (0 ∷ 129 ∷ []) (refused 3 1)
    ∷ gives (0 ∷ 0 ∷ 64 ∷ []) (refused 1 3)
    ∷ gives (0 ∷ 0 ∷ 65 ∷ []) (refused 3 2)
    ∷ gives (0 ∷ 0 ∷ 0 ∷ 64 ∷ []) (refused 1 4)
    ∷ gives (0 ∷ 0 ∷ 0 ∷ 65 ∷ []) (refused 3 3)
    ∷ gives (0 ∷ 0 ∷ 0 ∷ 0 ∷ 512 ∷ []) (refused 1 5)
    ∷ gives (0 ∷ 0 ∷ 0 ∷ 0 ∷ 513 ∷ []) (refused 3 4)
    ∷ gives (0 ∷ 0 ∷ 0 ∷ 0 ∷ 0 ∷ 256 ∷ []) (refused 1 6)
    ∷ gives (0 ∷ 0 ∷ 0 ∷ 0 ∷ 0 ∷ 257 ∷ []) (refused 3 5)
    ∷ gives (4294967294 ∷ []) (refused 3 0)
    -- where each count stands: an earlier section's entries are passed over by their own number of words
    ∷ gives (2 ∷ 1 ∷ 1 ∷ 129 ∷ []) (refused 3 3)
    ∷ gives (0 ∷ 2 ∷ 0 ∷ 1 ∷ 0 ∷ 1 ∷ 65 ∷ []) (refused 3 6)
    ∷ gives (0 ∷ 0 ∷ 2 ∷ 0 ∷ 1 ∷ 65 ∷ []) (refused 3 5)
    ∷ gives (0 ∷ 0 ∷ 0 ∷ 2 ∷ 0 ∷ 0 ∷ 513 ∷ []) (refused 3 6)
    ∷ gives (0 ∷ 0 ∷ 0 ∷ 0 ∷ 1 ∷ 4 ∷ 7 ∷ 0 ∷ 257 ∷ []) (refused 3 8)
    -- 3 before 2, and an earlier section's extent before a later one's count
    ∷ gives (33 ∷ replicate 33 1 ++ (0 ∷ 0 ∷ 0 ∷ 0 ∷ 0 ∷ 9 ∷ [])) (refused 3 0)
    ∷ gives (0 ∷ 65 ∷ 0 ∷ 1 ∷ 65 ∷ []) (refused 1 5)
    ∷ [])

-- ---- 4 to 6: records, fields, pointers and variables

-- Records of one and of two fields, with these fields and no pointers.
abbrev with_fields : List Words → Words
with_fields fs = (2 ∷ 1 ∷ 2 ∷ []) ++ section fs ++ (0 ∷ 0 ∷ 0 ∷ 0 ∷ [])

-- Two records, and these pointers and variables.
abbrev with_types : Words → Words → Words
with_types ps vs = types ((of_type 0 1 ∷ []) ∷ (of_type 0 1 ∷ of_type 0 2 ∷ []) ∷ []) ps vs ++ (0 ∷ 0 ∷ [])

unfoldable pub declarations : List Judgement
declarations =
    -- "record without fields", also where it is the last, and where the sum is right or wrong
    gives (2 ∷ 1 ∷ 0 ∷ 1 ∷ 0 ∷ 1 ∷ 0 ∷ 0 ∷ 0 ∷ 0 ∷ []) (refused 4 2)
    ∷ gives (3 ∷ 1 ∷ 0 ∷ 0 ∷ 2 ∷ 0 ∷ 1 ∷ 0 ∷ 1 ∷ 0 ∷ 0 ∷ 0 ∷ 0 ∷ []) (refused 4 2)
    -- "fields don't add up to section 2's count", below and above it, told before the fields' own words
    ∷ gives (with_fields (of_type 0 1 ∷ of_type 0 1 ∷ of_type 0 1 ∷ [])) passes
    ∷ gives (with_fields (of_type 9 0 ∷ of_type 0 1 ∷ [])) (refused 4 3)
    ∷ gives (with_fields (of_type 9 0 ∷ of_type 0 1 ∷ of_type 0 1 ∷ of_type 0 1 ∷ [])) (refused 4 3)
    ∷ gives (0 ∷ 1 ∷ 0 ∷ 1 ∷ 0 ∷ 0 ∷ 0 ∷ 0 ∷ []) (refused 4 1)
    -- "a type": int and pointer to void are known without a pointer entry, and no other; a record is no type
    ∷ gives (with_fields (of_type 0 1 ∷ of_type 1 1 ∷ of_type 2 1 ∷ [])) (refused 5 8)
    ∷ gives (with_fields (of_type 0 1 ∷ of_type 65536 1 ∷ of_type 0 1 ∷ [])) (refused 5 6)
    -- "a count of words, 1 to 4,096"
    ∷ gives (with_fields (of_type 0 1 ∷ of_type 0 4096 ∷ of_type 1 4096 ∷ [])) passes
    ∷ gives (with_fields (of_type 0 1 ∷ of_type 0 0 ∷ of_type 0 1 ∷ [])) (refused 4 7)
    ∷ gives (with_fields (of_type 0 1 ∷ of_type 0 1 ∷ of_type 0 4097 ∷ [])) (refused 4 9)
    ∷ gives (with_fields (of_type 0 1 ∷ of_type 0 4294967295 ∷ of_type 0 1 ∷ [])) (refused 4 7)
    -- "word by word in table order": of one field its type first, of two the first
    ∷ gives (with_fields (of_type 0 1 ∷ of_type 2 0 ∷ of_type 0 1 ∷ [])) (refused 5 6)
    ∷ gives (with_fields (of_type 0 1 ∷ of_type 0 0 ∷ of_type 2 1 ∷ [])) (refused 4 7)
    -- a target is a type, its own entry's or a later one's too, or a record; one more of either is unknown
    ∷ gives (with_types (2 ∷ 4 ∷ 65537 ∷ 65536 ∷ 0 ∷ 1 ∷ []) (7 ∷ [])) passes
    ∷ gives (with_types (0 ∷ 1 ∷ 5 ∷ []) []) (refused 5 13)
    ∷ gives (with_types (0 ∷ 65535 ∷ []) []) (refused 5 12)
    ∷ gives (with_types (0 ∷ 65538 ∷ []) []) (refused 5 12)
    ∷ gives (with_types (0 ∷ 4294967295 ∷ []) []) (refused 5 12)
    ∷ gives (0 ∷ 0 ∷ 1 ∷ 65536 ∷ 0 ∷ 0 ∷ 0 ∷ []) (refused 5 3)
    -- "a pointer target seen before", a type or a record, in any earlier entry
    ∷ gives (with_types (0 ∷ 1 ∷ 0 ∷ []) []) (refused 6 13)
    ∷ gives (with_types (65536 ∷ 65537 ∷ 1 ∷ 65537 ∷ []) []) (refused 6 14)
    -- of one word 5 before 6; of two the first
    ∷ gives (with_types (0 ∷ 9 ∷ 9 ∷ 0 ∷ []) []) (refused 5 12)
    ∷ gives (with_types (0 ∷ 0 ∷ 9 ∷ []) []) (refused 6 12)
    -- "Variables .. one word each, a type": the highest is known, one more isn't, and a record is none
    ∷ gives (with_types (0 ∷ 65536 ∷ []) (0 ∷ 1 ∷ 2 ∷ 3 ∷ [])) passes
    ∷ gives (with_types (0 ∷ 65536 ∷ []) (3 ∷ 4 ∷ 9 ∷ [])) (refused 5 15)
    ∷ gives (with_types (0 ∷ 65536 ∷ []) (0 ∷ 0 ∷ 65536 ∷ [])) (refused 5 16)
    -- a field before a pointer, a pointer before a variable
    ∷ gives (types ((of_type 0 1 ∷ of_type 0 0 ∷ []) ∷ []) (9 ∷ []) [] ++ (0 ∷ 0 ∷ [])) (refused 4 6)
    ∷ gives (with_types (0 ∷ 0 ∷ []) (9 ∷ [])) (refused 6 12)
    ∷ []

-- ---- 7, 5 and 8: nodes

-- Records of one int, and of two ints and a pointer to int. Types: 2 int*, 3 pointer to record 1, 4 int**, 5 pointer to record 0. Variables:
-- 0 int, 1 void*, 2 int*, 3 pointer to record 1, 4 pointer to record 0.
abbrev five_variables : Words
five_variables =
    types ((of_type 0 1 ∷ []) ∷ (of_type 0 2 ∷ of_type 2 1 ∷ []) ∷ []) (0 ∷ 65537 ∷ 2 ∷ 65536 ∷ []) (0 ∷ 1 ∷ 2 ∷ 3 ∷ 5 ∷ [])

-- These nodes, and no command.
abbrev nodes_give : List Words → Verdict → Judgement
nodes_give ns v = gives (five_variables ++ section ns ++ (0 ∷ [])) v

-- Node 4 copies a record: a is variable i, and b variable j. Then these nodes.
abbrev copies : (i j : ℕ) → List Words → Verdict → Judgement
copies i j ns v = nodes_give (var i ∷ read 0 ∷ var j ∷ read 2 ∷ copy 1 3 ∷ ns) v

-- Where the three words of node n stand.
abbrev kind_at : ℕ → ℕ
kind_at n = 22 + 3 * n

abbrev a_at : ℕ → ℕ
a_at n = 23 + 3 * n

abbrev b_at : ℕ → ℕ
b_at n = 24 + 3 * n

unfoldable pub operands : List Judgement
operands =
    -- "unknown kind", whatever the other words
    nodes_give (num 7 ∷ node 0 0 0 ∷ []) (refused 7 (kind_at 1))
    ∷ nodes_give (num 7 ∷ node 12 0 0 ∷ []) (refused 7 (kind_at 1))
    ∷ nodes_give (num 7 ∷ num 8 ∷ node 4294967295 9 9 ∷ []) (refused 7 (kind_at 2))
    -- "unknown .. variable"
    ∷ nodes_give (var 4 ∷ var 5 ∷ []) (refused 7 (a_at 1))
    ∷ nodes_give (var 4294967295 ∷ []) (refused 7 (a_at 0))
    -- "A child is a node with a smaller number": not a later one, and not its own
    ∷ nodes_give (num 7 ∷ deref 2 ∷ num 8 ∷ []) (refused 7 (a_at 1))
    ∷ nodes_give (num 7 ∷ field 2 0 ∷ num 8 ∷ []) (refused 7 (a_at 1))
    ∷ nodes_give (num 7 ∷ sum 2 0 ∷ num 8 ∷ []) (refused 7 (a_at 1))
    ∷ nodes_give (num 7 ∷ sum 0 2 ∷ num 8 ∷ []) (refused 7 (b_at 1))
    ∷ nodes_give (var 0 ∷ read 2 ∷ var 0 ∷ []) (refused 7 (a_at 1))
    ∷ nodes_give (var 0 ∷ address 2 ∷ var 0 ∷ []) (refused 7 (a_at 1))
    ∷ nodes_give (num 7 ∷ cast 2 0 ∷ num 8 ∷ []) (refused 7 (a_at 1))
    ∷ nodes_give (num 7 ∷ malloc 2 ∷ num 8 ∷ []) (refused 7 (a_at 1))
    ∷ nodes_give (num 7 ∷ sum 1 0 ∷ []) (refused 7 (a_at 1))
    ∷ nodes_give (num 7 ∷ sum 0 1 ∷ []) (refused 7 (b_at 1))
    ∷ nodes_give (num 7 ∷ cast 1 0 ∷ []) (refused 7 (a_at 1))
    ∷ nodes_give (num 7 ∷ malloc 4294967295 ∷ []) (refused 7 (a_at 1))
    ∷ nodes_give (num 7 ∷ copy 2 0 ∷ num 8 ∷ []) (refused 7 (a_at 1))
    ∷ nodes_give (num 7 ∷ copy 0 2 ∷ num 8 ∷ []) (refused 7 (b_at 1))
    ∷ nodes_give (num 7 ∷ copy 1 0 ∷ []) (refused 7 (a_at 1))
    ∷ nodes_give (num 7 ∷ copy 0 1 ∷ []) (refused 7 (b_at 1))
    -- "a place where a value belongs or the reverse"
    ∷ nodes_give (var 0 ∷ deref 0 ∷ []) (refused 7 (a_at 1))
    ∷ nodes_give (var 3 ∷ field 0 0 ∷ []) (refused 7 (a_at 1))
    ∷ nodes_give (var 0 ∷ num 1 ∷ sum 0 1 ∷ []) (refused 7 (a_at 2))
    ∷ nodes_give (num 1 ∷ var 0 ∷ sum 0 1 ∷ []) (refused 7 (b_at 2))
    ∷ nodes_give (num 0 ∷ read 0 ∷ []) (refused 7 (a_at 1))
    ∷ nodes_give (num 0 ∷ address 0 ∷ []) (refused 7 (a_at 1))
    ∷ nodes_give (var 0 ∷ cast 0 0 ∷ []) (refused 7 (a_at 1))
    ∷ nodes_give (var 0 ∷ malloc 0 ∷ []) (refused 7 (a_at 1))
    ∷ nodes_give (var 3 ∷ read 0 ∷ var 3 ∷ copy 2 1 ∷ []) (refused 7 (a_at 3))
    ∷ nodes_give (var 3 ∷ read 0 ∷ var 3 ∷ copy 1 2 ∷ []) (refused 7 (b_at 3))
    -- "Kinds 1 to 3 are places, 4 to 10 values", request 6: "kind 11, a value": each as the child that it can't be
    ∷ nodes_give (var 2 ∷ read 0 ∷ deref 1 ∷ cast 2 0 ∷ []) (refused 7 (a_at 3))
    ∷ nodes_give (var 3 ∷ read 0 ∷ field 1 0 ∷ cast 2 0 ∷ []) (refused 7 (a_at 3))
    ∷ nodes_give (num 1 ∷ num 2 ∷ sum 0 1 ∷ read 2 ∷ []) (refused 7 (a_at 3))
    ∷ nodes_give (var 0 ∷ read 0 ∷ read 1 ∷ []) (refused 7 (a_at 2))
    ∷ nodes_give (var 0 ∷ address 0 ∷ read 1 ∷ []) (refused 7 (a_at 2))
    ∷ nodes_give (num 0 ∷ cast 0 0 ∷ read 1 ∷ []) (refused 7 (a_at 2))
    ∷ nodes_give (size 0 ∷ read 0 ∷ []) (refused 7 (a_at 1))
    ∷ nodes_give (num 0 ∷ malloc 0 ∷ read 1 ∷ []) (refused 7 (a_at 2))
    ∷ copies 3 3 (read 4 ∷ []) (refused 7 (a_at 5))
    -- "unused b not 0"
    ∷ nodes_give (num 7 ∷ node 1 0 1 ∷ []) (refused 7 (b_at 1))
    ∷ nodes_give (var 2 ∷ read 0 ∷ node 2 1 1 ∷ []) (refused 7 (b_at 2))
    ∷ nodes_give (num 7 ∷ node 4 0 1 ∷ []) (refused 7 (b_at 1))
    ∷ nodes_give (var 0 ∷ node 6 0 1 ∷ []) (refused 7 (b_at 1))
    ∷ nodes_give (var 0 ∷ node 7 0 1 ∷ []) (refused 7 (b_at 1))
    ∷ nodes_give (num 7 ∷ node 9 0 1 ∷ []) (refused 7 (b_at 1))
    ∷ nodes_give (num 7 ∷ node 10 0 1 ∷ []) (refused 7 (b_at 1))
    -- 5: "unknown type or target .. in a cast or a size"; a cast goes to a type, and to no record
    ∷ nodes_give (num 7 ∷ size 6 ∷ []) (refused 5 (a_at 1))
    ∷ nodes_give (num 7 ∷ size 65535 ∷ []) (refused 5 (a_at 1))
    ∷ nodes_give (num 7 ∷ size 65538 ∷ []) (refused 5 (a_at 1))
    ∷ nodes_give (num 7 ∷ cast 0 6 ∷ []) (refused 5 (b_at 1))
    ∷ nodes_give (num 7 ∷ cast 0 65536 ∷ []) (refused 5 (b_at 1))
    -- request 6: "Kind 11 is no longer unknown", so 01's former example is at fault in its a
    ∷ gives (0 ∷ 0 ∷ 0 ∷ 0 ∷ 1 ∷ 11 ∷ 0 ∷ 0 ∷ 0 ∷ []) (refused 7 6)
    -- "in a node kind, a, b"
    ∷ nodes_give (num 7 ∷ node 12 9 9 ∷ []) (refused 7 (kind_at 1))
    ∷ nodes_give (num 7 ∷ node 1 5 1 ∷ []) (refused 7 (a_at 1))
    ∷ nodes_give (var 0 ∷ sum 0 1 ∷ []) (refused 7 (a_at 1))
    ∷ nodes_give (var 0 ∷ cast 0 6 ∷ []) (refused 7 (a_at 1))
    ∷ nodes_give (num 7 ∷ copy 9 9 ∷ []) (refused 7 (a_at 1))
    ∷ nodes_give (num 7 ∷ node 9 6 1 ∷ []) (refused 5 (a_at 1))
    ∷ []

unfoldable pub node_types : List Judgement
node_types =
    -- follow, "value: pointer to a type": not an int, a pointer to void or to a record
    nodes_give (num 7 ∷ deref 0 ∷ []) (refused 8 (kind_at 1))
    ∷ nodes_give (var 1 ∷ read 0 ∷ deref 1 ∷ []) (refused 8 (kind_at 2))
    ∷ nodes_give (var 3 ∷ read 0 ∷ deref 1 ∷ []) (refused 8 (kind_at 2))
    ∷ nodes_give (var 4 ∷ read 0 ∷ deref 1 ∷ []) (refused 8 (kind_at 2))
    -- field, "value: pointer to a record" and "field of that record": not an int, a pointer to void or to a type, and no field past the last
    ∷ nodes_give (num 7 ∷ field 0 0 ∷ []) (refused 8 (kind_at 1))
    ∷ nodes_give (var 1 ∷ read 0 ∷ field 1 0 ∷ []) (refused 8 (kind_at 2))
    ∷ nodes_give (var 2 ∷ read 0 ∷ field 1 0 ∷ []) (refused 8 (kind_at 2))
    ∷ nodes_give (var 3 ∷ read 0 ∷ field 1 2 ∷ []) (refused 8 (kind_at 2))
    ∷ nodes_give (var 4 ∷ read 0 ∷ field 1 1 ∷ []) (refused 8 (kind_at 2))
    ∷ nodes_give (var 3 ∷ read 0 ∷ field 1 4294967295 ∷ []) (refused 8 (kind_at 2))
    ∷ nodes_give (num 7 ∷ num 8 ∷ var 3 ∷ read 2 ∷ field 3 1 ∷ []) (refused 9 (kind_at 0))
    -- sum, "value: int" on the right: no pointer, also not one to void
    ∷ nodes_give (num 7 ∷ var 2 ∷ read 1 ∷ sum 0 2 ∷ []) (refused 8 (kind_at 3))
    ∷ nodes_give (num 7 ∷ num 8 ∷ malloc 1 ∷ sum 0 2 ∷ []) (refused 8 (kind_at 3))
    ∷ nodes_give (var 2 ∷ read 0 ∷ var 2 ∷ read 2 ∷ sum 1 3 ∷ []) (refused 8 (kind_at 4))
    -- address, "pointer to the place's type, which must be an entry"
    ∷ nodes_give (var 1 ∷ address 0 ∷ []) (refused 8 (kind_at 1))
    ∷ nodes_give (var 3 ∷ address 0 ∷ []) (refused 8 (kind_at 1))
    ∷ nodes_give (var 4 ∷ address 0 ∷ []) (refused 8 (kind_at 1))
    ∷ gives (types [] (1 ∷ 2 ∷ 3 ∷ []) (0 ∷ []) ++ section (var 0 ∷ address 0 ∷ []) ++ (0 ∷ [])) (refused 8 12)
    ∷ gives (types [] (1 ∷ 2 ∷ 3 ∷ 0 ∷ []) (0 ∷ 5 ∷ []) ++ section (var 1 ∷ var 0 ∷ address 1 ∷ []) ++ section (assign 0 2 ∷ [])) passes
    -- obtain, "value: int"
    ∷ nodes_give (var 2 ∷ read 0 ∷ malloc 1 ∷ []) (refused 8 (kind_at 2))
    ∷ nodes_give (num 7 ∷ malloc 0 ∷ malloc 1 ∷ []) (refused 8 (kind_at 2))
    -- the column "Type", each kind by what can't be done with it: follow "the target", field "the field's"
    ∷ nodes_give (var 2 ∷ read 0 ∷ deref 1 ∷ read 2 ∷ deref 3 ∷ []) (refused 8 (kind_at 4))
    ∷ nodes_give (var 3 ∷ read 0 ∷ field 1 0 ∷ read 2 ∷ deref 3 ∷ []) (refused 8 (kind_at 4))
    ∷ nodes_give (var 3 ∷ read 0 ∷ field 1 1 ∷ read 2 ∷ malloc 3 ∷ []) (refused 8 (kind_at 4))
    -- size "int", sum "a's", address "pointer to the place's type", cast "b", obtain "pointer to void"
    ∷ nodes_give (size 5 ∷ deref 0 ∷ []) (refused 8 (kind_at 1))
    ∷ nodes_give (var 2 ∷ read 0 ∷ num 1 ∷ sum 1 2 ∷ malloc 3 ∷ []) (refused 8 (kind_at 4))
    ∷ nodes_give (var 2 ∷ address 0 ∷ field 1 0 ∷ []) (refused 8 (kind_at 2))
    ∷ nodes_give (var 3 ∷ read 0 ∷ cast 1 2 ∷ field 2 0 ∷ []) (refused 8 (kind_at 3))
    ∷ nodes_give (num 7 ∷ malloc 0 ∷ deref 1 ∷ []) (refused 8 (kind_at 2))
    -- "a, b (7 or 5), then 8"
    ∷ nodes_give (num 7 ∷ node 2 0 1 ∷ []) (refused 7 (b_at 1))
    -- "word by word in table order": the lower node first
    ∷ nodes_give (num 7 ∷ deref 0 ∷ node 12 0 0 ∷ []) (refused 8 (kind_at 1))
    ∷ nodes_give (num 7 ∷ node 4 0 1 ∷ deref 0 ∷ []) (refused 7 (b_at 1))
    -- a variable before a node
    ∷ gives (types [] [] (0 ∷ 2 ∷ []) ++ section (node 12 0 0 ∷ []) ++ (0 ∷ [])) (refused 5 5)
    ∷ []

-- A record of one int, with these pointers, variables and nodes, and no command.
abbrev one_record : Words → Words → List Words → Words
one_record ps vs ns = types ((of_type 0 1 ∷ []) ∷ []) ps vs ++ section ns ++ (0 ∷ [])

-- Variable i copied to from each of these: refused.
abbrev unfit : ℕ → List ℕ → List Judgement
unfit i js = map (λ j. copies i j [] (refused 8 (kind_at 4))) js

unfoldable pub copy_types : List Judgement
copy_types =
    -- "a and b are pointers to the same record type": no two variables but 3 and 3, 4 and 4; "8 also where the two pointer types differ or don't point
    -- to a record"
    unfit 0 (0 ∷ 1 ∷ 2 ∷ 3 ∷ 4 ∷ [])
    ++ unfit 1 (0 ∷ 1 ∷ 2 ∷ 3 ∷ 4 ∷ [])
    ++ unfit 2 (0 ∷ 1 ∷ 2 ∷ 3 ∷ 4 ∷ [])
    ++ unfit 3 (0 ∷ 1 ∷ 2 ∷ 4 ∷ [])
    ++ unfit 4 (0 ∷ 1 ∷ 2 ∷ 3 ∷ [])
    ++ (copies 3 3 [] (refused 9 (kind_at 4))
    ∷ copies 4 4 [] (refused 9 (kind_at 4))
    -- two of int**; where entry 0 is a record's, two ints, two of void* and two pointers to a pointer to it
    ∷ nodes_give (var 2 ∷ address 0 ∷ var 2 ∷ address 2 ∷ copy 1 3 ∷ []) (refused 8 (kind_at 4))
    ∷ gives (one_record (65536 ∷ []) [] (num 7 ∷ num 8 ∷ copy 0 1 ∷ [])) (refused 8 15)
    ∷ gives (one_record (65536 ∷ []) [] (num 7 ∷ malloc 0 ∷ num 8 ∷ malloc 2 ∷ copy 1 3 ∷ [])) (refused 8 21)
    ∷ gives (one_record (65536 ∷ 2 ∷ []) (3 ∷ []) (var 0 ∷ read 0 ∷ var 0 ∷ read 2 ∷ copy 1 3 ∷ [])) (refused 8 23)
    -- "a value of type int": it isn't followed, has no field and is no pointer to copy by; it is a count to obtain, and added to a pointer
    ∷ copies 3 3 (deref 4 ∷ []) (refused 8 (kind_at 5))
    ∷ copies 3 3 (field 4 0 ∷ []) (refused 8 (kind_at 5))
    ∷ copies 3 3 (var 3 ∷ read 5 ∷ copy 4 6 ∷ []) (refused 8 (kind_at 7))
    ∷ copies 3 3 (malloc 4 ∷ []) (refused 9 (kind_at 5))
    ∷ copies 3 3 (var 3 ∷ read 5 ∷ sum 6 4 ∷ []) (refused 9 (kind_at 7))
    -- "word by word in table order"
    ∷ copies 2 3 (node 12 0 0 ∷ []) (refused 8 (kind_at 4))
    ∷ [])

-- ---- 7 and 8 in commands, and 9

-- Nodes 0 to 2 are places: int, void*, int*. Values of these types are nodes 3, 5 and 7.
abbrev some_nodes : List Words
some_nodes = var 0 ∷ var 1 ∷ var 2 ∷ num 7 ∷ num 8 ∷ malloc 4 ∷ var 2 ∷ read 6 ∷ []

-- These commands over those nodes.
abbrev commands_give : List Words → Verdict → Judgement
commands_give cs v = gives (five_variables ++ section some_nodes ++ section cs) v

-- Where the two words of command c stand.
abbrev place_at : ℕ → ℕ
place_at c = 47 + 2 * c

abbrev value_at : ℕ → ℕ
value_at c = 48 + 2 * c

abbrev uses_give : List Words → List Words → Verdict → Judgement
uses_give ns cs v = gives (five_variables ++ section ns ++ section cs) v

unfoldable pub commands_and_uses : List Judgement
commands_and_uses =
    -- all three types of place assigned, and each node used once
    commands_give (assign 0 3 ∷ assign 1 5 ∷ assign 2 7 ∷ []) passes
    -- a place node: no value, and none past the last; then a value node
    ∷ commands_give (assign 0 3 ∷ assign 3 5 ∷ []) (refused 7 (place_at 1))
    ∷ commands_give (assign 0 3 ∷ assign 8 5 ∷ []) (refused 7 (place_at 1))
    ∷ commands_give (assign 0 3 ∷ assign 1 2 ∷ []) (refused 7 (value_at 1))
    ∷ commands_give (assign 0 3 ∷ assign 1 8 ∷ []) (refused 7 (value_at 1))
    ∷ commands_give (assign 8 8 ∷ []) (refused 7 (place_at 0))
    -- "A command's place and value have the same type": not a pointer to void for an int, or another pointer, or the reverse
    ∷ commands_give (assign 0 5 ∷ []) (refused 8 (place_at 0))
    ∷ commands_give (assign 0 3 ∷ assign 2 5 ∷ []) (refused 8 (place_at 1))
    ∷ commands_give (assign 0 3 ∷ assign 1 7 ∷ []) (refused 8 (place_at 1))
    ∷ commands_give (assign 0 7 ∷ []) (refused 8 (place_at 0))
    -- a copy is an int, and no pointer to the record or to void
    ∷ uses_give (var 0 ∷ var 3 ∷ read 1 ∷ var 3 ∷ read 3 ∷ copy 2 4 ∷ []) (assign 0 5 ∷ []) passes
    ∷ uses_give (var 3 ∷ var 3 ∷ read 1 ∷ var 3 ∷ read 3 ∷ copy 2 4 ∷ []) (assign 0 5 ∷ []) (refused 8 41)
    ∷ uses_give (var 1 ∷ var 4 ∷ read 1 ∷ var 4 ∷ read 3 ∷ copy 2 4 ∷ []) (assign 0 5 ∷ []) (refused 8 41)
    -- "in a command its two words (7), then 8"; the lower command first
    ∷ commands_give (assign 3 2 ∷ []) (refused 7 (place_at 0))
    ∷ commands_give (assign 2 0 ∷ []) (refused 7 (value_at 0))
    ∷ commands_give (assign 0 5 ∷ assign 8 8 ∷ []) (refused 8 (place_at 0))
    ∷ commands_give (assign 0 3 ∷ assign 1 8 ∷ assign 8 5 ∷ []) (refused 7 (value_at 1))
    -- a node before a command
    ∷ uses_give (var 0 ∷ num 7 ∷ deref 1 ∷ []) (assign 9 9 ∷ []) (refused 8 (kind_at 2))
    -- "Each node is used exactly once": one not at all, above node 0; the lowest; told after the commands
    ∷ uses_give (var 0 ∷ num 7 ∷ num 8 ∷ []) (assign 0 1 ∷ []) (refused 9 (kind_at 2))
    ∷ uses_give (var 0 ∷ num 7 ∷ num 8 ∷ num 9 ∷ var 0 ∷ []) (assign 0 1 ∷ []) (refused 9 (kind_at 2))
    ∷ uses_give (num 8 ∷ var 0 ∷ num 7 ∷ []) (assign 1 2 ∷ assign 1 9 ∷ []) (refused 7 35)
    -- twice by a node and a command, by two nodes, by one sum, by one copy, by two commands as value and as place, three times
    ∷ uses_give (var 0 ∷ num 7 ∷ var 0 ∷ cast 1 0 ∷ []) (assign 0 1 ∷ assign 2 3 ∷ []) (refused 9 (kind_at 1))
    ∷ uses_give (var 0 ∷ num 7 ∷ cast 1 0 ∷ var 0 ∷ cast 1 0 ∷ []) (assign 0 2 ∷ assign 3 4 ∷ []) (refused 9 (kind_at 1))
    ∷ uses_give (var 0 ∷ num 7 ∷ sum 1 1 ∷ []) (assign 0 2 ∷ []) (refused 9 (kind_at 1))
    ∷ uses_give (var 0 ∷ var 3 ∷ read 1 ∷ copy 2 2 ∷ []) (assign 0 3 ∷ []) (refused 9 (kind_at 2))
    ∷ uses_give (var 0 ∷ num 7 ∷ var 0 ∷ []) (assign 0 1 ∷ assign 2 1 ∷ []) (refused 9 (kind_at 1))
    ∷ uses_give (num 7 ∷ num 8 ∷ var 0 ∷ []) (assign 2 0 ∷ assign 2 1 ∷ []) (refused 9 (kind_at 2))
    ∷ uses_give (var 0 ∷ num 7 ∷ sum 1 1 ∷ sum 2 1 ∷ []) (assign 0 3 ∷ []) (refused 9 (kind_at 1))
    -- a use is by a child or a command alone: neither a variable's, a field's, a type's nor a constant's number is one
    ∷ uses_give (num 7 ∷ var 0 ∷ []) (assign 1 0 ∷ []) passes
    ∷ uses_give (var 3 ∷ read 0 ∷ field 1 0 ∷ num 1 ∷ num 2 ∷ cast 4 0 ∷ size 0 ∷ sum 3 5 ∷ sum 7 6 ∷ []) (assign 2 8 ∷ []) passes
    ∷ []
