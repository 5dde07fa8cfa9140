-- Request 9: the steps of the bare run by themselves, with the whole outcome, on trees and states that no call has. proofs/Examples.antt computes each
-- list.
use Rattle.std.specs.Prelude.{ℕ, Bool, true, false, List, [], ◌∷◌, ◌++◌}
use Rattle.semantics.specs.Words.{Words}
use Rattle.semantics.specs.Syntax.{Place, Variable, Deref, Field, NoPlace, Value, Number, Sum, Read, Address, Cast, Malloc, Copy, NoValue}
use Rattle.semantics.specs.Bare.{State, Outcome, ok, no_room, no_word, touchable, malloc_step, copy_step, value_at, assign, done, stuck, Run, ended, commands_below}
use Rattle.semantics.specs.ExampleTables.{types, Var, Num, ◌:=◌, routine}

-- A list of six words and U. Word 0 is 7, which no run has, and the words from 4 on were written.
abbrev with_unused : Words → ℕ → State
with_unused ws u = record { values = ws; unused = u }

abbrev six_words : Words
six_words = 7 ∷ 5 ∷ 9 ∷ 0 ∷ 8 ∷ 8 ∷ []

abbrev pub little : State
little = with_unused six_words 4

-- Two words obtained, then these in them.
abbrev allocated : ℕ → ℕ → State
allocated v w = with_unused (7 ∷ 5 ∷ 9 ∷ 0 ∷ v ∷ w ∷ []) 6

-- ---- The value of each kind of tree

pub record WorkedOut : Type 0 where
  pub tree : Value
  pub outcome : Outcome ℕ

unfoldable pub work : WorkedOut → WorkedOut
work c = record { tree = c.tree; outcome = value_at c.tree little }

abbrev comes_to : Value → Outcome ℕ → WorkedOut
comes_to v o = record { tree = v; outcome = o }

-- The state stays.
abbrev gives : Value → ℕ → WorkedOut
gives v n = comes_to v (ok n little)

abbrev has_no_word : Value → WorkedOut
has_no_word v = comes_to v (no_word little)

abbrev finds_no_room : Value → WorkedOut
finds_no_room v = comes_to v (no_room little)

-- Word 1, a block of two words, one that doesn't fit, and one that doesn't fit after the block.
abbrev word_1 : Value
word_1 = Read 1 true (Variable 0 0)

abbrev block : Value
block = Malloc 1 (Number 0 2)

abbrev too_long : Value
too_long = Malloc 1 (Number 0 3)

abbrev one_more : Value
one_more = Malloc 3 (Number 2 1)

unfoldable pub bare_values : List WorkedOut
bare_values =
    gives (Number 3 7) 7
    -- a read: whatever the flag for bounds is; words at and above U, the first past the list, word 0
    ∷ gives word_1 5
    ∷ gives (Read 1 false (Variable 0 0)) 5
    ∷ gives (Read 1 false (Variable 0 1)) 9
    ∷ gives (Read 1 true (Variable 0 3)) 8
    ∷ gives (Read 1 true (Variable 0 4)) 8
    ∷ has_no_word (Read 1 true (Variable 0 5))
    ∷ has_no_word (Read 2 true (Deref 1 (Number 0 0)))
    -- an address: nothing is read. A field's words are not asked for; its sum is modulo 4,294,967,296
    ∷ gives (Address 1 (Variable 0 1)) 2
    ∷ gives (Address 1 (Variable 0 9)) 10
    ∷ gives (Address 2 (Deref 1 (Number 0 77))) 77
    ∷ gives (Address 2 (Field 1 0 3 (Number 0 5))) 5
    ∷ gives (Address 2 (Field 1 4 1 (Number 0 5))) 9
    ∷ gives (Address 2 (Field 1 4 3 (Number 0 4294967293))) 1
    ∷ gives (Address 2 (Field 1 4 3 (Number 0 4294967292))) 0
    ∷ gives (Address 2 (Field 1 4 3 (Number 0 4294967291))) 4294967295
    ∷ gives (Read 2 true (Field 1 2 9 (Number 0 4294967295))) 5
    -- a sum, whatever the flag is: the step is the left operand's, and the product and the sum are modulo 4,294,967,296
    ∷ gives (Sum 3 false 3 word_1 (Number 2 4)) 17
    ∷ gives (Sum 3 true 3 word_1 (Number 2 4)) 17
    ∷ gives (Sum 4 true 2 (Number 0 6) word_1) 16
    ∷ gives (Sum 2 false 1 (Number 0 4294967295) (Number 1 1)) 0
    ∷ gives (Sum 2 false 1 (Number 0 4294967294) (Number 1 1)) 4294967295
    ∷ gives (Sum 2 false 3 (Number 0 4294967295) (Number 1 1431655766)) 1
    -- a cast keeps the value, whatever the flag is
    ∷ gives (Cast 2 true word_1) 5
    ∷ gives (Cast 2 false word_1) 5
    -- "An obtain sets its new words to 0": one, two, none, and one too many
    ∷ comes_to one_more (ok 4 (with_unused (7 ∷ 5 ∷ 9 ∷ 0 ∷ 0 ∷ 8 ∷ []) 5))
    ∷ comes_to block (ok 4 (allocated 0 0))
    ∷ gives (Malloc 1 (Number 0 0)) 0
    ∷ finds_no_room too_long
    ∷ comes_to (Read 3 true (Deref 2 block)) (ok 0 (allocated 0 0))
    -- a copy: apart, and overlapping either way; a first, then b
    ∷ comes_to (Copy 2 2 (Number 0 4) (Number 1 1)) (ok 2 (with_unused (7 ∷ 5 ∷ 9 ∷ 0 ∷ 5 ∷ 9 ∷ []) 4))
    ∷ comes_to (Copy 2 2 (Number 0 2) (Number 1 1)) (ok 2 (with_unused (7 ∷ 5 ∷ 5 ∷ 9 ∷ 8 ∷ 8 ∷ []) 4))
    ∷ comes_to (Copy 2 2 (Number 0 1) (Number 1 2)) (ok 2 (with_unused (7 ∷ 9 ∷ 0 ∷ 0 ∷ 8 ∷ 8 ∷ []) 4))
    ∷ comes_to (Copy 3 2 block (Number 2 1)) (ok 2 (allocated 5 9))
    ∷ has_no_word (Copy 2 2 (Number 0 5) (Number 1 1))
    ∷ comes_to (Copy 3 2 (Number 2 5) block) (no_word (allocated 0 0))
    -- no value and no place, where no sense was made of a node: each kind of tree ends there, with what was obtained before
    ∷ has_no_word NoValue
    ∷ has_no_word (Read 1 true NoPlace)
    ∷ has_no_word (Address 1 NoPlace)
    ∷ has_no_word (Address 1 (Deref 0 NoValue))
    ∷ has_no_word (Address 1 (Field 0 2 1 NoValue))
    ∷ has_no_word (Sum 2 false 1 NoValue block)
    ∷ comes_to (Sum 2 false 1 block NoValue) (no_word (allocated 0 0))
    ∷ has_no_word (Cast 1 true NoValue)
    ∷ has_no_word (Malloc 1 NoValue)
    ∷ has_no_word (Copy 2 2 NoValue block)
    ∷ comes_to (Copy 2 2 block NoValue) (no_word (allocated 0 0))
    -- and at no room
    ∷ finds_no_room (Read 3 true (Deref 2 too_long))
    ∷ finds_no_room (Address 3 (Field 2 2 1 too_long))
    ∷ finds_no_room (Sum 3 false 1 too_long NoValue)
    ∷ comes_to (Sum 4 false 1 block one_more) (no_room (allocated 0 0))
    ∷ finds_no_room (Cast 2 true too_long)
    ∷ finds_no_room (Malloc 2 too_long)
    ∷ finds_no_room (Copy 3 2 too_long NoValue)
    ∷ comes_to (Copy 4 2 block one_more) (no_room (allocated 0 0))
    ∷ []

-- ---- Assignments: the place, then the value, then the word

pub record Assigned : Type 0 where
  pub place : Place
  pub value : Value
  pub outcome : Outcome (Unit {0})

unfoldable pub perform : Assigned → Assigned
perform c = record { place = c.place; value = c.value; outcome = assign c.place c.value little }

abbrev ends_in : Place → Value → Outcome (Unit {0}) → Assigned
ends_in p v o = record { place = p; value = v; outcome = o }

-- Word 0.
abbrev word_0 : Place
word_0 = Deref 5 (Number 4 0)

unfoldable pub bare_assignments : List Assigned
bare_assignments =
    -- below U and above it, the first word and the last, and none past them
    ends_in (Variable 0 0) (Number 1 77) (ok tt (with_unused (7 ∷ 77 ∷ 9 ∷ 0 ∷ 8 ∷ 8 ∷ []) 4))
    ∷ ends_in (Variable 0 4) (Number 1 77) (ok tt (with_unused (7 ∷ 5 ∷ 9 ∷ 0 ∷ 8 ∷ 77 ∷ []) 4))
    ∷ ends_in (Variable 0 5) (Number 1 77) (no_word little)
    ∷ ends_in word_0 (Number 1 77) (no_word little)
    -- the value is worked out before that: its block stays, its copy has written, and its no room is told
    ∷ ends_in word_0 block (no_word (allocated 0 0))
    ∷ ends_in (Variable 0 5) block (no_word (allocated 0 0))
    ∷ ends_in word_0 (Copy 2 2 (Number 0 4) (Number 1 1)) (no_word (with_unused (7 ∷ 5 ∷ 9 ∷ 0 ∷ 5 ∷ 9 ∷ []) 4))
    ∷ ends_in word_0 too_long (no_room little)
    -- and the place before it
    ∷ ends_in (Deref 2 block) (Number 0 77) (ok tt (allocated 77 0))
    ∷ ends_in (Deref 2 block) one_more (no_room (allocated 0 0))
    ∷ ends_in (Deref 2 block) NoValue (no_word (allocated 0 0))
    ∷ ends_in (Deref 2 too_long) NoValue (no_room little)
    ∷ ends_in NoPlace too_long (no_word little)
    ∷ ends_in NoPlace block (no_word little)
    ∷ ends_in (Variable 0 0) NoValue (no_word little)
    -- over what its value has written: a copy to words 4 and 5
    ∷ ends_in (Variable 0 4) (Copy 2 2 (Number 0 4) (Number 1 1)) (ok tt (with_unused (7 ∷ 5 ∷ 9 ∷ 0 ∷ 5 ∷ 2 ∷ []) 4))
    ∷ []

-- ---- Which words can be read and assigned, in lists of six words, of one and of none: "U is not asked"

pub record Reach : Type 0 where
  pub list : Words
  pub unused : ℕ
  pub w : ℕ
  pub can : Bool

unfoldable pub reached : Reach → Reach
reached c = record { list = c.list; unused = c.unused; w = c.w; can = touchable (with_unused c.list c.unused) c.w }

abbrev reach : Words → ℕ → ℕ → Bool → Reach
reach l u w c = record { list = l; unused = u; w = w; can = c }

unfoldable pub reaches : List Reach
reaches =
    reach six_words 4 0 false
    ∷ reach six_words 4 1 true
    ∷ reach six_words 4 3 true
    ∷ reach six_words 4 4 true
    ∷ reach six_words 4 5 true
    ∷ reach six_words 4 6 false
    ∷ reach six_words 4 4294967295 false
    ∷ reach six_words 9 5 true
    ∷ reach six_words 9 6 false
    ∷ reach six_words 0 1 true
    ∷ reach (7 ∷ []) 1 0 false
    ∷ reach (7 ∷ []) 2 1 false
    ∷ reach [] 1 0 false
    ∷ []

-- ---- Obtaining n words in that list from other U: at the last word, at its length, and past it

pub record Allocation : Type 0 where
  pub unused : ℕ
  pub n : ℕ
  pub outcome : Outcome ℕ

unfoldable pub allocate : Allocation → Allocation
allocate c = record { unused = c.unused; n = c.n; outcome = malloc_step c.n (with_unused six_words c.unused) }

abbrev from_unused : ℕ → ℕ → Outcome ℕ → Allocation
from_unused u n o = record { unused = u; n = n; outcome = o }

unfoldable pub allocations : List Allocation
allocations =
    from_unused 2 3 (ok 2 (with_unused (7 ∷ 5 ∷ 0 ∷ 0 ∷ 0 ∷ 8 ∷ []) 5))
    ∷ from_unused 2 4 (ok 2 (with_unused (7 ∷ 5 ∷ 0 ∷ 0 ∷ 0 ∷ 0 ∷ []) 6))
    ∷ from_unused 2 5 (no_room (with_unused six_words 2))
    ∷ from_unused 5 1 (ok 5 (with_unused (7 ∷ 5 ∷ 9 ∷ 0 ∷ 8 ∷ 0 ∷ []) 6))
    ∷ from_unused 5 2 (no_room (with_unused six_words 5))
    ∷ from_unused 6 0 (ok 0 (with_unused six_words 6))
    ∷ from_unused 6 1 (no_room (with_unused six_words 6))
    ∷ from_unused 9 0 (ok 0 (with_unused six_words 9))
    ∷ from_unused 9 1 (no_room (with_unused six_words 9))
    -- U + n is 4,294,967,296 and 4,294,967,301, as exact numbers
    ∷ from_unused 5 4294967291 (no_room (with_unused six_words 5))
    ∷ from_unused 6 4294967295 (no_room (with_unused six_words 6))
    ∷ []

-- ---- Copying k words to a from b in that list

pub record Move : Type 0 where
  pub k : ℕ
  pub a : ℕ
  pub b : ℕ
  pub outcome : Outcome ℕ

unfoldable pub move : Move → Move
move c = record { k = c.k; a = c.a; b = c.b; outcome = copy_step c.k c.a c.b little }

abbrev moves_to : (k a b : ℕ) → Words → Move
moves_to k a b ws = record { k = k; a = a; b = b; outcome = ok k (with_unused ws 4) }

abbrev moves_none : (k a b : ℕ) → Move
moves_none k a b = record { k = k; a = a; b = b; outcome = no_word little }

unfoldable pub moves : List Move
moves =
    -- all five, onto themselves; four up and four down; one word to the last place and from it
    moves_to 5 1 1 six_words
    ∷ moves_to 4 2 1 (7 ∷ 5 ∷ 5 ∷ 9 ∷ 0 ∷ 8 ∷ [])
    ∷ moves_to 4 1 2 (7 ∷ 9 ∷ 0 ∷ 8 ∷ 8 ∷ 8 ∷ [])
    ∷ moves_to 1 5 1 (7 ∷ 5 ∷ 9 ∷ 0 ∷ 8 ∷ 5 ∷ [])
    ∷ moves_to 1 1 5 (7 ∷ 8 ∷ 9 ∷ 0 ∷ 8 ∷ 8 ∷ [])
    -- "word 0 or a word outside", by one word at either end, of either
    ∷ moves_none 5 0 1
    ∷ moves_none 5 1 0
    ∷ moves_none 5 2 1
    ∷ moves_none 5 1 2
    ∷ moves_none 1 6 1
    ∷ moves_none 1 1 6
    ∷ moves_none 1 0 0
    ∷ moves_none 3 4294967295 1
    ∷ moves_none 3 1 4294967295
    -- no words, as no record has: there is none that is outside
    ∷ moves_to 0 0 99 six_words
    ∷ []

-- ---- Registers of none, one and two words for variable 1 in that state: only their words are set, and the variable's

unfoldable pub bare_registered : List State
bare_registered =
    with_unused (7 ∷ 5 ∷ 0 ∷ 0 ∷ 8 ∷ 8 ∷ []) 4
    ∷ with_unused (7 ∷ 5 ∷ 4 ∷ 0 ∷ 70 ∷ 8 ∷ []) 5
    ∷ with_unused (7 ∷ 5 ∷ 4 ∷ 0 ∷ 70 ∷ 80 ∷ []) 6
    ∷ []

-- ---- The first commands of a table from a state

pub record Part : Type 0 where
  pub table : Words
  pub commands : ℕ
  pub from : State
  pub run : Run

unfoldable pub partly : Part → Part
partly c =
    record { table = c.table; commands = c.commands; from = c.from; run = commands_below c.table c.commands c.from }

abbrev part : Words → ℕ → State → Run → Part
part t n s r = record { table = t; commands = n; from = s; run = r }

-- x = 1; x = 2
abbrev twice_assigned : Words
twice_assigned = types [] [] (0 ∷ []) ++ routine ((Var 0 := Num 1) ∷ (Var 0 := Num 2) ∷ [])

unfoldable pub parts : List Part
parts =
    -- none, one, both: what was there stays
    part twice_assigned 0 little (ended done little)
    ∷ part twice_assigned 1 little (ended done (with_unused (7 ∷ 1 ∷ 9 ∷ 0 ∷ 8 ∷ 8 ∷ []) 4))
    ∷ part twice_assigned 2 little (ended done (with_unused (7 ∷ 2 ∷ 9 ∷ 0 ∷ 8 ∷ 8 ∷ []) 4))
    -- x's word is at U, and past the list
    ∷ part twice_assigned 2 (with_unused six_words 1) (ended done (with_unused (7 ∷ 2 ∷ 9 ∷ 0 ∷ 8 ∷ 8 ∷ []) 1))
    ∷ part twice_assigned 2 (with_unused (7 ∷ []) 4) (ended (stuck 0) (with_unused (7 ∷ []) 4))
    -- a node of no kind, as a value and as a place
    ∷ part (0 ∷ 0 ∷ 0 ∷ 1 ∷ 0 ∷ 2 ∷ 1 ∷ 0 ∷ 0 ∷ 12 ∷ 0 ∷ 0 ∷ 1 ∷ 0 ∷ 1 ∷ []) 1 little (ended (stuck 0) little)
    ∷ part (0 ∷ 0 ∷ 0 ∷ 1 ∷ 0 ∷ 2 ∷ 12 ∷ 0 ∷ 0 ∷ 4 ∷ 0 ∷ 0 ∷ 1 ∷ 0 ∷ 1 ∷ []) 1 little (ended (stuck 0) little)
    ∷ []
