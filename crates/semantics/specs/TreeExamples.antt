-- What the answers of calls don't show: trees with all that elaboration settles, the value of each kind of tree, a copy with its events, registers
-- over dirty words, and steps without a rule.
use Rattle.std.specs.Prelude.{ℕ, ◌+◌, Bool, true, false, List, [], ◌∷◌, ◌++◌, map, replicate}
use Rattle.semantics.specs.Words.{Words}
use Rattle.semantics.specs.Syntax.{Value, Tree, place, value, Variable, Number, NoValue}
use Rattle.semantics.specs.Syntax as tree
use Rattle.semantics.specs.Rules.{Datum, unbounded, named, followed, Event, loaded, stored, allocated, tested, State, Outcome, ok, fails, no_room, no_rule, copy_step, value_at}
use Rattle.semantics.specs.Run.{Ending, done, stuck, commands_below}
use Rattle.semantics.specs.ExampleTables.{types, of_type, Term, Var, Deref, Field, Num, Sum, Read, Address, Cast, Size, Malloc, Copy, Command, ◌:=◌, routine, bounded}
use Rattle.semantics.specs.ExplainExamples.{check}

-- Record 0 has one field, record 1 fields of 2 and 3 ints. Variables p, pointer to record 1 (type 2), q, pointer to int (type 3), and the int x.
abbrev table : List Command → Words
table cs = types ((of_type 0 4 ∷ []) ∷ (of_type 0 2 ∷ of_type 0 3 ∷ []) ∷ []) (65537 ∷ 0 ∷ []) (2 ∷ 3 ∷ 0 ∷ []) ++ routine cs

abbrev p : Term
p = Var 0

abbrev q : Term
q = Var 1

-- p = (record 1*)malloc(sizeof(record 1)), nodes 0 to 3; q = &(p + 1)->second, nodes 4 to 10; *q = x, nodes 11 to 15; x = (int)q, nodes 16 to 19;
-- q = (int*)7, nodes 20 to 22; x = copy(p + 1, p), nodes 23 to 30
abbrev pub every_kind : Words
every_kind =
    table
    ((p := Cast (Malloc (Size 65537)) 2) ∷ (q := Address (Field (Sum (Read p) (Num 1)) 1)) ∷ (Deref (Read q) := Read (Var 2)) ∷ (Var 2 := Cast (Read q) 0)
    ∷ (q := Cast (Num 7) 3) ∷ (Var 2 := Copy (Sum (Read p) (Num 1)) (Read p)) ∷ [])

-- Some of its nodes, and their trees in edition 1 or, if so told, in edition 2.
abbrev pub roots : List ℕ
roots = 0 ∷ 3 ∷ 10 ∷ 13 ∷ 15 ∷ 19 ∷ 22 ∷ 30 ∷ []

unfoldable pub trees_of : (edition_2 : Bool) → List Tree
trees_of edition_2 =
    place (Variable 0 0)
    ∷ value (tree.Cast 3 true (tree.Malloc 2 (Number 1 5)))
    ∷ value (tree.Address 10 (tree.Field 9 2 3 (tree.Sum 8 edition_2 5 (tree.Read 6 true (Variable 5 0)) (Number 7 1))))
    ∷ place (tree.Deref 13 (tree.Read 12 true (Variable 11 1)))
    ∷ value (tree.Read 15 edition_2 (Variable 14 2))
    ∷ value (tree.Cast 19 edition_2 (tree.Read 18 true (Variable 17 1)))
    ∷ value (tree.Cast 22 edition_2 (Number 21 7))
    ∷ value (tree.Copy 30 5 (tree.Sum 27 edition_2 5 (tree.Read 25 true (Variable 24 0)) (Number 26 1)) (tree.Read 29 true (Variable 28 0)))
    ∷ []

-- ---- The value of each kind of tree, in a state of its own: word 1 is 5 with bounds [2, 4), word 2 is 9, U is 4, and memory has 6 words

abbrev pub small : State
small = record { values = 0 ∷ 5 ∷ 9 ∷ 0 ∷ 8 ∷ 8 ∷ []; bases = 0 ∷ 2 ∷ 0 ∷ 0 ∷ 8 ∷ 8 ∷ []; ends = 0 ∷ 4 ∷ 0 ∷ 0 ∷ 8 ∷ 8 ∷ []; unused = 4; log = [] }

abbrev datum_of : Outcome Datum → List Datum
datum_of (ok d s) = d ∷ []
datum_of (fails x s) = []
datum_of (no_room s) = []
datum_of (no_rule s) = []

pub record Worked : Type 0 where
  pub tree : Value
  pub datum : List Datum

unfoldable pub worked : Worked → Worked
worked x = record { tree = x.tree; datum = datum_of (value_at x.tree small) }

abbrev works_out : Value → Datum → Worked
works_out v d = record { tree = v; datum = d ∷ [] }

-- Word 1, a pointer.
abbrev pointer : Value
pointer = tree.Read 1 true (Variable 0 0)

unfoldable pub values : List Worked
values =
    works_out (Number 3 7) (unbounded 7)
    ∷ works_out pointer (bounded 5 2 4)
    ∷ works_out (tree.Read 1 false (Variable 0 0)) (unbounded 5)
    ∷ works_out (tree.Address 1 (Variable 0 1)) (bounded 2 2 3)
    ∷ works_out (tree.Sum 3 false 3 pointer (Number 2 4)) (bounded 17 2 4)
    ∷ works_out (tree.Sum 4 false 2 (Number 0 6) pointer) (unbounded 16)
    ∷ works_out (tree.Sum 3 true 3 pointer (Number 2 4)) (bounded 17 2 4)
    ∷ works_out (tree.Sum 4 true 2 (Number 0 6) pointer) (bounded 16 2 4)
    ∷ works_out (tree.Cast 2 true pointer) (bounded 5 2 4)
    ∷ works_out (tree.Cast 2 false pointer) (unbounded 5)
    ∷ works_out (tree.Malloc 1 (Number 0 2)) (bounded 4 4 6)
    ∷ works_out (tree.Malloc 1 (Number 0 0)) (unbounded 0)
    -- a block's words are clear, whatever stood there, and are read through its bounds
    ∷ works_out (tree.Read 3 true (tree.Deref 2 (tree.Malloc 1 (Number 0 2)))) (unbounded 0)
    -- checks and no room leave none
    ∷ record { tree = tree.Read 3 true (tree.Deref 2 pointer); datum = [] }
    ∷ record { tree = tree.Malloc 1 (Number 0 3); datum = [] }
    ∷ record { tree = NoValue; datum = [] }
    ∷ []

-- ---- A copy's tree in that state, with its whole outcome: a goes before b, and both before a's check, which goes before b's

-- Words 4 and 5, obtained; words 2 and 3, from word 1's pointer less 3.
abbrev block : Value
block = tree.Malloc 1 (Number 0 2)

abbrev two_words : Value
two_words = tree.Sum 5 false 1 (tree.Read 3 true (Variable 2 0)) (Number 4 4294967293)

abbrev pub copies : List Value
copies =
    tree.Copy 6 2 block two_words
    ∷ tree.Copy 6 3 block two_words
    ∷ tree.Copy 6 2 block (tree.Read 3 true (Variable 2 0))
    ∷ tree.Copy 6 2 block block
    ∷ tree.Copy 6 2 block NoValue
    ∷ tree.Copy 6 2 NoValue block
    ∷ []

-- The state after the block was obtained, with these values in it and these events since.
abbrev obtained : ℕ → ℕ → List Event → State
obtained v w log =
    record {
      values = 0 ∷ 5 ∷ 9 ∷ 0 ∷ v ∷ w ∷ [];
      bases = 0 ∷ 2 ∷ 0 ∷ 0 ∷ 0 ∷ 0 ∷ [];
      ends = 0 ∷ 4 ∷ 0 ∷ 0 ∷ 0 ∷ 0 ∷ [];
      unused = 6;
      log = log ++ (allocated 4 2 ∷ []);
    }

unfoldable pub copies_outcomes : List (Outcome Datum)
copies_outcomes =
    ok (unbounded 2)
    (obtained 9 0
    (stored 5 (followed (bounded 4 4 6)) ∷ stored 4 (followed (bounded 4 4 6)) ∷ loaded 3 (followed (bounded 2 2 4)) ∷ loaded 2 (followed (bounded 2 2 4))
    ∷ tested (check 6 2 2 2 4) ∷ tested (check 6 4 2 4 6) ∷ loaded 1 (named 0) ∷ []))
    ∷ fails (check 6 4 3 4 6) (obtained 0 0 (tested (check 6 4 3 4 6) ∷ loaded 1 (named 0) ∷ []))
    ∷ fails (check 6 5 2 2 4) (obtained 0 0 (tested (check 6 5 2 2 4) ∷ tested (check 6 4 2 4 6) ∷ loaded 1 (named 0) ∷ []))
    ∷ no_room (obtained 0 0 [])
    ∷ no_rule (obtained 0 0 [])
    ∷ no_rule small
    ∷ []

-- ---- The step of a copy, by node 9: memory of 8 words, U 7; word w has the value 10 + w, the base 20 + w and the end 30 + w, and word 0 none of these

-- The words from 1 on by their values, which tell their bases and ends too.
abbrev memory_of : Words → List Event → State
memory_of ws log = record { values = 0 ∷ ws; bases = 0 ∷ map (λ v. 10 + v) ws; ends = 0 ∷ map (λ v. 20 + v) ws; unused = 7; log = log }

abbrev at_first : Words
at_first = 11 ∷ 12 ∷ 13 ∷ 14 ∷ 15 ∷ 16 ∷ 17 ∷ []

abbrev earlier : List Event
earlier = allocated 4 3 ∷ []

-- A record's words, the pointers a and b, and the copy's outcome.
pub record Step : Type 0 where
  pub words : ℕ
  pub a : Datum
  pub b : Datum
  pub outcome : Outcome Datum

unfoldable pub stepped : Step → Step
stepped c = record { words = c.words; a = c.a; b = c.b; outcome = copy_step 9 c.words c.a c.b (memory_of at_first earlier) }

-- The event of a pointer's check for k words, after these; and of both checks, newest first.
abbrev tests : ℕ → Datum → List Event → List Event
tests k d log = tested (check 9 d.value k d.base d.end) ∷ log

abbrev both_tests : ℕ → Datum → Datum → List Event
both_tests k a b = tests k b (tests k a earlier)

-- Three words: "for a word read the pointer followed is b, for a word written it is a".
abbrev of_three : Datum → Datum → List Event
of_three a b =
    stored (a.value + 2) (followed a) ∷ stored (a.value + 1) (followed a) ∷ stored a.value (followed a)
    ∷ loaded (b.value + 2) (followed b) ∷ loaded (b.value + 1) (followed b) ∷ loaded b.value (followed b)
    ∷ both_tests 3 a b

abbrev step : ℕ → Datum → Datum → Outcome Datum → Step
step k a b o = record { words = k; a = a; b = b; outcome = o }

abbrev copies_three : Datum → Datum → Words → Step
copies_three a b ws = step 3 a b (ok (unbounded 3) (memory_of ws (of_three a b)))

-- "then a's place is checked for the record's size, then b's": where a's is not passed b's isn't made, and nothing is written
abbrev fails_at_a : ℕ → Datum → Datum → Step
fails_at_a k a b = step k a b (fails (check 9 a.value k a.base a.end) (memory_of at_first (tests k a earlier)))

abbrev fails_at_b : ℕ → Datum → Datum → Step
fails_at_b k a b = step k a b (fails (check 9 b.value k b.base b.end) (memory_of at_first (both_tests k a b)))

abbrev has_no_rule : ℕ → Datum → Datum → Step
has_no_rule k a b = step k a b (no_rule (memory_of at_first (both_tests k a b)))

unfoldable pub steps : List Step
steps =
    -- "The words at b go to a, with value, base and end": bounds of just these words, and of more
    copies_three (bounded 1 1 4) (bounded 4 4 7) (14 ∷ 15 ∷ 16 ∷ 14 ∷ 15 ∷ 16 ∷ 17 ∷ [])
    ∷ copies_three (bounded 4 3 7) (bounded 1 1 5) (11 ∷ 12 ∷ 13 ∷ 11 ∷ 12 ∷ 13 ∷ 17 ∷ [])
    -- "even where the two overlap"
    ∷ copies_three (bounded 3 1 7) (bounded 2 2 5) (11 ∷ 12 ∷ 12 ∷ 13 ∷ 14 ∷ 16 ∷ 17 ∷ [])
    ∷ copies_three (bounded 4 1 7) (bounded 2 2 5) (11 ∷ 12 ∷ 13 ∷ 12 ∷ 13 ∷ 14 ∷ 17 ∷ [])
    ∷ copies_three (bounded 2 1 7) (bounded 3 2 6) (11 ∷ 13 ∷ 14 ∷ 15 ∷ 15 ∷ 16 ∷ 17 ∷ [])
    ∷ copies_three (bounded 2 1 7) (bounded 4 2 7) (11 ∷ 14 ∷ 15 ∷ 16 ∷ 15 ∷ 16 ∷ 17 ∷ [])
    ∷ copies_three (bounded 2 1 7) (bounded 2 2 5) at_first
    -- one word, and none
    ∷ step 1 (bounded 6 6 7) (bounded 1 1 2)
    (ok (unbounded 1) (memory_of (11 ∷ 12 ∷ 13 ∷ 14 ∷ 15 ∷ 11 ∷ 17 ∷ [])
    (stored 6 (followed (bounded 6 6 7)) ∷ loaded 1 (followed (bounded 1 1 2)) ∷ both_tests 1 (bounded 6 6 7) (bounded 1 1 2))))
    ∷ step 0 (unbounded 0) (unbounded 7) (ok (unbounded 0) (memory_of at_first (both_tests 0 (unbounded 0) (unbounded 7))))
    -- a's place: a word too few, a word further on, a word before the base, no bounds; also where b's would not be passed
    ∷ fails_at_a 3 (bounded 1 1 3) (bounded 4 4 7)
    ∷ fails_at_a 3 (bounded 2 1 4) (bounded 4 4 7)
    ∷ fails_at_a 3 (bounded 1 2 7) (bounded 4 4 7)
    ∷ fails_at_a 3 (unbounded 1) (bounded 4 4 7)
    ∷ fails_at_a 3 (bounded 1 1 3) (bounded 4 4 6)
    ∷ fails_at_a 1 (bounded 4 1 4) (unbounded 1)
    -- b's place
    ∷ fails_at_b 3 (bounded 1 1 4) (bounded 4 4 6)
    ∷ fails_at_b 3 (bounded 1 1 4) (bounded 5 4 7)
    ∷ fails_at_b 3 (bounded 1 1 4) (bounded 3 4 7)
    ∷ fails_at_b 3 (bounded 1 1 4) (unbounded 4)
    ∷ fails_at_b 1 (bounded 1 1 2) (bounded 4 1 4)
    -- "Reading or assigning word 0, or a word not below U, has no rule", by bounds that no run has: only the first word, and only the last
    ∷ has_no_rule 3 (bounded 0 0 8) (bounded 4 4 7)
    ∷ has_no_rule 3 (bounded 5 0 8) (bounded 1 1 4)
    ∷ has_no_rule 3 (bounded 4 4 7) (bounded 0 0 8)
    ∷ has_no_rule 3 (bounded 1 1 4) (bounded 5 0 8)
    ∷ has_no_rule 1 (bounded 7 7 8) (bounded 1 1 2)
    ∷ has_no_rule 1 (bounded 1 1 2) (bounded 7 7 8)
    ∷ []

-- ---- Registers of none, one and two words for variable 1 in that state: the words from U on are dirty there, and only the register's are cleared

unfoldable pub registered : List State
registered =
    record { values = 0 ∷ 5 ∷ 0 ∷ 0 ∷ 8 ∷ 8 ∷ []; bases = 0 ∷ 2 ∷ 0 ∷ 0 ∷ 8 ∷ 8 ∷ []; ends = 0 ∷ 4 ∷ 0 ∷ 0 ∷ 8 ∷ 8 ∷ []; unused = 4; log = [] }
    ∷ record { values = 0 ∷ 5 ∷ 4 ∷ 0 ∷ 70 ∷ 8 ∷ []; bases = 0 ∷ 2 ∷ 4 ∷ 0 ∷ 0 ∷ 8 ∷ []; ends = 0 ∷ 4 ∷ 5 ∷ 0 ∷ 0 ∷ 8 ∷ []; unused = 5; log = allocated 4 1 ∷ [] }
    ∷ record { values = 0 ∷ 5 ∷ 4 ∷ 0 ∷ 70 ∷ 80 ∷ []; bases = 0 ∷ 2 ∷ 4 ∷ 0 ∷ 0 ∷ 0 ∷ []; ends = 0 ∷ 4 ∷ 6 ∷ 0 ∷ 0 ∷ 0 ∷ []; unused = 6; log = allocated 4 2 ∷ [] }
    ∷ []

-- ---- "touching a word with no rule is a fourth ending": it ends the run at that command. No run that is begun comes there.

-- Commands run from a memory of 20 words with this first unused word.
pub record Wild : Type 0 where
  pub table : Words
  pub commands : ℕ
  pub unused : ℕ
  pub ending : Ending

abbrev from_unused : ℕ → State
from_unused u = record { values = replicate 20 0; bases = replicate 20 0; ends = replicate 20 0; unused = u; log = [] }

unfoldable pub wild : Wild → Wild
wild x =
    record {
      table = x.table;
      commands = x.commands;
      unused = x.unused;
      ending = (commands_below x.table x.commands (from_unused x.unused)).ending;
    }

unfoldable pub wild_runs : List Wild
wild_runs =
    -- x = 1; x = 2, with U past x's word and at it
    record { table = table ((Var 2 := Num 1) ∷ (Var 2 := Num 2) ∷ []); commands = 2; unused = 4; ending = done }
    ∷ record { table = table ((Var 2 := Num 1) ∷ (Var 2 := Num 2) ∷ []); commands = 2; unused = 3; ending = stuck 0 }
    -- the second of three
    ∷ record { table = table ((p := Read p) ∷ (q := Read p) ∷ (p := Read p) ∷ []); commands = 3; unused = 2; ending = stuck 1 }
    -- a node of no kind, as a value and as a place
    ∷ record { table = 0 ∷ 0 ∷ 0 ∷ 1 ∷ 0 ∷ 2 ∷ 1 ∷ 0 ∷ 0 ∷ 12 ∷ 0 ∷ 0 ∷ 1 ∷ 0 ∷ 1 ∷ []; commands = 1; unused = 2; ending = stuck 0 }
    ∷ record { table = 0 ∷ 0 ∷ 0 ∷ 1 ∷ 0 ∷ 2 ∷ 12 ∷ 0 ∷ 0 ∷ 4 ∷ 0 ∷ 0 ∷ 1 ∷ 0 ∷ 1 ∷ []; commands = 1; unused = 2; ending = stuck 0 }
    ∷ []
