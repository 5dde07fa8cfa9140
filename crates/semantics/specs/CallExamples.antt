-- What a call is refused for when its table passes: document 01's 10 and 11, and request 1's 13 to 15. Lengths of lists are numbers here, so
-- that memory of 65,536 words can be spoken of. proofs/Examples.antt computes the lists.
use Rattle.std.specs.Prelude.{ℕ, List, [], ◌∷◌, ◌++◌, replicate}
use Rattle.semantics.specs.Words.{Words}
use Rattle.semantics.specs.Check.{Verdict, passes, refused}
use Rattle.semantics.specs.Run.{refusal}
use Rattle.semantics.specs.ExampleTables.{types, section, num, Var, Num, Malloc, ◌:=◌, routine, Request, Example, no_registers}

-- ---- 10 and 11: memory and inputs

-- Four variables: int, void*, int, int*.
abbrev four_variables : Words
four_variables = types [] (0 ∷ 2 ∷ []) (0 ∷ 1 ∷ 0 ∷ 2 ∷ []) ++ routine []

abbrev lends : ℕ → ℕ → ℕ → Verdict → Request
lends values bases ends v =
    record { table = four_variables; inputs = replicate 4 0; registers = no_registers; values = values; bases = bases; ends = ends; verdict = v }

abbrev hands : Words → Verdict → Request
hands inputs v =
    record { table = four_variables; inputs = inputs; registers = no_registers; values = 5; bases = 5; ends = 5; verdict = v }

-- All arguments, memory of one length.
abbrev asks : Words → Words → Words → ℕ → Verdict → Request
asks t inputs registers len v =
    record { table = t; inputs = inputs; registers = registers; values = len; bases = len; ends = len; verdict = v }

unfoldable pub arguments : List Request
arguments =
    -- "the length isn't from 1 + variables to 65,536"
    lends 5 5 5 passes
    ∷ lends 4 4 4 (refused 10 0)
    ∷ lends 65536 65536 65536 passes
    ∷ lends 65537 65537 65537 (refused 10 0)
    -- "the three lists differ in length", each from the two others
    ∷ lends 7 6 6 (refused 10 0)
    ∷ lends 6 7 6 (refused 10 0)
    ∷ lends 6 6 7 (refused 10 0)
    ∷ lends 6 7 7 (refused 10 0)
    ∷ lends 7 6 7 (refused 10 0)
    ∷ lends 7 7 6 (refused 10 0)
    -- "input count not the variable count", at "the number of variables"
    ∷ hands (0 ∷ 0 ∷ 0 ∷ []) (refused 11 4)
    ∷ hands (0 ∷ 0 ∷ 0 ∷ 0 ∷ 0 ∷ []) (refused 11 4)
    ∷ hands [] (refused 11 4)
    -- "a pointer's input not 0", at "the number of the first pointer input that isn't 0"; an int's may be any word
    ∷ hands (4294967295 ∷ 0 ∷ 1 ∷ 0 ∷ []) passes
    ∷ hands (0 ∷ 1 ∷ 0 ∷ 0 ∷ []) (refused 11 1)
    ∷ hands (5 ∷ 0 ∷ 5 ∷ 4294967295 ∷ []) (refused 11 3)
    ∷ hands (5 ∷ 9 ∷ 5 ∷ 9 ∷ []) (refused 11 1)
    ∷ asks (types [] [] (0 ∷ 0 ∷ 0 ∷ 0 ∷ 1 ∷ []) ++ routine []) (0 ∷ 0 ∷ 0 ∷ 0 ∷ 9 ∷ []) no_registers 6 (refused 11 4)
    -- the count first
    ∷ hands (5 ∷ 9 ∷ 5 ∷ []) (refused 11 4)
    -- the check before 10, 10 before 11, 11 before 13
    ∷ asks (types [] [] [] ++ section (num 7 ∷ []) ++ (0 ∷ [])) [] no_registers 0 (refused 9 5)
    ∷ asks four_variables [] no_registers 4 (refused 10 0)
    ∷ asks four_variables [] [] 5 (refused 11 4)
    ∷ asks four_variables (0 ∷ 0 ∷ 0 ∷ 1 ∷ []) (17 ∷ []) 5 (refused 11 3)
    ∷ []

-- ---- 13 to 15: registers

-- Pointers 0, 2 and 3, and an int, 1. Variables begin at word 1, so registers at word 5.
abbrev registers_give : Words → ℕ → Verdict → Request
registers_give l len v = asks (types [] (0 ∷ []) (1 ∷ 0 ∷ 2 ∷ 1 ∷ []) ++ routine []) (replicate 4 0) l len v

-- As many pointers as n, and this list.
abbrev pointers_give : ℕ → Words → ℕ → Verdict → Request
pointers_give n l len v = asks (types [] [] (replicate n 1) ++ routine []) (replicate n 0) l len v

-- Registers of no words, one for each of 16 variables, from the last to the first.
abbrev sixteen : Words
sixteen =
    15 ∷ 0 ∷ 14 ∷ 0 ∷ 13 ∷ 0 ∷ 12 ∷ 0 ∷ 11 ∷ 0 ∷ 10 ∷ 0 ∷ 9 ∷ 0 ∷ 8 ∷ 0
    ∷ 7 ∷ 0 ∷ 6 ∷ 0 ∷ 5 ∷ 0 ∷ 4 ∷ 0 ∷ 3 ∷ 0 ∷ 2 ∷ 0 ∷ 1 ∷ 0 ∷ 0 ∷ 0 ∷ []

unfoldable pub register_lists : List Request
register_lists =
    -- "a count of registers, at most 16"
    pointers_give 16 (16 ∷ sixteen) 17 passes
    ∷ pointers_give 17 (17 ∷ 16 ∷ 0 ∷ sixteen) 18 (refused 13 0)
    -- three registers that fill memory, of 2, 0 and 3 words; each word that is cut, and one over
    ∷ registers_give (3 ∷ 3 ∷ 2 ∷ 7 ∷ 7 ∷ 0 ∷ 0 ∷ 2 ∷ 3 ∷ 7 ∷ 7 ∷ 7 ∷ []) 10 passes
    ∷ registers_give (3 ∷ 3 ∷ 2 ∷ 7 ∷ 7 ∷ 0 ∷ 0 ∷ 2 ∷ 3 ∷ 7 ∷ 7 ∷ []) 10 (refused 13 11)
    ∷ registers_give (3 ∷ 3 ∷ 2 ∷ 7 ∷ 7 ∷ 0 ∷ 0 ∷ 2 ∷ []) 10 (refused 13 8)
    ∷ registers_give (3 ∷ 3 ∷ 2 ∷ 7 ∷ 7 ∷ 0 ∷ 0 ∷ []) 10 (refused 13 7)
    ∷ registers_give (3 ∷ 3 ∷ 2 ∷ 7 ∷ 7 ∷ []) 10 (refused 13 5)
    ∷ registers_give (3 ∷ 3 ∷ 2 ∷ 7 ∷ 7 ∷ 0 ∷ 0 ∷ 2 ∷ 3 ∷ 7 ∷ 7 ∷ 7 ∷ 0 ∷ 0 ∷ []) 10 (refused 13 12)
    -- the middle one is unknown, an int, named before; "the first variable word at fault"
    ∷ registers_give (3 ∷ 3 ∷ 2 ∷ 7 ∷ 7 ∷ 4 ∷ 0 ∷ 1 ∷ 0 ∷ []) 10 (refused 14 5)
    ∷ registers_give (3 ∷ 3 ∷ 2 ∷ 7 ∷ 7 ∷ 1 ∷ 0 ∷ 4 ∷ 0 ∷ []) 10 (refused 14 5)
    ∷ registers_give (3 ∷ 3 ∷ 2 ∷ 7 ∷ 7 ∷ 3 ∷ 0 ∷ 1 ∷ 0 ∷ []) 10 (refused 14 5)
    ∷ registers_give (3 ∷ 3 ∷ 2 ∷ 7 ∷ 7 ∷ 0 ∷ 0 ∷ 3 ∷ 0 ∷ []) 10 (refused 14 7)
    ∷ registers_give (3 ∷ 3 ∷ 2 ∷ 7 ∷ 7 ∷ 0 ∷ 0 ∷ 0 ∷ 0 ∷ []) 10 (refused 14 7)
    ∷ registers_give (1 ∷ 4294967295 ∷ 0 ∷ []) 10 (refused 14 1)
    ∷ asks (types [] [] (1 ∷ []) ++ routine ((Var 0 := Malloc (Num 1)) ∷ [])) (0 ∷ []) (1 ∷ 1 ∷ 0 ∷ []) 10 (refused 14 1)
    -- the first, the middle, the last doesn't fit, by one word; a register of no words fits where those before it do
    ∷ registers_give (3 ∷ 3 ∷ 2 ∷ 7 ∷ 7 ∷ 0 ∷ 1 ∷ 7 ∷ 2 ∷ 0 ∷ []) 6 (refused 15 2)
    ∷ registers_give (3 ∷ 3 ∷ 2 ∷ 7 ∷ 7 ∷ 0 ∷ 1 ∷ 7 ∷ 2 ∷ 0 ∷ []) 7 (refused 15 6)
    ∷ registers_give (3 ∷ 3 ∷ 2 ∷ 7 ∷ 7 ∷ 0 ∷ 0 ∷ 2 ∷ 1 ∷ 7 ∷ []) 7 (refused 15 8)
    ∷ registers_give (3 ∷ 3 ∷ 2 ∷ 7 ∷ 7 ∷ 0 ∷ 0 ∷ 2 ∷ 0 ∷ []) 7 passes
    ∷ registers_give (1 ∷ 3 ∷ 1 ∷ 7 ∷ []) 5 (refused 15 2)
    -- "in that order": 13 before 14 before 15, each over the whole list before the next
    ∷ registers_give (2 ∷ 4 ∷ 9 ∷ 7 ∷ []) 5 (refused 13 4)
    ∷ registers_give (2 ∷ 3 ∷ 1 ∷ 7 ∷ 3 ∷ 0 ∷ []) 5 (refused 14 4)
    ∷ []

-- ---- Lists of different lengths, and "writes nowhere"

-- A call of the table without entries over these lists is refused with 10, and the lists stay.
abbrev refused_over : Words → Words → Words → Example
refused_over values bases ends =
    record {
      table = replicate 6 0;
      inputs = [];
      registers = no_registers;
      values = values;
      bases = bases;
      ends = ends;
      result = record { answer = refusal 10 0; values = values; bases = bases; ends = ends };
    }

unfoldable pub unequal_lists : List Example
unequal_lists =
    refused_over (1 ∷ 2 ∷ []) (3 ∷ 4 ∷ []) (5 ∷ [])
    ∷ refused_over (1 ∷ 2 ∷ []) (3 ∷ []) (5 ∷ 6 ∷ [])
    ∷ refused_over (1 ∷ []) (3 ∷ 4 ∷ []) (5 ∷ 6 ∷ [])
    ∷ []
