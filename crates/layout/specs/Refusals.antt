-- What the answers of the code say, as the definitions of the crate semantics have it: the number of each fault, and a refusal by number and place.
use Rattle.std.specs.Prelude.{ℕ, Result, Ok, Err, ⊤}
use Rattle.semantics.specs.Check as check
use Rattle.semantics.specs.Check.{passes}
use Rattle.layout.specs.declared.Fault.{Fault}
use Rattle.layout.specs.declared.Fault.TheVariants.{CutShort, WordsOver, OverLimit, WrongCount, UnknownType, SameTarget, Operand, Types, Uses, Lengths, Input, RegisterList, RegisterVariable, RegisterRoom, Edition}
use Rattle.layout.specs.declared.Refusal.{Refusal}

-- The number of each fault.
abbrev pub number_of : Fault → ℕ
number_of CutShort = 1
number_of WordsOver = 2
number_of OverLimit = 3
number_of WrongCount = 4
number_of UnknownType = 5
number_of SameTarget = 6
number_of Operand = 7
number_of Types = 8
number_of Uses = 9
number_of Lengths = 10
number_of Input = 11
number_of RegisterList = 13
number_of RegisterVariable = 14
number_of RegisterRoom = 15
number_of Edition = 16

-- What an answer says where all is well: nothing more, or a value.
pub data Outcome (A : Type 0) : Type 0 where
  is : A → Outcome A
  refused : ℕ → ℕ → Outcome A

-- An answer with a value: the value, or number and place.
abbrev pub outcome_of : {A : Type 0} → Result A Refusal → Outcome A
outcome_of (Ok x) = is x
outcome_of (Err r) = refused (number_of r.fault) r.place

-- An answer without a value: that all passes, or number and place.
abbrev pub verdict_of : Result ⊤ Refusal → check.Verdict
verdict_of (Ok _) = passes
verdict_of (Err r) = check.refused (number_of r.fault) r.place
