-- Where the parts of a case lie.
use Rattle.std.specs.Prelude.{ℕ, ◌≤◌, ◌<◌, ◌≡◌, List, ◌∷◌, ◌++◌, [], Option, Some, None, length, drop, slice_index}
use Rattle.cases.specs.declared.Program.{Program}
use Rattle.cases.specs.declared.Case.{Case}
use Rattle.cases.specs.declared.Case.TheVariants.{Run, Check, Explain, Bare}

-- Some numbers are words after their count, and then a rest.
abbrev pub Counted : (words rest numbers : List ℕ) → Type 0
Counted words rest numbers = numbers ≡ length words ∷ words ++ rest

-- Some numbers start with six words, and then the inputs of a program, its register list and its table, each after its count; then there is a
-- rest. The words from 2 to 4 are the lengths of the lists that it lends.
pub record StartsWith (numbers : List ℕ) (p : Program) (rest : List ℕ) : Type 0 where
  pub six : 6 ≤ length numbers
  pub values : p.values ≡ slice_index numbers 2
  pub bases : p.bases ≡ slice_index numbers 3
  pub ends : p.ends ≡ slice_index numbers 4
  pub parts : drop 6 numbers
      ≡ length p.inputs.now ∷ p.inputs.now ++ (length p.registers.now ∷ p.registers.now ++ (length p.table.now ∷ p.table.now ++ rest))

-- The register list of a case starts after eight numbers and the inputs, and the table after the list and its own count.
abbrev pub Within : List ℕ → (list from : ℕ) → Type 0
Within numbers list from = (8 ≤ list) × (list < from) × (from ≤ length numbers)

-- Where some numbers are a case, they are all its own.
abbrev pub Parsed : List ℕ → Option Case → Type 0
Parsed numbers None = Unit {0}
Parsed numbers (Some (Run p)) = StartsWith numbers p []
Parsed numbers (Some (Check t)) = (p : Program) × StartsWith numbers p [] × (p.table.now ≡ t.now)
Parsed numbers (Some (Explain p)) = StartsWith numbers p []
Parsed numbers (Some (Bare p)) = StartsWith numbers p []
