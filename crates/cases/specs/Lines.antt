-- A line that is being read, and what is done with lines that were.
use Rattle.std.specs.Prelude.{ℕ, List}
use Rattle.text.specs.Scan.{Scanned}
use Rattle.text.specs.declared.Scanner.{Scanner}

-- The scanner and its list know the numbers of some text: the line so far.
pub record ScansLine (list : List ℕ) (s : Scanner) : Type 0 where
  pub text : List ℕ
  pub scanned : Scanned text list s

-- From state to state of a step: it is taken some times, one after the other, and each time at something that fits.
pub data Taken {P X : Type 0} (step : P → X → P → Type 0) (Fits : X → Type 0) (first : P) : P → Type 0 where
  taken_never : Taken step Fits first first
  taken_again : {p q : P} (x : X) → Taken step Fits first p → Fits x → step p x q → Taken step Fits first q
