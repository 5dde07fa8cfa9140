-- What is known of standard input: that it is some text. Which bytes a read gives is the operating system's to say.
use Rattle.std.specs.Prelude.{ℕ, ◌≤◌, Bool, true, false, List, ◌≡◌, Option, Some, ltb, length}
use Rattle.std.specs.declared.ops.ControlFlow.{ControlFlow}
use Rattle.std.specs.declared.ops.ControlFlow.TheVariants.{Continue, Break}
use Rattle.text.specs.Scan.{Scanned, Scans}
use Rattle.text.specs.declared.Scanner.{Scanner}
use Rattle.console.specs.Output.{output_of, over, has_room}
use Rattle.steps.specs.declared.Memory.{Memory}

abbrev pub scanner_of : ControlFlow Scanner Scanner → Scanner
scanner_of (Continue s) = s
scanner_of (Break s) = s

abbrev pub goes_on : ControlFlow Scanner Scanner → Bool
goes_on (Continue s) = true
goes_on (Break s) = false

-- One read: a chunk of the text has been scanned. There is no more text where it is empty.
pub record Reads (s : Scanner) (list list' : List ℕ) (r : ControlFlow Scanner Scanner) : Type 0 where
  pub chunk : List ℕ
  pub scans : Scans chunk s list (scanner_of r) list'
  pub more : goes_on r ≡ ltb 0 (length chunk)

-- All of it: a text has been scanned.
pub record Read (list : List ℕ) (s : Scanner) : Type 0 where
  pub text : List ℕ
  pub scanned : Scanned text list s

-- Room for the numbers of a text is given, and for what is printed: then what stands in `out` at the end is what the bench program prints
-- for the text that was read.
pub record AnswersInput (numbers : List ℕ) (m : Memory) (out out' : List ℕ) (r : Option ℕ) : Type 0 where
  pub text : List ℕ
  pub prints : 2538 ≤ length numbers → has_room (length m.values.now) (length m.bases.now) (length m.ends.now) (length out) ≡ true
      → (r ≡ Some (length (output_of text))) × (out' ≡ over (output_of text) out)
