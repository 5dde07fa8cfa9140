-- Laws of what is read.
use Rattle.std.proofs.Common.{ControlFlow, Continue, Break}
use Prim.Native.Nat.{ℕ}
use mathlib.Core.List.{List, [], ◌++◌, append-nil}
use mathlib.Core.Path.{◌≡◌, refl}
use Rattle.text.specs.Scan.{take_bytes}
use Rattle.text.specs.declared.Scanner.{Scanner}
use Rattle.bench.specs.Input.{scanner_of, Reads, Read}

module _ (s : Scanner) (list : List ℕ) where
  pub reads_none : Reads s list list (Break s)
  unfolding take_bytes
  reads_none = record { chunk = []; scans = record { does = refl; meets = λ text h. rw (append-nil text) h }; more = refl }

module _ {s : Scanner} {list list' : List ℕ} {r : ControlFlow Scanner Scanner} (before : Read list s) (more : Reads s list list' r) where
  read_on : Read list' (scanner_of r)
  read_on = record { text = before.text ++ more.chunk; scanned = more.scans.meets before.text before.scanned }

  pub read_more : {t : Scanner} → r ≡ Continue t → Read list' t
  read_more e = rw e at read_on

  pub read_all : {t : Scanner} → r ≡ Break t → Read list' t
  read_all e = rw e at read_on
