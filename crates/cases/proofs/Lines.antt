-- What is known of a line that is being read, from one call to the next.
use Prim.Native.Nat.{ℕ, ◌≤◌}
use mathlib.Core.List.{List, [], ◌++◌}
use mathlib.Core.Path.{◌≡◌}
use lib.ListN.{length}
use Rattle.text.specs.Scan.{Scanned, Scans, Finishes}
use Rattle.text.specs.declared.Scanner.{Scanner}
use Rattle.text.specs.declared.State.TheVariants.{Bad}
use Rattle.cases.specs.Lines.{ScansLine}

pub before_line : {list : List ℕ} {s : Scanner} → Scanned [] list s → ScansLine list s
before_line h = record { text = []; scanned = h }

pub next_in_line : {chunk list list' : List ℕ} {s r : Scanner} → ScansLine list s → Scans chunk s list r list' → ScansLine list' r
next_in_line {chunk} h k = record { text = h.text ++ chunk; scanned = k.meets h.text h.scanned }

pub count_within : {list list' : List ℕ} {s r : Scanner} → ScansLine list s → Finishes s list r list' → (r.state ≡ Bad → ⊥) → r.count ≤ length list'
count_within h k good = ((k.meets h.text h.scanned).good good).0
