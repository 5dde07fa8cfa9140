-- Where the parts of a case lie in its numbers.
use Prim.Native.Nat.{ℕ, ◌+◌, ◌<◌}
use mathlib.Core.List.{List}
use mathlib.Core.Path.{ap}
use native.Mathlib.Omega.{arith}
use lib.ListN.{length, length-append, length-drop}
use Rattle.cases.specs.Cases.{StartsWith, Within}
use Rattle.cases.specs.declared.Program.{Program}

module _ {numbers : List ℕ} {p : Program} {rest : List ℕ} (h : StartsWith numbers p rest) where
  pub parts_within : Within numbers (8 + length p.inputs.now) (9 + length p.inputs.now + length p.registers.now)
  parts_within =
      let size = simp (length-append, length-drop) at (ap length h.parts) in
      (omega arith, omega arith, omega (arith, h.six, size))

  pub rest_shorter : length rest < length numbers
  rest_shorter = let size = simp (length-append, length-drop) at (ap length h.parts) in omega (arith, h.six, size)
