-- The loop's invariant: the registers before i stand in the list.
use Rattle.std.proofs.Common.{◌≤◌, ◌≡◌}
use Rattle.semantics.specs.Registers.{register_place}
use Rattle.registers.proofs.check_extent.Given as goal

abbrev pub invariant-loop-i : goal.invariant-loop-i
invariant-loop-i l = (l.i ≤ l.count) × (l.p ≡ register_place l.list l.i) × (l.p ≤ l.n)
