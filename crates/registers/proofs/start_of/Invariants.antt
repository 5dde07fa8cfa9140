-- The loop's invariant: w is past the registers that have come.
use Rattle.std.proofs.Common.{◌≤◌, ◌≡◌}
use Rattle.semantics.specs.Registers.{register_start}
use Rattle.registers.proofs.start_of.Given as goal

abbrev pub invariant-loop-register : goal.invariant-loop-register
invariant-loop-register l = record { list : l.register-iterator.list.now ≡ l.list; at : l.at ≡ register_start l.first l.list l.register-iterator.index; past : l.at ≤ l.w }
