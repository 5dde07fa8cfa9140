-- The loop's invariant: the registers that have come are in memory.
use Rattle.std.proofs.Common.{◌≡◌, length}
use Rattle.registers.specs.Blocks.{RegistersPlaced}
use Rattle.registers.proofs.place_registers.Given as goal

abbrev pub invariant-loop-register : goal.invariant-loop-register
invariant-loop-register l =
    record {
      list : l.register-iterator.list.now ≡ l.list;
      placed : RegistersPlaced l.list l.register-iterator.index l.initial.values l.first l.values l.at;
      values_length : length l.values ≡ length l.initial.values;
    }
