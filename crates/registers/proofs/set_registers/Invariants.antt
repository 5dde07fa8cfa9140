-- The loop's invariant: the registers that have come are in memory.
use Rattle.std.proofs.Common.{◌≡◌, length}
use Rattle.registers.specs.Blocks.{RegistersSet}
use Rattle.registers.proofs.set_registers.Given as goal

abbrev pub invariant-loop-register : goal.invariant-loop-register
invariant-loop-register l =
    record {
      list : l.register-iterator.list.now ≡ l.list;
      set : RegistersSet l.list l.register-iterator.index l.initial.values l.initial.bases l.initial.ends l.first l.values l.bases l.ends l.at;
      values_length : length l.values ≡ length l.initial.values;
      bases_length : length l.bases ≡ length l.initial.bases;
      ends_length : length l.ends ≡ length l.initial.ends;
    }
