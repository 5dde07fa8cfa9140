-- The loop's invariant: the registers that have come fit.
use Rattle.std.proofs.Common.{◌≤◌, ◌≡◌}
use Rattle.semantics.specs.Registers.{register_start}
use Rattle.semantics.specs.Check.{passes, each, room_fault}
use Rattle.registers.proofs.check_room.Given as goal

abbrev pub invariant-loop-register : goal.invariant-loop-register
invariant-loop-register l =
    record {
      list : l.register-iterator.list.now ≡ l.list;
      end : l.end ≡ register_start l.first l.list l.register-iterator.index;
      room : l.end ≤ l.memory;
      pass : each l.register-iterator.index (room_fault l.first l.list l.memory) ≡ passes;
    }
