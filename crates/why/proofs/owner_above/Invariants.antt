-- w is past the registers that have come.
use Rattle.std.proofs.Common.{◌≡◌, ◌+◌, ◌≤◌}
use Rattle.semantics.specs.Registers.{register_start}
use Rattle.why.proofs.Owners.{Past}
use Rattle.why.proofs.owner_above.Given as goal

abbrev pub invariant-loop-register : goal.invariant-loop-register
invariant-loop-register l =
    record {
      list : l.register-iterator.list.now ≡ l.list;
      end : l.end ≡ register_start l.first l.list l.register-iterator.index;
      room : l.end ≤ l.first + l.w;
      past : Past l.first l.list l.w l.register-iterator.index;
    }
