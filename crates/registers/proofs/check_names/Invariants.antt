-- The loop's invariant: the registers that have come pass, and their variables are marked.
use Rattle.std.proofs.Common.{◌≡◌}
use Rattle.semantics.specs.Check.{passes, each, name_fault}
use Rattle.registers.proofs.Lists.{Marked}
use Rattle.registers.proofs.check_names.Given as goal

abbrev pub invariant-loop-register : goal.invariant-loop-register
invariant-loop-register l =
    record { list : l.register-iterator.list.now ≡ l.list; pass : each l.register-iterator.index (name_fault l.t l.list) ≡ passes; marked : Marked l.list l.named l.register-iterator.index }
