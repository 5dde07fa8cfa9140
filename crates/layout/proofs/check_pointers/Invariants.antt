-- The entries before i pass and are noted.
use Rattle.std.proofs.Common.{◌≡◌, length}
use Rattle.semantics.specs.Check.{passes, each, pointer_fault}
use Rattle.layout.specs.Types.{Marks, marked}
use Rattle.layout.proofs.check_pointers.Given as goal

abbrev pub invariant-loop-i : goal.invariant-loop-i
invariant-loop-i l =
    record { pass : each l.i (pointer_fault l.t) ≡ passes; room : length l.entry ≡ 98; marks : Marks l.t l.entry l.i; list : l.entry ≡ marked l.t l.i l.initial.entry }
