-- The records before i pass.
use Rattle.std.proofs.Common.{◌≡◌}
use Rattle.semantics.specs.Check.{passes, each, record_fault}
use Rattle.layout.proofs.check_records.Given as goal

abbrev pub invariant-loop-i : goal.invariant-loop-i
invariant-loop-i l = each l.i (record_fault l.t) ≡ passes
