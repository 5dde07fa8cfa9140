-- The fields before i pass.
use Rattle.std.proofs.Common.{◌≡◌}
use Rattle.semantics.specs.Check.{passes, each, field_fault}
use Rattle.layout.proofs.check_fields.Given as goal

abbrev pub invariant-loop-i : goal.invariant-loop-i
invariant-loop-i l = each l.i (field_fault l.t) ≡ passes
