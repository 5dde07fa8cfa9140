-- The variables before i pass.
use Rattle.std.proofs.Common.{◌≡◌}
use Rattle.semantics.specs.Check.{passes, each, variable_fault}
use Rattle.layout.proofs.check_variables.Given as goal

abbrev pub invariant-loop-i : goal.invariant-loop-i
invariant-loop-i l = each l.i (variable_fault l.t) ≡ passes
