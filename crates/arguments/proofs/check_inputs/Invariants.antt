-- The inputs before i pass.
use Rattle.std.proofs.Common.{◌≡◌}
use Rattle.semantics.specs.Check.{passes, each, input_fault}
use Rattle.arguments.proofs.check_inputs.Given as goal

abbrev pub invariant-loop-i : goal.invariant-loop-i
invariant-loop-i l = each l.i (input_fault l.t l.inputs) ≡ passes
