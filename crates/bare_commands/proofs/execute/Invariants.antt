-- The loop's invariant: the commands below c are done as the rules say, over the same list.
use Rattle.std.proofs.Common.{◌≡◌}
use Rattle.bare_steps.specs.Answers.{state_of}
use Rattle.bare_commands.proofs.Execution.{SoFar}
use Rattle.bare_commands.proofs.execute.Given as goal

abbrev pub invariant-loop-c : goal.invariant-loop-c
invariant-loop-c l = SoFar l.t (state_of l.initial.m) (state_of l.m) l.c × (l.m.values.ghost_name ≡ l.initial.m.values.ghost_name)
