-- The loop's invariant: the commands below c are done as the rules say.
use Rattle.steps.specs.Answers.{SameLists}
use Rattle.commands.specs.Execution.{lists}
use Rattle.commands.proofs.Execution.{SoFar}
use Rattle.commands.proofs.execute.Given as goal

abbrev pub invariant-loop-c : goal.invariant-loop-c
invariant-loop-c l = record {
  done : SoFar l.t (lists l.initial.m.values.now l.initial.m.bases.now l.initial.m.ends.now) l.first l.watched l.m l.s l.c;
  same_lists : SameLists l.initial.m l.m;
}
