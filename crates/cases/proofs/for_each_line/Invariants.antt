-- The step may be taken again, and was taken at what fits.
use Rattle.std.proofs.Common.{◌≤◌, length}
use Rattle.std.specs.Fn.{CalledAt}
use denote.Param.Always.{always_mut}
use Rattle.cases.specs.Lines.{Taken}
use Rattle.cases.proofs.for_each_line.Given as goal

abbrev pub invariant-loop : goal.invariant-loop
invariant-loop g l = record {
  callable : always_mut g.Step.FnMut l.initial.step → always_mut g.Step.FnMut l.step;
  taken : Taken (λ p xs q. CalledAt g.Step.FnMut p xs tt q) (λ xs. length xs ≤ length l.fn.numbers) l.fn.step l.step;
}
