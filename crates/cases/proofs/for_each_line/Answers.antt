use Rattle.std.proofs.Common.{refl, arith, take}
use Rattle.std.proofs.lemmas.Fn.{called_at}
use Rattle.std.proofs.lemmas.List.{length-take}
use denote.Param.Always.{mut_next}
use Rattle.cases.specs.Lines.{taken_never, taken_again}
use Rattle.cases.proofs.for_each_line.Goals as goal
use Rattle.cases.proofs.for_each_line.Goals.{in-Some, in_default}

pub loop-init : goal.loop-init
loop-init g c = record { callable = λ h. h; taken = taken_never }

pub loop-preserved : goal.loop-preserved
loop-preserved g c =
    let inv = c.loop.invariant in
    let list = c.next_line-line.new.numbers in
    elim c.match-line.branch [
      | in-Some w ↦ rw w.step-is (record {
        callable = λ h. mut_next g.Step.FnMut _ _ _ _ _ w.step.ensures refl (inv.callable h);
        taken = taken_again (take w.in-Some.count list) inv.taken
            (omega (arith, length-take w.in-Some.count list, c.next_line-line.auto.numbers, c.loop.auto.numbers))
            (called_at g.Step.FnMut w.step.ensures refl);
      })
      | in_default w ↦ rw w.step-is inv
    ]

pub returns : goal.returns
returns g c = (c.loop.step, c.loop.invariant.taken)
