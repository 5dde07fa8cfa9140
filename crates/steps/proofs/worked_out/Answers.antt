use Rattle.std.proofs.Common.{arith}
use Rattle.steps.specs.Answers.{says_ok, says_failed, says_no_room}
use Rattle.steps.proofs.worked_out.Goals as goal

pub returns-then-r-lt-FAILED : goal.returns-then-r-lt-FAILED
returns-then-r-lt-FAILED c = says_ok (omega arith)

pub returns-then-r-eq-FAILED : goal.returns-then-r-eq-FAILED
returns-then-r-eq-FAILED c = says_failed (omega arith)

pub returns-else-r-eq-FAILED : goal.returns-else-r-eq-FAILED
returns-else-r-eq-FAILED c = says_no_room (omega (arith, c.if-r-eq-FAILED.false))
