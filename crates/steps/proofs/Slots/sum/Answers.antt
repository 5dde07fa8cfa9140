use Rattle.steps.proofs.Finish.{sum_done}
use Rattle.steps.proofs.Slots.sum.Goals as goal

pub returns-else-w-ge-FAILED : goal.returns-else-w-ge-FAILED
returns-else-w-ge-FAILED c m p hv hb he = sum_done _ p hv c.if-w-ge-FAILED.false (λ x. c.choose_bounds.ensures p x hb he) c.add.ensures.0 c.add.ensures.1
