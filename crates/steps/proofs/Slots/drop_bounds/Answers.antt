use Rattle.std.proofs.Common.{false}
use Rattle.semantics.specs.Rules.{cast_step}
use Rattle.steps.proofs.Finish.{passed_on, cast_done}
use Rattle.steps.proofs.Slots.drop_bounds.Goals as goal

pub returns-then-v-lt-FAILED : goal.returns-then-v-lt-FAILED
returns-then-v-lt-FAILED c m = cast_done c.if-v-lt-FAILED.true c.bound.ensures

pub returns-else-v-lt-FAILED : goal.returns-else-v-lt-FAILED
returns-else-v-lt-FAILED c m = passed_on (cast_step false) c.if-v-lt-FAILED.false
