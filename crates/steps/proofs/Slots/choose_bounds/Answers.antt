use Rattle.steps.proofs.Finish.{chosen_left, chosen_right}
use Rattle.steps.proofs.Slots.choose_bounds.Goals as goal

pub returns-then-end-ne0 : goal.returns-then-end-ne0
returns-then-end-ne0 c p x hb he = chosen_left p hb he c.if-end-ne0.true c.bound.ensures x

pub returns-else-end-ne0 : goal.returns-else-end-ne0
returns-else-end-ne0 c p x hb he = chosen_right p hb he c.if-end-ne0.false x
