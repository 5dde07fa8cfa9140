use Rattle.semantics.specs.Rules.{read_step}
use Rattle.steps.proofs.Finish.{passed_on, load_done}
use Rattle.steps.proofs.Memory.load.Goals as goal

pub returns-then-at-ge-FAILED : goal.returns-then-at-ge-FAILED
returns-then-at-ge-FAILED c = passed_on (read_step _) c.if-at-ge-FAILED.true

pub returns-else-at-ge-FAILED : goal.returns-else-at-ge-FAILED
returns-else-at-ge-FAILED c = load_done _ _ c.if-at-ge-FAILED.false c.fetch.ensures
