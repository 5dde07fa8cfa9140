use Rattle.semantics.specs.Rules.{deref_step}
use Rattle.steps.proofs.Finish.{passed_on, deref_yes, deref_no}
use Rattle.steps.proofs.Slots.deref.Goals as goal

pub returns-then-v-ge-FAILED : goal.returns-then-v-ge-FAILED
returns-then-v-ge-FAILED c m = passed_on (deref_step _) c.if-v-ge-FAILED.true

pub returns-then-words_left-ge1 : goal.returns-then-words_left-ge1
returns-then-words_left-ge1 c m = deref_yes _ c.if-v-ge-FAILED.false c.words_left.ensures c.if-words_left-ge1.true

pub returns-else-words_left-ge1 : goal.returns-else-words_left-ge1
returns-else-words_left-ge1 c m = deref_no c.if-v-ge-FAILED.false c.words_left.ensures c.if-words_left-ge1.false c.fail.ensures.is_failed c.fail.ensures.told
