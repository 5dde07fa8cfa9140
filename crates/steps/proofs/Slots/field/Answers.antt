use Rattle.std.proofs.Common.{arith}
use Rattle.semantics.specs.Rules.{field_step}
use Rattle.steps.proofs.Finish.{inside, passed_on, field_yes, field_no}
use Rattle.steps.proofs.Slots.field.Goals as goal

pub returns-then-v-ge-FAILED : goal.returns-then-v-ge-FAILED
returns-then-v-ge-FAILED c m = passed_on (field_step _ _ _) c.if-v-ge-FAILED.true

pub overflow_cast-w-then-k-words_left : goal.overflow_cast-w-then-k-words_left
overflow_cast-w-then-k-words_left c = omega (arith, inside _ _ _ c.words_left.ensures (omega arith) c.if-k-words_left.true)

pub overflow_cast-w-then-k-words_left-2 : goal.overflow_cast-w-then-k-words_left-2
overflow_cast-w-then-k-words_left-2 c = omega (arith, inside _ _ _ c.words_left.ensures (omega arith) c.if-k-words_left.true)

pub returns-then-k-words_left : goal.returns-then-k-words_left
returns-then-k-words_left c m = field_yes _ _ _ (omega arith) c.words_left.ensures (omega arith) c.if-k-words_left.true (omega arith) c.bound.ensures

pub returns-else-k-words_left : goal.returns-else-k-words_left
returns-else-k-words_left c m = field_no _ _ _ (omega arith) c.words_left.ensures c.if-k-words_left.false c.fail.ensures.is_failed c.fail.ensures.told
