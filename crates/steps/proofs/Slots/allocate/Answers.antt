use Rattle.std.proofs.Common.{refl, arith}
use Rattle.semantics.specs.Rules.{malloc_step}
use Rattle.steps.proofs.Finish.{passed_on, malloc_none, malloc_some, malloc_full}
use Rattle.steps.proofs.Slots.allocate.Goals as goal

pub returns-then-v-ge-FAILED : goal.returns-then-v-ge-FAILED
returns-then-v-ge-FAILED c m all = passed_on malloc_step c.if-v-ge-FAILED.true

pub returns-then-v-eq0 : goal.returns-then-v-eq0
returns-then-v-eq0 c m all = malloc_none c.if-v-eq0.true c.number.ensures

pub returns-then-has_room : goal.returns-then-has_room
returns-then-has_room c m all = malloc_some all c.if-v-ge-FAILED.false c.if-v-eq0.false (rw (c.if-has_room.true) at c.has_room.ensures) c.bound.ensures refl refl (omega arith)

pub returns-else-has_room : goal.returns-else-has_room
returns-else-has_room c m all = malloc_full all c.if-v-ge-FAILED.false c.if-v-eq0.false (rw (c.if-has_room.false) at c.has_room.ensures) refl
