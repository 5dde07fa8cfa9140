use Rattle.std.proofs.Common.{arith}
use Rattle.steps.proofs.Finish.{inside, inside_to, copy_to_short, copy_from_short, copy_made}
use Rattle.steps.proofs.Memory.copy.Goals as goal

pub returns-then-words_left-many-clause-finishes :
    goal.returns-then-words_left-many-clause-finishes
returns-then-words_left-many-clause-finishes c p hv hb he =
    copy_to_short _ _ p hv hb he (omega arith) c.words_left.ensures (omega arith) c.bound.ensures c.fail.ensures.is_failed c.fail.ensures.told

pub returns-then-words_left-many-2-clause-finishes :
    goal.returns-then-words_left-many-2-clause-finishes
returns-then-words_left-many-2-clause-finishes c p hv hb he =
    let fail = c.fail-then-words_left-many-2.ensures in
    copy_from_short _ _ p hv hb he (omega arith) c.words_left.ensures (omega arith) c.words_left-2.ensures (omega arith) fail.is_failed fail.told

pub move_all-requires-clause-to_inside : goal.move_all-requires-clause-to_inside
move_all-requires-clause-to_inside c = inside_to c.requires.to_inside (inside _ _ _ c.words_left.ensures c.requires.le_k (omega arith)).1

pub move_all-requires-clause-from_inside : goal.move_all-requires-clause-from_inside
move_all-requires-clause-from_inside c =
    inside_to (c.requires.from_inside (omega arith)) (inside _ _ _ c.words_left-2.ensures c.requires.le_k (omega arith)).1

pub returns-clause-finishes : goal.returns-clause-finishes
returns-clause-finishes c p hv hb he =
    copy_made _ _ p hv hb he (omega arith) c.words_left.ensures (omega arith) c.words_left-2.ensures c.requires.le_k (omega arith) c.move_all.ensures.moved c.number.ensures
