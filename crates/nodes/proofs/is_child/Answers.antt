-- `nodes::is_child` meets its contract.
use Rattle.std.proofs.Common.{arith}
use Rattle.nodes.proofs.Sorts.{value_test, place_test, child_late}
use Rattle.nodes.proofs.is_child.Goals as goal

pub returns-then-n-i-clause-sorted : goal.returns-then-n-i-clause-sorted
returns-then-n-i-clause-sorted c t h = child_late t _ _ _ (omega arith)

pub returns-in-Value-clause-sorted : goal.returns-in-Value-clause-sorted
returns-in-Value-clause-sorted c t h = rw c.in-Value.is (value_test h _ (omega arith))

pub returns-in-Place-clause-sorted : goal.returns-in-Place-clause-sorted
returns-in-Place-clause-sorted c t h = rw c.in-Place.is (place_test h _ (omega arith))
