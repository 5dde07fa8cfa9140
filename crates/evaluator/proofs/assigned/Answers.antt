-- A variable's word is told with no more work, and of another place the bounds are not asked.
use Rattle.std.proofs.Common.{refl, arith}
use Rattle.lookups.proofs.Ready.{item_at, note_at}
use Rattle.lookups.proofs.Shortcuts.{is_variable}
use Rattle.evaluator.proofs.Noted.{assigned_variable, assigned_place}
use Rattle.evaluator.proofs.assigned.Goals as goal

pub noted-requires : goal.noted-requires
noted-requires c = note_at c.requires

pub item-requires : goal.item-requires
item-requires c = item_at c.requires 1 (omega arith)

pub returns-then-of_variable-clause-answered : goal.returns-then-of_variable-clause-answered
returns-then-of_variable-clause-answered c =
    assigned_variable c.item.ensures c.requires (is_variable c.noted.ensures c.if-of_variable.true c.of_variable.ensures) refl refl

pub returns-clause-answered : goal.returns-clause-answered
returns-clause-answered c = assigned_place c.place.ensures.answered
