-- A variable's word is told with no more work.
use Rattle.std.proofs.Common.{refl, arith}
use Rattle.lookups.proofs.Ready.{item_at, note_at}
use Rattle.lookups.proofs.Shortcuts.{is_variable}
use Rattle.bare_evaluator.proofs.Evaluation.{variable_small, variable_answer}
use Rattle.bare_evaluator.proofs.assigned.Goals as goal

pub noted-requires : goal.noted-requires
noted-requires c = note_at c.requires

pub item-requires : goal.item-requires
item-requires c = item_at c.requires 1 (omega arith)

pub returns-then-of_variable-clause-answered : goal.returns-then-of_variable-clause-answered
returns-then-of_variable-clause-answered c =
    let q = is_variable c.noted.ensures c.if-of_variable.true c.of_variable.ensures in
    variable_answer c.item.ensures q refl (omega (arith, variable_small c.requires q c.item.ensures))
