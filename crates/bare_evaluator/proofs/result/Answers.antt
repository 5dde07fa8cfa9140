-- A constant and a variable that is read are worked out without a call of the evaluator.
use Rattle.std.proofs.Common.{refl, arith}
use Rattle.lookups.proofs.Ready.{item_at, note_at}
use Rattle.lookups.proofs.Shortcuts.{is_constant, reads_variable}
use Rattle.bare_evaluator.proofs.Evaluation.{constant_answer}
use Rattle.bare_evaluator.proofs.result.Goals as goal

pub noted-x-requires : goal.noted-x-requires
noted-x-requires c = note_at c.requires

pub item-requires : goal.item-requires
item-requires c = item_at c.requires 1 (omega arith)

pub returns-then-is_constant-clause-answered : goal.returns-then-is_constant-clause-answered
returns-then-is_constant-clause-answered c =
    constant_answer c.item.ensures (is_constant c.noted-x.ensures c.if-is_constant.true c.is_constant.ensures) refl (omega arith)

pub read_variable-requires-clause-reads : goal.read_variable-requires-clause-reads
read_variable-requires-clause-reads c = reads_variable c.noted-x.ensures c.if-of_variable.true c.of_variable.ensures
