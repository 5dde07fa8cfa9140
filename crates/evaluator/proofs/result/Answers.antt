-- A constant and a variable that is read are worked out without a call of the evaluator.
use Rattle.std.proofs.Common.{arith}
use Rattle.lookups.proofs.Ready.{item_at, note_at}
use Rattle.lookups.proofs.Shortcuts.{is_constant, reads_variable}
use Rattle.evaluator.proofs.Noted.{constant_answer}
use Rattle.evaluator.proofs.result.Goals as goal

pub noted-x-requires : goal.noted-x-requires
noted-x-requires c = note_at c.requires

pub item-requires : goal.item-requires
item-requires c = item_at c.requires 1 (omega arith)

pub returns-then-is_constant-clause-answered : goal.returns-then-is_constant-clause-answered
returns-then-is_constant-clause-answered c = constant_answer c.item.ensures (is_constant c.noted-x.ensures c.if-is_constant.true c.is_constant.ensures) c.number.ensures

pub read_variable-requires-clause-reads_variable : goal.read_variable-requires-clause-reads_variable
read_variable-requires-clause-reads_variable c = reads_variable c.noted-x.ensures c.if-of_variable.true c.of_variable.ensures
