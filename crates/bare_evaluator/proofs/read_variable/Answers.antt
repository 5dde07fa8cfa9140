-- The node reads a variable, which has a word in the memory.
use Rattle.std.proofs.Common.{arith}
use Rattle.lookups.proofs.Ready.{item_at, item_of}
use Rattle.lookups.proofs.Shortcuts.{variable_below}
use Rattle.bare_evaluator.proofs.Evaluation.{variable_inside, variable_read}
use Rattle.bare_evaluator.proofs.read_variable.Goals as goal

pub child-c-requires : goal.child-c-requires
child-c-requires c = item_at c.requires.ready 1 (omega arith)

pub child-requires : goal.child-requires
child-requires c = item_of c.requires.ready (variable_below c.child-c.ensures c.requires.ready c.requires.reads) 1 (omega arith)

pub variable-requires : goal.variable-requires
variable-requires c = (variable_inside c.requires.ready c.requires.reads c.child-c.ensures c.child.ensures).0

pub returns : goal.returns
returns c = variable_read c.child-c.ensures c.requires.reads c.child.ensures c.variable.ensures.0 c.variable.ensures.1
