-- The node reads a variable, which has words in all three lists.
use Rattle.std.proofs.Common.{◌+◌, ◌<◌, refl, arith}
use Rattle.steps.specs.Answers.{failed}
use Rattle.steps.proofs.Finish.{load_done}
use Rattle.lookups.proofs.Ready.{item_at, item_of, note_of}
use Rattle.lookups.proofs.Shortcuts.{variable_below}
use Rattle.evaluator.proofs.Noted.{variable_inside, variable_read}
use Rattle.evaluator.proofs.read_variable.Goals as goal

pub child-c-requires : goal.child-c-requires
child-c-requires c = item_at c.requires.ready 1 (omega arith)

pub child-requires : goal.child-requires
child-requires c = item_of c.requires.ready (variable_below c.child-c.ensures c.requires.ready c.requires.reads_variable) 1 (omega arith)

pub overflow_add-child : goal.overflow_add-child
overflow_add-child c = omega (arith, (variable_inside c.child-c.ensures c.requires.reads_variable c.child.ensures refl c.requires.ready).0)

pub bounds_of-requires : goal.bounds_of-requires
bounds_of-requires c = note_of c.requires.ready (variable_below c.child-c.ensures c.requires.ready c.requires.reads_variable)

pub fetch-requires : goal.fetch-requires
fetch-requires c = (variable_inside c.child-c.ensures c.requires.reads_variable c.child.ensures refl c.requires.ready).1

pub returns : goal.returns
returns c =
    let w = variable_inside c.child-c.ensures c.requires.reads_variable c.child.ensures refl c.requires.ready in
    let under : c.child.result + 1 < failed = omega (arith, w.0) in
    variable_read c.child-c.ensures c.requires.reads_variable c.child.ensures refl under c.bounds_of.ensures (load_done _ _ under c.fetch.ensures)
