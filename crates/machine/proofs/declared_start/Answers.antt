-- A variable's word is its own block.
use Rattle.std.proofs.Common.{arith}
use Rattle.machine.specs.Explain.{of_variable, of_register}
use Rattle.machine.proofs.declared_start.Goals as goal

pub returns-then-w-variables : goal.returns-then-w-variables
returns-then-w-variables c = of_variable (omega arith)

pub returns : goal.returns
returns c = of_register (omega arith) (c.start_of.ensures)
