-- `registers::names_pointer` meets its contract. Assumes nothing.
use Rattle.std.proofs.Common.{◌+◌, arith, refl, ◌∙◌, le-ltb}
use Rattle.registers.proofs.Lists.{unknown, pointer_test}
use Rattle.registers.proofs.names_pointer.Goals as goal

pub returns-else-i-variables : goal.returns-else-i-variables
returns-else-i-variables c = le-ltb _ _ c.if-i-variables.false ∙ unknown c.requires _ (omega arith)

pub returns-then-i-variables : goal.returns-then-i-variables
returns-then-i-variables c =
    pointer_test c.requires _ (omega arith) {p = c.args.variables.at + c.args.v} (omega arith) _ refl
