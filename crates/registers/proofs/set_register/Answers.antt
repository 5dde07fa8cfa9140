-- `registers::set_register` meets its contract. Assumes nothing.
use Rattle.std.proofs.Common.{◌+◌, ◌-◌, arith, refl}
use Rattle.semantics.specs.Words.{word}
use Rattle.registers.proofs.Blocks.{some_words}
use Rattle.registers.proofs.set_register.Goals as goal

pub returns : goal.returns
returns c =
    some_words refl {k = c.args.p + 2 + word c.args.list.now (c.args.p + 1) - (c.args.p + 2)} c.requires.clear c.if-n-eq0.false c.store_all.ensures refl (omega arith)
