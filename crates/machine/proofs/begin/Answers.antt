-- The memory that a run begins with, list by list.
use Rattle.std.proofs.Common.{arith, refl}
use Rattle.machine.proofs.Calls.{registers_fit, unused_fits, has_begun}
use Rattle.machine.proofs.begin.Goals as goal

pub set_registers-unused-requires : goal.set_registers-unused-requires
set_registers-unused-requires c = registers_fit c.requires c.clear.ensures c.clear-2.ensures c.store_all.ensures (omega arith)

pub clear_from-requires : goal.clear_from-requires
clear_from-requires c = omega (arith, unused_fits c.requires c.clear.ensures c.clear-2.ensures c.store_all.ensures (omega arith) c.set_registers-unused.ensures)

pub returns : goal.returns
returns c = has_begun c.requires c.clear.ensures c.clear-2.ensures c.store_all.ensures (omega arith) c.set_registers-unused.ensures refl c.clear_from.ensures
