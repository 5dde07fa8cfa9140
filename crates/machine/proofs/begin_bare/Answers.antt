-- The memory that a bare run begins with.
use Rattle.std.proofs.Common.{arith, refl}
use Rattle.machine.proofs.Bare.{bare_unused_fits, bare_begun}
use Rattle.machine.proofs.begin_bare.Goals as goal

pub clear_from-requires : goal.clear_from-requires
clear_from-requires c = omega (arith, bare_unused_fits c.requires c.store_all.ensures (omega arith) c.place_registers-unused.ensures)

pub returns : goal.returns
returns c = bare_begun c.requires c.store_all.ensures (omega arith) c.place_registers-unused.ensures refl c.clear_from.ensures
