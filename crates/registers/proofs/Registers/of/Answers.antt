-- `registers::Registers::of` meets its contract. Assumes nothing.
use Rattle.std.proofs.Common.{arith}
use Rattle.registers.proofs.Lists.{place_none}
use Rattle.registers.proofs.Registers.of.Goals as goal

pub invariant_of-result : goal.invariant_of-result
invariant_of-result c = record { stands = (c.requires, omega arith, place_none _) }
