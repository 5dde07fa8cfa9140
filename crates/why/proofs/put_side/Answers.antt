use Rattle.std.proofs.Common.{refl}
use Rattle.why.specs.Ascii.{ascii}
use Rattle.why.proofs.Told.{prints_text, other_reason}
use Rattle.machine.specs.declared.Reason.TheVariants.{BeforeBase}
use Rattle.why.proofs.put_side.Goals as goal

pub returns-in-BeforeBase : goal.returns-in-BeforeBase
unfolding ascii
returns-in-BeforeBase c = rw c.in-BeforeBase.is (prints_text ", before the base" refl c.put_bytes.ensures)

pub returns : goal.returns
unfolding ascii
returns c = rw (other_reason _ BeforeBase c.in_default.not-BeforeBase) (prints_text ", past the end" refl c.put_bytes-2.ensures)
