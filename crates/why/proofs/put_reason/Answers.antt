use Rattle.std.proofs.Common.{refl}
use Rattle.stream.proofs.Items.{prints_then}
use Rattle.why.specs.Ascii.{ascii}
use Rattle.why.specs.Told.{reason_text}
use Rattle.why.proofs.Told.{prints_text, other_reason}
use Rattle.machine.specs.declared.Reason.TheVariants.{NoBounds}
use Rattle.why.proofs.put_reason.Goals as goal

pub returns-in-NoBounds : goal.returns-in-NoBounds
unfolding ascii reason_text
returns-in-NoBounds c = rw c.in-NoBounds.is (prints_text ", but the pointer has no bounds" refl c.put_bytes.ensures)

pub returns : goal.returns
unfolding reason_text
returns c = rw (other_reason _ NoBounds c.in_default.not-NoBounds, ← c.owner_of.ensures) (prints_then c.put_bounds.ensures c.put_owner.ensures)
