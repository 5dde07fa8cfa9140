use Rattle.std.proofs.Common.{refl}
use Rattle.stream.proofs.Items.{prints_then}
use Rattle.why.specs.Ascii.{ascii}
use Rattle.why.specs.Told.{bounds_text}
use Rattle.why.proofs.Told.{prints_text, prints_after}
use Rattle.why.proofs.put_bounds.Goals as goal

pub returns : goal.returns
unfolding ascii bounds_text
returns c =
    prints_then c.put_side.ensures
    (prints_then (prints_after " of the pointer's bounds [" refl c.put_after.ensures)
    (prints_then (prints_after ", " refl c.put_after-2.ensures) (prints_text "), in " refl c.put_bytes.ensures)))
