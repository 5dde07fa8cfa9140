use Rattle.std.proofs.Common.{refl}
use Rattle.stream.proofs.Items.{prints_then}
use Rattle.why.specs.Ascii.{ascii}
use Rattle.why.specs.Told.{not_aborted_lines}
use Rattle.why.proofs.Told.{prints_text}
use Rattle.why.proofs.put_not_aborted.Goals as goal

pub returns : goal.returns
unfolding ascii not_aborted_lines
returns c = prints_then c.put_ended.ensures (prints_text "the run did not abort\n" refl c.put_bytes.ensures)
