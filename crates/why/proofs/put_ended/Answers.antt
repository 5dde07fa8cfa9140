use Rattle.stream.proofs.Items.{prints_word, prints_then}
use Rattle.why.specs.Told.{ended_line}
use Rattle.why.proofs.put_ended.Goals as goal

pub returns : goal.returns
unfolding ended_line
returns g c = prints_then c.put_ending.ensures (prints_word c.put_bytes.ensures)
