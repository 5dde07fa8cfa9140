-- Its bytes and a number, then a space and the other number.
use Rattle.stream.proofs.Items.{prints_then}
use Rattle.lines.proofs.put_pair.Goals as goal

pub returns : goal.returns
returns c = prints_then c.put_after.ensures c.put_after-2.ensures
