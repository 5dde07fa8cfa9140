use Rattle.stream.proofs.Items.{prints_word, prints_number, prints_then}
use Rattle.stream.proofs.put_after.Goals as goal

pub returns : goal.returns
returns c = prints_then (prints_word c.put_bytes.ensures) (prints_number _ c.put_number.ensures)
