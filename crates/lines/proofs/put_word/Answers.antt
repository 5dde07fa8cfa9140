-- The calls in their order: address, value, base, end, the line's end.
use Rattle.stream.proofs.Items.{prints_word, prints_number, prints_then}
use Rattle.lines.specs.Lines.{word_line}
use Rattle.lines.proofs.put_word.Goals as goal

pub returns : goal.returns
unfolding word_line
returns c =
    prints_then (prints_number _ c.put_number.ensures)
    (prints_then c.put_after.ensures
    (prints_then c.put_after-2.ensures
    (prints_then c.put_after-3.ensures
    (prints_word c.put_bytes.ensures))))
