use Rattle.lines.specs.Lines.{ending_line}
use Rattle.lines.proofs.put_refusal.Goals as goal

pub returns : goal.returns
unfolding ending_line
returns c = rw c.number.ensures at c.put_pair.ensures
