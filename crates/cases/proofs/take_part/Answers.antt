use Rattle.cases.proofs.Lines.{next_in_line}
use Rattle.cases.proofs.take_part.Goals as goal

pub returns : goal.returns
returns c = next_in_line c.requires c.scan.ensures
