use Rattle.stream.proofs.Parts.{cut_closed, cut_open}
use Rattle.stream.proofs.cut.Goals as goal

pub returns-in-Some : goal.returns-in-Some
returns-in-Some c = cut_closed _ _ _ c.requires c.find.ensures c.in-Some.is

pub returns-in-None : goal.returns-in-None
returns-in-None c = cut_open _ _ _ c.requires c.find.ensures c.in-None.is
