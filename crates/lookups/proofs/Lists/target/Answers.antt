-- An entry stands in the list of the targets.
use Rattle.lookups.proofs.Lookups.{entry_inside, entry_target}
use Rattle.lookups.proofs.Lists.target.Goals as goal

pub bounds-self-of : goal.bounds-self-of
bounds-self-of c = entry_inside c.requires.0.is_known c.requires.1

pub returns : goal.returns
returns c t h = entry_target h c.requires.1
