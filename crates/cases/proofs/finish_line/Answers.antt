-- A scanner that is not bad has its numbers within the list.
use Rattle.cases.proofs.Lines.{count_within}
use Rattle.cases.proofs.finish_line.Goals as goal

pub returns-in-Other-Between : goal.returns-in-Other-Between
returns-in-Other-Between c = count_within c.requires c.finish-s.ensures (λ e. absurd cc)
