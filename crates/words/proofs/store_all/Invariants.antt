-- The first i words are stored.
use Rattle.words.proofs.Lists.{Copied}
use Rattle.words.proofs.store_all.Given as goal

abbrev pub invariant-loop-i : goal.invariant-loop-i
invariant-loop-i l = Copied l.fn.list l.at l.words l.list l.i
