-- The words from i on are moved.
use Rattle.moves.proofs.Moves.{PartMoved}
use Rattle.moves.proofs.move_up.Given as goal

abbrev pub invariant-loop-i : goal.invariant-loop-i
invariant-loop-i l = PartMoved l.fn.list l.to l.from l.i l.n l.list
