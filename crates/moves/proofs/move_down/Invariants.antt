-- The words below i are moved.
use Rattle.moves.proofs.Moves.{PartMoved}
use Rattle.moves.proofs.move_down.Given as goal

abbrev pub invariant-loop-i : goal.invariant-loop-i
invariant-loop-i l = PartMoved l.fn.list l.to l.from 0 l.i l.list
