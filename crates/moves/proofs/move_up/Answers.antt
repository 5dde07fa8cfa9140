-- All of them are moved in the end.
use Rattle.std.proofs.Common.{refl, arith}
use Rattle.moves.proofs.Moves.{all_moved}
use Rattle.moves.proofs.move_up.Goals as goal

pub returns : goal.returns
returns c = all_moved c.loop-i.invariant (omega arith) refl
