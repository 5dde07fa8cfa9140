use Rattle.std.proofs.Common.{arith}
use Rattle.console.proofs.Calls.{printing_none, printing_more}
use Rattle.console.proofs.put_memory.Goals as goal

pub loop-i-init : goal.loop-i-init
loop-i-init c = printing_none _ _ _ _ _

pub loop-i-preserved : goal.loop-i-preserved
loop-i-preserved c = printing_more _ _ _ _ _ _ c.loop-i.invariant (omega arith) c.put_word.ensures
