use Rattle.std.proofs.Common.{arith}
use Rattle.words.proofs.Lists.{copied_none, copied_more, copied_all}
use Rattle.words.proofs.store_all.Goals as goal

pub loop-i-init : goal.loop-i-init
loop-i-init c = copied_none _ _ _

pub loop-i-preserved : goal.loop-i-preserved
loop-i-preserved c = copied_more c.loop-i.invariant (omega arith)

pub returns : goal.returns
returns c = copied_all c.loop-i.invariant (omega arith)
