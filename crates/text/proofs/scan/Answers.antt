use Rattle.std.proofs.Common.{arith}
use Rattle.text.proofs.Scanning.{reads_none, reads_more, scans}
use Rattle.text.proofs.scan.Goals as goal

pub loop-b-init : goal.loop-b-init
loop-b-init c = reads_none _ _ _

pub loop-b-preserved : goal.loop-b-preserved
loop-b-preserved c = reads_more _ _ _ c.loop-b.invariant (omega arith) c.take_byte-s.auto.numbers c.take_byte-s.ensures

pub returns : goal.returns
returns c = scans _ _ _ c.loop-b.invariant (omega arith)
