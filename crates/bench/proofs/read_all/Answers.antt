use Rattle.std.proofs.Common.{[]}
use Rattle.bench.proofs.Input.{read_more, read_all}
use Rattle.bench.proofs.read_all.Goals as goal

pub loop-init : goal.loop-init
loop-init c = record { text = []; scanned = c.new-s.ensures.meets _ }

pub loop-preserved : goal.loop-preserved
loop-preserved c = read_more c.loop.invariant c.read_some.ensures c.in-Continue.is

pub returns-in-Break : goal.returns-in-Break
returns-in-Break c = read_all c.loop.invariant c.read_some.ensures c.in-Break.is
