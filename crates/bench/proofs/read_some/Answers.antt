use Rattle.bench.proofs.Input.{reads_none}
use Rattle.bench.proofs.read_some.Goals as goal

pub returns-then-n-eq0 : goal.returns-then-n-eq0
returns-then-n-eq0 c = reads_none _ _
