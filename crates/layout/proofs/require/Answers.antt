-- As the definition has it.
use Rattle.std.proofs.Common.{sym}
use Rattle.layout.proofs.Laws.{require_holds, require_refuses}
use Rattle.layout.proofs.require.Goals as goal

pub returns-then-ok-clause-faults : goal.returns-then-ok-clause-faults
returns-then-ok-clause-faults c = sym (require_holds _ _ _ c.if-ok.true)

pub returns-else-ok-clause-faults : goal.returns-else-ok-clause-faults
returns-else-ok-clause-faults c = sym (require_refuses _ _ _ c.if-ok.false)
