use Rattle.machine.proofs.Calls.{told_abort}
use Rattle.machine.proofs.told.Goals as goal

pub returns-in-Abort : goal.returns-in-Abort
returns-in-Abort c = told_abort c.in-Abort.is c.lowest_reason.ensures
