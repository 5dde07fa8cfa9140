use Rattle.std.proofs.Common.{arith}
use Rattle.console.proofs.Calls.{ran}
use Rattle.console.proofs.run_request.Goals as goal

pub returns : goal.returns
returns c =
    let run = c.run_and_print in
    ran _ _ _ _ _ _ (omega arith) (omega arith) (omega arith) run.ensures run.auto.values run.auto.bases run.auto.ends
