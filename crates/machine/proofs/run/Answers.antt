-- Beside the equation stand the theorems about the definitions.
use Rattle.semantics.proofs.Safety.{spatial_safety, log_is_believable}
use Rattle.machine.proofs.Calls.{end_watchable}
use Rattle.machine.proofs.run.Goals as goal

pub call-requires : goal.call-requires
call-requires c = end_watchable _ _ _ _ _ _

pub returns-in_err-ended-clause-safe : goal.returns-in_err-ended-clause-safe
returns-in_err-ended-clause-safe c = let a = c.args in spatial_safety a.t.now a.inputs.now a.registers.now a.values.now a.bases.now a.ends.now

pub returns-in_err-ended-clause-logged : goal.returns-in_err-ended-clause-logged
returns-in_err-ended-clause-logged c = let a = c.args in log_is_believable a.t.now a.inputs.now a.registers.now a.values.now a.bases.now a.ends.now

pub returns-clause-safe : goal.returns-clause-safe
returns-clause-safe c = let a = c.args in spatial_safety a.t.now a.inputs.now a.registers.now a.values.now a.bases.now a.ends.now

pub returns-clause-logged : goal.returns-clause-logged
returns-clause-logged c = let a = c.args in log_is_believable a.t.now a.inputs.now a.registers.now a.values.now a.bases.now a.ends.now
