-- Beside the equation stand the theorems about the definitions.
use Rattle.semantics.proofs.Safety.{spatial_safety, log_is_believable}
use Rattle.semantics.proofs.Explain.{explanations_are_true}
use Rattle.machine.proofs.explain.Goals as goal

pub returns-clause-reasoned : goal.returns-clause-reasoned
returns-clause-reasoned c = let a = c.args in explanations_are_true a.t.now a.inputs.now a.registers.now a.values.now a.bases.now a.ends.now

pub returns-clause-safe : goal.returns-clause-safe
returns-clause-safe c = let a = c.args in spatial_safety a.t.now a.inputs.now a.registers.now a.values.now a.bases.now a.ends.now

pub returns-clause-logged : goal.returns-clause-logged
returns-clause-logged c = let a = c.args in log_is_believable a.t.now a.inputs.now a.registers.now a.values.now a.bases.now a.ends.now
