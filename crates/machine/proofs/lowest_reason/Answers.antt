-- The reasons in their order.
use Rattle.std.proofs.Common.{arith}
use Rattle.machine.proofs.Reasons.{no_bounds, before_base, past_end}
use Rattle.machine.proofs.lowest_reason.Goals as goal

pub returns-then-end-eq0 : goal.returns-then-end-eq0
returns-then-end-eq0 c = no_bounds _ _ _ (omega arith) (omega arith)

pub returns-then-place-base : goal.returns-then-place-base
returns-then-place-base c = before_base _ _ _ (λ z. omega arith) (omega arith)

pub returns-else-place-base : goal.returns-else-place-base
returns-else-place-base c = past_end _ _ _ (λ z. omega arith) (omega arith)
