-- What is answered of each ending, by which run it is.
use Rattle.std.proofs.Common.{refl}
use Rattle.layout.proofs.Laws.{handed_on}
use Rattle.machine.proofs.Calls.{end_watchable}
use Rattle.machine.proofs.Explaining.{none_told, no_abort, registers_whole, absent_told, declared_told, second_watchable, second_told}
use Rattle.machine.proofs.call_explained.Goals as goal

pub call-requires : goal.call-requires
call-requires c = end_watchable _ _ _ _ _ _

pub returns-in_err-ended : goal.returns-in_err-ended
returns-in_err-ended c = rw (handed_on c.from_residual.result _ c.from_residual.ensures.1) (no_abort c.in_err-ended.ensures refl)

pub returns-in_default : goal.returns-in_default
returns-in_default c = no_abort c.in_ok-ended.ensures (none_told _ c.in_default.not-Abort)

pub returns-in-NoBounds : goal.returns-in-NoBounds
returns-in-NoBounds c = absent_told (rw c.in-Abort.is at c.in_ok-ended.ensures) refl c.in-NoBounds.is

pub declared_start-requires : goal.declared_start-requires
declared_start-requires c = registers_whole (rw c.in-Abort.is at c.in_ok-ended.ensures)

pub returns-in-Some : goal.returns-in-Some
returns-in-Some c = declared_told (rw c.in-Abort.is at c.in_ok-ended.ensures) c.in_default-reason.not-NoBounds _ c.declared_start.ensures c.in-Some.is refl

pub call-requires-2 : goal.call-requires-2
call-requires-2 c = second_watchable (rw c.in-Abort.is at c.in_ok-ended.ensures) c.in_default-reason.not-NoBounds c.declared_start.ensures c.in_default-declared_start.is refl

pub returns : goal.returns
returns c = second_told (rw c.in-Abort.is at c.in_ok-ended.ensures) c.in_default-reason.not-NoBounds c.declared_start.ensures c.in_default-declared_start.is refl c.call-2.ensures
