-- The words of command c stand in the table, and what it answers takes the run one command further or ends it.
use Rattle.std.proofs.Common.{refl, ap, Err, ◌∙◌, arith, rules}
use Rattle.bare_commands.proofs.Execution.{none_yet, all_done, command_ready, command_goes_on, command_full, command_stuck}
use Rattle.bare_commands.proofs.execute.Goals as goal

pub loop-c-init : goal.loop-c-init
loop-c-init c = (none_yet _ _, refl)

pub command-requires : goal.command-requires
command-requires c = command_ready c.requires c.loop-c.invariant.0 (omega arith) _ (λ j. c.entries-p-items.ensures.same c.loop-c.c j (omega arith))

pub returns-in-Err-NoRoom : goal.returns-in-Err-NoRoom
returns-in-Err-NoRoom c =
    command_full c.requires c.loop-c.invariant.0 (omega arith) _ (λ j. c.entries-p-items.ensures.same c.loop-c.c j (omega arith))
    c.in-Err-NoRoom.ensures.answered (ap Err c.in-Err-NoRoom.field-0-is) (search rules)

pub returns-in-Err-Stuck : goal.returns-in-Err-Stuck
returns-in-Err-Stuck c =
    command_stuck c.requires c.loop-c.invariant.0 (omega arith) _ (λ j. c.entries-p-items.ensures.same c.loop-c.c j (omega arith))
    c.in-Err-Stuck.ensures.answered (ap Err c.in-Err-Stuck.field-0-is) (search rules)

pub loop-c-preserved : goal.loop-c-preserved
loop-c-preserved c = (
  command_goes_on c.requires c.loop-c.invariant.0 (omega arith) _ (λ j. c.entries-p-items.ensures.same c.loop-c.c j (omega arith)) c.in-Ok.ensures.answered refl,
  c.in-Ok.ensures.same_list ∙ c.loop-c.invariant.1,
)

pub returns : goal.returns
returns c = all_done c.loop-c.invariant.0 (omega (arith, c.requires.stands.total)) (search rules)
