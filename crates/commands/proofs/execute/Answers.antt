-- The words of command c stand in the table, and what it answers takes the run one command further or ends it.
use Rattle.std.proofs.Common.{refl, arith, rules}
use Rattle.commands.proofs.Execution.{none_yet, all_done, command_ready, command_goes_on, command_aborts, command_full}
use Rattle.commands.proofs.execute.Goals as goal

pub loop-c-init : goal.loop-c-init
loop-c-init c = record { done = none_yet _ c.requires.from c.requires.upto (search rules); same_lists = search rules }

pub command-requires : goal.command-requires
command-requires c = command_ready c.requires c.loop-c.s c.loop-c.invariant.done (omega arith) _ (λ j. c.entries-p-items.ensures.same c.loop-c.c j (omega arith))

pub returns-in-Err-Failed : goal.returns-in-Err-Failed
returns-in-Err-Failed c =
    command_aborts c.requires c.loop-c.s c.loop-c.invariant.done (omega arith) _ (λ j. c.entries-p-items.ensures.same c.loop-c.c j (omega arith))
    (rw c.in-Err-Failed.field-0-is at c.in-Err-Failed.ensures.answered) refl c.failure.ensures
    (record { values = search rules; bases = search rules; ends = search rules })

pub returns-in-Err-NoRoom : goal.returns-in-Err-NoRoom
returns-in-Err-NoRoom c =
    command_full c.requires c.loop-c.s c.loop-c.invariant.done (omega arith) _ (λ j. c.entries-p-items.ensures.same c.loop-c.c j (omega arith))
    (rw c.in-Err-NoRoom.field-0-is at c.in-Err-NoRoom.ensures.answered) (omega arith)
    (record { values = search rules; bases = search rules; ends = search rules })

pub loop-c-preserved : goal.loop-c-preserved
loop-c-preserved c = record {
  done = command_goes_on c.requires c.loop-c.s c.loop-c.invariant.done (omega arith) _ (λ j. c.entries-p-items.ensures.same c.loop-c.c j (omega arith)) c.in-Ok.ensures.answered (omega arith);
  same_lists = search rules;
}

pub returns : goal.returns
returns c = all_done c.loop-c.invariant.done (omega (arith, c.requires.stands.total)) (record { values = search rules; bases = search rules; ends = search rules })
