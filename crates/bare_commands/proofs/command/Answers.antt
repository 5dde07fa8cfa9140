-- Where the place or the value ended, that is passed on; else the value is stored at the place.
use Rattle.bare_commands.proofs.Commands.{place_first, place_ended, value_next, value_ended, command_done}
use Rattle.bare_commands.proofs.command.Goals as goal

pub assigned-requires : goal.assigned-requires
assigned-requires c = place_first c.requires

pub returns-in_err-at-clause-answered : goal.returns-in_err-at-clause-answered
returns-in_err-at-clause-answered c = place_ended c.assigned.ensures.answered c.in_err-at.ensures c.from_residual.ensures.1

pub result-requires : goal.result-requires
result-requires c = value_next c.assigned.ensures.answered c.requires

pub returns-in_err-r-clause-answered : goal.returns-in_err-r-clause-answered
returns-in_err-r-clause-answered c =
    value_ended c.assigned.ensures.answered c.in_ok-at.ensures c.result.ensures.answered c.in_err-r.ensures c.from_residual-in_err-r.ensures.1

pub returns-clause-answered : goal.returns-clause-answered
returns-clause-answered c = command_done c.assigned.ensures.answered c.in_ok-at.ensures c.result.ensures.answered c.in_ok-r.ensures c.store.ensures.stored
