-- Where the place or the value ended, that is passed on; else the value is stored at the place.
use Rattle.std.proofs.Common.{arith}
use Rattle.lookups.proofs.Lookups.{note_inside}
use Rattle.commands.proofs.Commands.{below, place_first, place_ended, value_next, value_ended, store_inside, command_done}
use Rattle.commands.proofs.command.Goals as goal

pub assigned-requires : goal.assigned-requires
assigned-requires c = place_first c.requires

pub returns-in_err-at-clause-answered : goal.returns-in_err-at-clause-answered
returns-in_err-at-clause-answered c = place_ended c.assigned.ensures.answered c.in_err-at.ensures c.from_residual.ensures.1

pub bounds_of-bounds-requires : goal.bounds_of-bounds-requires
bounds_of-bounds-requires c = let k = c.requires.nodes_are in note_inside k.lists_of k.value_node

pub result-requires : goal.result-requires
result-requires c = value_next c.assigned.ensures.answered (below c.in_ok-at.ensures).0 c.requires

pub returns-in_err-r-clause-answered : goal.returns-in_err-r-clause-answered
returns-in_err-r-clause-answered c =
    value_ended c.assigned.ensures.answered (below c.in_ok-at.ensures).0 c.result.ensures.answered c.in_err-r.ensures c.from_residual-in_err-r.ensures.1

pub overflow_cast-r : goal.overflow_cast-r
overflow_cast-r c = let r = below c.in_ok-r.ensures in omega (arith, r.0, r.1)

pub store-requires : goal.store-requires
store-requires c =
    let at = below c.in_ok-at.ensures in
    rw at.1 (store_inside c.assigned.ensures.answered at.0 c.result.ensures.answered c.requires (below c.in_ok-r.ensures).0)

pub returns-clause-answered : goal.returns-clause-answered
returns-clause-answered c =
    let at = below c.in_ok-at.ensures in
    let r = below c.in_ok-r.ensures in
    command_done c.assigned.ensures.answered at.0 c.result.ensures.answered r.0 c.bounds_of-bounds.ensures (rw (at.1, r.1) at c.store.ensures.stored)
