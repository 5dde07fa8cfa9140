-- At each call of `Section::parse` the sections before it have passed, and in the arm that goes on so has the section read.
use Rattle.std.proofs.Common.{arith}
use Rattle.layout.proofs.Editions.{not_started}
use Rattle.layout.proofs.Laws.{outcome_on}
use Rattle.layout.proofs.Sections.{first_refused, next_refused, to_records, to_fields, to_pointers, to_variables, to_nodes, to_commands, other_edition, words_left, layout_is}
use Rattle.layout.proofs.Table.parse.Goals as goal

pub returns-in_err-first : goal.returns-in_err-first
returns-in_err-first c = outcome_on c.from_residual.result _ c.from_residual.ensures.1 (other_edition _ (not_started _ _ c.in_err-first.ensures))

pub returns-in_err-records : goal.returns-in_err-records
returns-in_err-records c =
    let on = c.from_residual-in_err-records in
    outcome_on on.result _ on.ensures.1 (first_refused c.args.t.now (omega arith) c.in_ok-first.ensures c.in_err-records.ensures)

pub overflow_add-records : goal.overflow_add-records
overflow_add-records c =
    let g = to_records c.args.t.now (omega arith) c.in_ok-first.ensures c.in_ok-records.ensures in
    omega (arith, g.next, g.limited, g.within, g.fits)

pub returns-in_err-fields : goal.returns-in_err-fields
returns-in_err-fields c =
    let on = c.from_residual-in_err-fields in
    outcome_on on.result _ on.ensures.1 (next_refused c.args.t.now 0 (omega arith) (to_records c.args.t.now (omega arith) c.in_ok-first.ensures c.in_ok-records.ensures) c.in_err-fields.ensures (omega arith))

pub overflow_mul-fields : goal.overflow_mul-fields
overflow_mul-fields c =
    let g = to_fields c.args.t.now (omega arith) c.in_ok-first.ensures c.in_ok-records.ensures c.in_ok-fields.ensures in
    omega (arith, g.next, g.limited, g.within, g.fits)

pub overflow_add-fields : goal.overflow_add-fields
overflow_add-fields c =
    let g = to_fields c.args.t.now (omega arith) c.in_ok-first.ensures c.in_ok-records.ensures c.in_ok-fields.ensures in
    omega (arith, g.next, g.limited, g.within, g.fits)

pub returns-in_err-pointers : goal.returns-in_err-pointers
returns-in_err-pointers c =
    let on = c.from_residual-in_err-pointers in
    outcome_on on.result _ on.ensures.1 (next_refused c.args.t.now 1 (omega arith) (to_fields c.args.t.now (omega arith) c.in_ok-first.ensures c.in_ok-records.ensures c.in_ok-fields.ensures) c.in_err-pointers.ensures (omega arith))

pub overflow_add-pointers : goal.overflow_add-pointers
overflow_add-pointers c =
    let g = to_pointers c.args.t.now (omega arith) c.in_ok-first.ensures c.in_ok-records.ensures c.in_ok-fields.ensures c.in_ok-pointers.ensures in
    omega (arith, g.next, g.limited, g.within, g.fits)

pub returns-in_err-variables : goal.returns-in_err-variables
returns-in_err-variables c =
    let on = c.from_residual-in_err-variables in
    outcome_on on.result _ on.ensures.1 (next_refused c.args.t.now 2 (omega arith) (to_pointers c.args.t.now (omega arith) c.in_ok-first.ensures c.in_ok-records.ensures c.in_ok-fields.ensures c.in_ok-pointers.ensures) c.in_err-variables.ensures (omega arith))

pub overflow_add-variables : goal.overflow_add-variables
overflow_add-variables c =
    let g = to_variables c.args.t.now (omega arith) c.in_ok-first.ensures c.in_ok-records.ensures c.in_ok-fields.ensures c.in_ok-pointers.ensures c.in_ok-variables.ensures in
    omega (arith, g.next, g.limited, g.within, g.fits)

pub returns-in_err-nodes : goal.returns-in_err-nodes
returns-in_err-nodes c =
    let on = c.from_residual-in_err-nodes in
    outcome_on on.result _ on.ensures.1 (next_refused c.args.t.now 3 (omega arith) (to_variables c.args.t.now (omega arith) c.in_ok-first.ensures c.in_ok-records.ensures c.in_ok-fields.ensures c.in_ok-pointers.ensures c.in_ok-variables.ensures) c.in_err-nodes.ensures (omega arith))

pub overflow_mul-nodes : goal.overflow_mul-nodes
overflow_mul-nodes c =
    let g = to_nodes c.args.t.now (omega arith) c.in_ok-first.ensures c.in_ok-records.ensures c.in_ok-fields.ensures c.in_ok-pointers.ensures c.in_ok-variables.ensures c.in_ok-nodes.ensures in
    omega (arith, g.next, g.limited, g.within, g.fits)

pub overflow_add-nodes : goal.overflow_add-nodes
overflow_add-nodes c =
    let g = to_nodes c.args.t.now (omega arith) c.in_ok-first.ensures c.in_ok-records.ensures c.in_ok-fields.ensures c.in_ok-pointers.ensures c.in_ok-variables.ensures c.in_ok-nodes.ensures in
    omega (arith, g.next, g.limited, g.within, g.fits)

pub returns-in_err-commands : goal.returns-in_err-commands
returns-in_err-commands c =
    let on = c.from_residual-in_err-commands in
    outcome_on on.result _ on.ensures.1 (next_refused c.args.t.now 4 (omega arith) (to_nodes c.args.t.now (omega arith) c.in_ok-first.ensures c.in_ok-records.ensures c.in_ok-fields.ensures c.in_ok-pointers.ensures c.in_ok-variables.ensures c.in_ok-nodes.ensures) c.in_err-commands.ensures (omega arith))

pub overflow_mul-end : goal.overflow_mul-end
overflow_mul-end c =
    let g = to_commands c.args.t.now (omega arith) c.in_ok-first.ensures c.in_ok-records.ensures c.in_ok-fields.ensures c.in_ok-pointers.ensures c.in_ok-variables.ensures c.in_ok-nodes.ensures c.in_ok-commands.ensures in
    omega (arith, g.next, g.limited, g.within, g.fits)

pub overflow_add-end : goal.overflow_add-end
overflow_add-end c =
    let g = to_commands c.args.t.now (omega arith) c.in_ok-first.ensures c.in_ok-records.ensures c.in_ok-fields.ensures c.in_ok-pointers.ensures c.in_ok-variables.ensures c.in_ok-nodes.ensures c.in_ok-commands.ensures in
    omega (arith, g.next, g.limited, g.within, g.fits)

pub returns-in_err-require : goal.returns-in_err-require
returns-in_err-require c =
    let on = c.from_residual-in_err-require in
    outcome_on on.result _ on.ensures.1 (words_left c.args.t.now (omega arith) c.in_ok-first.ensures c.in_ok-records.ensures c.in_ok-fields.ensures c.in_ok-pointers.ensures c.in_ok-variables.ensures c.in_ok-nodes.ensures c.in_ok-commands.ensures c.in_err-require.ensures.faults)

pub returns : goal.returns
returns c = layout_is c.args.t.now (omega arith) c.in_ok-first.ensures c.in_ok-records.ensures c.in_ok-fields.ensures c.in_ok-pointers.ensures c.in_ok-variables.ensures c.in_ok-nodes.ensures c.in_ok-commands.ensures c.in_ok-require.ensures.faults
