-- `table::check` meets its contract.
use Rattle.std.proofs.Common.{arith, refl, sym, ◌∙◌}
use Rattle.layout.proofs.Laws.{outcome_on}
use Rattle.layout.proofs.Sections.{parsed_passes, parsed_refused, laid_out}
use Rattle.layout.proofs.Types.{zeros}
use Rattle.table.proofs.Nodes.{few_uses}
use Rattle.table.proofs.Whole.{records_noted, nodes_refuse, commands_refuse, past_commands, types_passed, all_counted, parsed_layout, sections_ended, types_ended, rest_ended, all_passed}
use Rattle.table.proofs.check.Goals as goal

pub returns-in_err-l : goal.returns-in_err-l
returns-in_err-l c = sections_ended _ _ _ _ _ (outcome_on c.from_residual.result _ c.from_residual.ensures.1 refl) (parsed_refused _ (sym c.in_err-l.ensures))

pub check_types-requires-clause-laid_out : goal.check_types-requires-clause-laid_out
check_types-requires-clause-laid_out c = laid_out c.args.t.now _ (sym c.in_ok-l.ensures)

pub returns-in_err-check_types : goal.returns-in_err-check_types
returns-in_err-check_types c =
    let on = c.from_residual-in_err-check_types in
    types_ended _ _ _ _ _ (parsed_passes _ _ (sym c.in_ok-l.ensures)) c.check_types.ensures.lists.0 (outcome_on on.result _ on.ensures.1 refl) (sym c.in_err-check_types.ensures.found.verdict)

pub check_nodes-requires : goal.check_nodes-requires
check_nodes-requires c =
    let sections = parsed_passes c.args.t.now _ (sym c.in_ok-l.ensures) in
    let types = sym c.in_ok-check_types.ensures.found.verdict in (
      laid_out c.args.t.now _ (sym c.in_ok-l.ensures),
      types_passed _ sections types,
      c.in_ok-check_types.ensures.found.found types,
      record { notes_length = c.requires.notes_length; uses_length = refl; clear = zeros 512 },
    )

pub returns-in_err-check_nodes : goal.returns-in_err-check_nodes
returns-in_err-check_nodes c =
    let sections = parsed_passes c.args.t.now _ (sym c.in_ok-l.ensures) in
    let types = sym c.in_ok-check_types.ensures.found.verdict in
    let on = c.from_residual-in_err-check_nodes in
    rest_ended _ _ _ _ _ sections c.check_types.ensures.lists.0 types c.check_nodes.ensures.lists (outcome_on on.result _ on.ensures.1 refl) (nodes_refuse _ sections types (sym c.in_err-check_nodes.ensures.found.verdict))

pub check_commands-requires : goal.check_commands-requires
check_commands-requires c =
    let l = laid_out c.args.t.now _ (sym c.in_ok-l.ensures) in
    let h = l.nodes_stand in
    let found = c.in_ok-check_nodes.ensures.found.found (sym c.in_ok-check_nodes.ensures.found.verdict) in (
      l.commands_stand,
      record { all = h.total; few_nodes = h.limited; noted_to = rw h.total found.noted_to; room = found.uses_length; few = λ i. omega (arith, few_uses found i, h.total, h.limited) },
    )

pub returns-in_err-check_commands : goal.returns-in_err-check_commands
returns-in_err-check_commands c =
    let sections = parsed_passes c.args.t.now _ (sym c.in_ok-l.ensures) in
    let types = sym c.in_ok-check_types.ensures.found.verdict in
    let nodes = sym c.in_ok-check_nodes.ensures.found.verdict in
    let on = c.from_residual-in_err-check_commands in
    rest_ended _ _ _ _ _ sections c.check_types.ensures.lists.0 types c.check_nodes.ensures.lists (outcome_on on.result _ on.ensures.1 refl) (commands_refuse _ sections types nodes (sym c.in_err-check_commands.ensures.verdict))

pub check_uses-requires : goal.check_uses-requires
check_uses-requires c =
    let h = (laid_out c.args.t.now _ (sym c.in_ok-l.ensures)).nodes_stand in
    omega (arith, h.limited, h.extent)

pub returns-in_err-check_uses : goal.returns-in_err-check_uses
returns-in_err-check_uses c =
    let sections = parsed_passes c.args.t.now _ (sym c.in_ok-l.ensures) in
    let types = sym c.in_ok-check_types.ensures.found.verdict in
    let nodes = sym c.in_ok-check_nodes.ensures.found.verdict in
    let commands = sym c.in_ok-check_commands.ensures.verdict in
    let l = laid_out c.args.t.now _ (sym c.in_ok-l.ensures) in
    let counted = all_counted (c.in_ok-check_nodes.ensures.found.found nodes) (c.in_ok-check_commands.ensures.found commands) in
    let on = c.from_residual-in_err-check_uses in
    rest_ended _ _ _ _ _ sections c.check_types.ensures.lists.0 types c.check_nodes.ensures.lists (outcome_on on.result _ on.ensures.1 refl)
    (past_commands _ sections types nodes commands ∙ sym (c.in_err-check_uses.ensures _ l.nodes_stand counted))

pub note_sizes-requires-clause-stands : goal.note_sizes-requires-clause-stands
note_sizes-requires-clause-stands c =
    let sections = parsed_passes c.args.t.now _ (sym c.in_ok-l.ensures) in
    let types = sym c.in_ok-check_types.ensures.found.verdict in
    let l = laid_out c.args.t.now _ (sym c.in_ok-l.ensures) in
    (l.fields_stand, types_passed _ sections types, l.records_stand.total, (c.in_ok-check_types.ensures.found.found types).firsts)

pub returns : goal.returns
returns c =
    let sections = parsed_passes c.args.t.now _ (sym c.in_ok-l.ensures) in
    let types = sym c.in_ok-check_types.ensures.found.verdict in
    let nodes = sym c.in_ok-check_nodes.ensures.found.verdict in
    let commands = sym c.in_ok-check_commands.ensures.verdict in
    let l = laid_out c.args.t.now _ (sym c.in_ok-l.ensures) in
    let counted = all_counted (c.in_ok-check_nodes.ensures.found.found nodes) (c.in_ok-check_commands.ensures.found commands) in
    let whole = past_commands _ sections types nodes commands ∙ sym (c.in_ok-check_uses.ensures _ l.nodes_stand counted) in
    let noted = records_noted _ _ (types_passed _ sections types) c.requires.size_length c.requires.offset_length c.note_sizes.ensures.0 c.note_sizes.ensures.1 in
    all_passed _ _ _ _ _ sections c.check_types.ensures.lists.0 types c.check_nodes.ensures.lists whole (c.in_ok-l.ensures ∙ parsed_layout _ sections) c.note_sizes.ensures.0 c.note_sizes.ensures.1
    (record { noted = (c.in_ok-check_nodes.ensures.found.found nodes).noted_to.noted; firsts = (c.in_ok-check_types.ensures.found.found types).firsts; size_is = noted.0; offset_is = noted.1 })
