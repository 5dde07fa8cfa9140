-- `table::check_nodes` meets its contract.
use Rattle.std.proofs.Common.{arith, sym}
use Rattle.layout.proofs.Laws.{refusal_on, each_refuses}
use Rattle.layout.proofs.Lists.{filled_none}
use Rattle.table.proofs.Nodes.{nodes_none, reached, room, nodes_more, notes_all, notes_more, notes_to}
use Rattle.table.proofs.check_nodes.Goals as goal

pub loop-n-init : goal.loop-n-init
loop-n-init c = record { noted = nodes_none c.requires.1 c.requires.3; list = sym (filled_none _ 0 _) }

pub check_node-requires : goal.check_node-requires
check_node-requires c =
    let p = c.requires in
    let l = p.0 in (
      reached l.nodes_stand c.loop-n-test.true c.loop-n.invariant.noted,
      record {
        record_count = l.records_stand.total;
        fields_at = record { types_pass = p.1; firsts = p.2.firsts; start = l.fields_stand.first };
        pointers_stand = l.pointers_stand;
        variables_stand = l.variables_stand;
        marks = p.2.marks;
      },
      room l.nodes_stand c.loop-n-test.true c.loop-n.invariant.noted,
    )

pub returns-in_err-check_node-clause-found : goal.returns-in_err-check_node-clause-found
returns-in_err-check_node-clause-found c =
    let fault = sym c.in_err-check_node.ensures.verdict in
    refusal_on c.from_residual.result _ c.from_residual.ensures.1 (each_refuses _ _ c.loop-n.invariant.noted.noted_to.nodes_pass _ (omega (arith, c.requires.0.nodes_stand.total)) fault)

pub returns-in_err-check_node-clause-lists : goal.returns-in_err-check_node-clause-lists
returns-in_err-check_node-clause-lists c =
    let fault = sym c.in_err-check_node.ensures.verdict in
    notes_to _ _ _ c.loop-n.invariant.noted.noted_to.nodes_pass c.loop-n.invariant.list c.check_node.ensures (omega (arith, c.requires.0.nodes_stand.total)) fault

pub loop-n-preserved : goal.loop-n-preserved
loop-n-preserved c =
    let pass = sym c.in_ok-check_node.ensures.verdict in
    record {
      noted = nodes_more c.requires.0.nodes_stand c.loop-n-test.true c.loop-n.invariant.noted c.check_node.ensures pass;
      list = notes_more _ _ _ c.loop-n.invariant.noted.noted_to.nodes_pass c.loop-n.invariant.list c.check_node.ensures pass;
    }

pub returns-clause-lists : goal.returns-clause-lists
returns-clause-lists c = notes_all _ _ _ c.loop-n.invariant.noted.noted_to.nodes_pass c.loop-n.invariant.list (omega (arith, c.requires.0.nodes_stand.total))
