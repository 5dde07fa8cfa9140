-- `table::check_uses` meets its contract.
use Rattle.std.proofs.Common.{◌∙◌, sym, arith, refl}
use Rattle.std.proofs.lemmas.List.{get_or-take}
use Rattle.semantics.specs.Table.{count}
use Rattle.semantics.specs.Check.{use_fault}
use Rattle.layout.proofs.Laws.{each_refuses, each_all, verdict_on}
use Rattle.table.proofs.Commands.{all_once, use_by}
use Rattle.table.proofs.check_uses.Goals as goal

pub returns-then-all_used_once : goal.returns-then-all_used_once
returns-then-all_used_once c t h all = each_all (use_fault t) c.args.nodes.count (count t 4) (omega (arith, h.total)) (all_once all _ (c.if-all_used_once.ensures refl))

pub returns-in_err-require : goal.returns-in_err-require
returns-in_err-require c t h all =
    let n = c.loop-n.n in
    let same = get_or-take c.args.nodes.count c.args.uses.now n 0 (omega arith) in
    verdict_on c.from_residual.result _ c.from_residual.ensures.1
    (each_refuses (use_fault t) n (all_once all _ c.loop-n.invariant) _ (omega (arith, h.total)) (sym (use_by all h n same) ∙ sym c.in_err-require.ensures.faults))

pub returns : goal.returns
returns c t h all = each_all (use_fault t) c.loop-n.n (count t 4) (omega (arith, h.total)) (all_once all _ c.loop-n.invariant)
