-- What is required of record i is its part of the definition.
use Rattle.std.proofs.Common.{refl, sym, ◌∙◌, arith}
use Rattle.layout.proofs.Laws.{each_more, each_refuses, verdict_on, entry_word}
use Rattle.layout.proofs.Types.{record_by}
use Rattle.layout.proofs.check_records.Goals as goal

pub returns-in_err-require : goal.returns-in_err-require
returns-in_err-require c =
    let h = c.requires in
    let i = c.loop-i.i in
    let total = entry_word h i 0 _ refl (c.entries-total-items.ensures.same i 0 (omega arith) (omega arith)) in
    verdict_on c.from_residual.result _ c.from_residual.ensures.1 (each_refuses _ i c.loop-i.invariant _ (omega arith) (sym (record_by h i total) ∙ sym c.in_err-require.ensures.faults))

pub loop-i-preserved : goal.loop-i-preserved
loop-i-preserved c =
    let h = c.requires in
    let i = c.loop-i.i in
    let total = entry_word h i 0 _ refl (c.entries-total-items.ensures.same i 0 (omega arith) (omega arith)) in
    each_more _ i c.loop-i.invariant (sym (record_by h i total) ∙ sym c.in_ok-require.ensures.faults)
