-- `registers::check_extent` meets its contract. Assumes nothing.
use Rattle.std.proofs.Common.{arith, ◌∙◌, ltb-true, ltb-false, leb-true, leb-false}
use Rattle.layout.proofs.Laws.{verdict_on}
use Rattle.registers.proofs.Lists.{unmet_as, place_none, place_more, place_all, over_most, cut_short, extent_by, empty_list}
use Rattle.registers.proofs.check_extent.Goals as goal

pub returns-in_err-require : goal.returns-in_err-require
returns-in_err-require c =
    let none = ltb-false _ _ c.in_err-require.ensures.unmet in
    verdict_on c.from_residual.result _ c.from_residual.ensures.1 (unmet_as _ 13 _ c.in_err-require.ensures.faults c.in_err-require.ensures.unmet (empty_list _ (omega arith)))

pub returns-in_err-require-2 : goal.returns-in_err-require-2
returns-in_err-require-2 c =
    let on = c.from_residual-in_err-require-2 in
    verdict_on on.result _ on.ensures.1
    (unmet_as _ 13 _ c.in_err-require-2.ensures.faults c.in_err-require-2.ensures.unmet (over_most _ (leb-false _ _ c.in_err-require-2.ensures.unmet)))

pub loop-i-init : goal.loop-i-init
loop-i-init c = let some = ltb-true _ _ c.in_ok-require.ensures.met in (omega arith, place_none _, omega arith)

pub returns-in_err-require-3 : goal.returns-in_err-require-3
returns-in_err-require-3 c =
    let on = c.from_residual-in_err-require-3 in
    let past = leb-false _ _ c.in_err-require-3.ensures.unmet in
    let few = leb-true _ _ c.in_ok-require-2.ensures.met in
    verdict_on on.result _ on.ensures.1
    (unmet_as _ 13 _ c.in_err-require-3.ensures.faults c.in_err-require-3.ensures.unmet
    (cut_short _ few (place_more _ c.loop-i.i c.loop-i.invariant.1 c.register_end-p.ensures) (omega arith) past))

pub loop-i-preserved : goal.loop-i-preserved
loop-i-preserved c = (omega arith, place_more _ c.loop-i.i c.loop-i.invariant.1 c.register_end-p.ensures, leb-true _ _ c.in_ok-require-3.ensures.met)

pub returns : goal.returns
returns c =
    let few = leb-true _ _ c.in_ok-require-2.ensures.met in
    c.require-3.ensures.faults ∙ extent_by _ few (place_all _ c.loop-i.invariant.1 (omega arith)) c.loop-i.invariant.2
