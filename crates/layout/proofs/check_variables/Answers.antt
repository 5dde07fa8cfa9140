-- What is required of variable i is its part of the definition.
use Rattle.std.proofs.Common.{refl, sym, ◌∙◌, arith}
use Rattle.layout.proofs.Laws.{each_more, each_refuses, verdict_on, entry_word}
use Rattle.layout.proofs.Types.{variable_by}
use Rattle.layout.proofs.check_variables.Goals as goal

pub returns-in_err-require : goal.returns-in_err-require
returns-in_err-require c =
    let h = c.requires.0 in
    let i = c.loop-i.i in
    let fault = variable_by h i (c.known_type-known.ensures _ c.requires.1) (entry_word h i 0 _ refl (c.entries-x-items.ensures.same i 0 (omega arith) (omega arith))) in
    verdict_on c.from_residual.result _ c.from_residual.ensures.1 (each_refuses _ i c.loop-i.invariant _ (omega arith) (sym fault ∙ sym c.in_err-require.ensures.faults))

pub loop-i-preserved : goal.loop-i-preserved
loop-i-preserved c =
    let h = c.requires.0 in
    let i = c.loop-i.i in
    let fault = variable_by h i (c.known_type-known.ensures _ c.requires.1) (entry_word h i 0 _ refl (c.entries-x-items.ensures.same i 0 (omega arith) (omega arith))) in
    each_more _ i c.loop-i.invariant (sym fault ∙ sym c.in_ok-require.ensures.faults)
