-- The inputs before i pass, and what is required of input i is its part of the definition.
use Rattle.std.proofs.Common.{refl, arith, sym, ◌∙◌}
use Rattle.semantics.specs.Check.{each}
use Rattle.layout.proofs.Laws.{each_more, each_refuses, verdict_on}
use Rattle.arguments.proofs.Arguments.{input_by}
use Rattle.arguments.proofs.check_inputs.Goals as goal

pub loop-i-init : goal.loop-i-init
unfolding each
loop-i-init c = refl

pub returns-in_err-require : goal.returns-in_err-require
returns-in_err-require c =
    verdict_on c.from_residual.result _ c.from_residual.ensures.1
    (each_refuses _ _ c.loop-i.invariant _ (omega arith) (sym (input_by _ _ c.requires.0 _ refl c.fits-fit.ensures) ∙ sym c.in_err-require.ensures.faults))

pub loop-i-preserved : goal.loop-i-preserved
loop-i-preserved c = each_more _ _ c.loop-i.invariant (sym (input_by _ _ c.requires.0 _ refl c.fits-fit.ensures) ∙ sym c.in_ok-require.ensures.faults)
