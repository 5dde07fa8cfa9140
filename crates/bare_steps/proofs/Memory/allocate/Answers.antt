use Rattle.std.proofs.Common.{◌≡◌, ◌+◌, ◌-◌, length, replicate, refl, ap, ◌∙◌, arith}
use Rattle.std.proofs.Math.Seq.{length-sets, sets}
use Rattle.semantics.specs.Bare.{malloc_step}
use Rattle.bare_steps.specs.Answers.{state_of}
use Rattle.bare_steps.proofs.Steps.{goes_on, none_wanted, too_many, handed_out}
use Rattle.bare_steps.proofs.Memory.allocate.Goals as goal

pub returns-then-v-eq0-clause-finishes : goal.returns-then-v-eq0-clause-finishes
returns-then-v-eq0-clause-finishes c = goes_on malloc_step _ refl c.if-v-ge-FULL.false (none_wanted _ _ c.if-v-eq0.true)

pub returns-then-self-top-clause-finishes : goal.returns-then-self-top-clause-finishes
returns-then-self-top-clause-finishes c = goes_on malloc_step _ refl c.if-v-ge-FULL.false (too_many _ _ c.if-v-eq0.false c.if-self-top.true)

pub returns-clause-finishes : goal.returns-clause-finishes
returns-clause-finishes c =
    let s = state_of c.args.self.now in
    let m = c.args.self.now.values.now in
    let u = c.args.self.now.unused in
    let v = c.args.v in
    let many : u + v - u ≡ v = omega arith in
    let cleared : c.clear_part.new.list ≡ sets m u (replicate v 0) = c.clear_part.ensures ∙ ap (λ n. sets m u (replicate n 0)) many in
    goes_on malloc_step s (ap length cleared ∙ length-sets m u (replicate v 0)) c.if-v-ge-FULL.false (handed_out s v c.if-v-eq0.false c.if-self-top.false cleared refl refl (omega arith))
