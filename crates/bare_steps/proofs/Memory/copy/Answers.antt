use Rattle.std.proofs.Common.{length, refl, sym, ap, ◌∙◌, arith}
use Rattle.semantics.specs.Bare.{copy_step}
use Rattle.semantics.proofs.Lists.{moved_length}
use Rattle.bare_steps.specs.Answers.{state_of}
use Rattle.bare_steps.proofs.Steps.{goes_on, words_copied, source_outside, target_outside}
use Rattle.bare_steps.proofs.Memory.copy.Goals as goal

pub returns-then-not-has_words-clause-finishes : goal.returns-then-not-has_words-clause-finishes
returns-then-not-has_words-clause-finishes c = goes_on (copy_step c.args.k c.args.to) _ refl c.if-from-ge-FULL.false (source_outside _ _ _ _ c.requires.0 (sym c.if-not-has_words.ensures))

pub returns-then-not-has_words-2-clause-finishes : goal.returns-then-not-has_words-2-clause-finishes
returns-then-not-has_words-2-clause-finishes c = goes_on (copy_step c.args.k c.args.to) _ refl c.if-from-ge-FULL.false (target_outside _ _ _ _ c.requires.0 (sym c.if-not-has_words-2.ensures))

pub returns-clause-finishes : goal.returns-clause-finishes
returns-clause-finishes c =
    let s = state_of c.args.self.now in
    let m = s.values in
    let all = c.move_words.ensures in
    goes_on (copy_step c.args.k c.args.to) s (ap length all ∙ moved_length m c.args.to c.args.from c.args.k) c.if-from-ge-FULL.false
    (words_copied s _ _ _ (sym c.if-not-has_words.ensures) (sym c.if-not-has_words-2.ensures) all refl refl (omega arith))
