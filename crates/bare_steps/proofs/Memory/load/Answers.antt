-- A word that the memory has is read; the place of a child whose evaluation ended is no such word.
use Rattle.std.proofs.Common.{refl, inl, inr, arith}
use Rattle.semantics.specs.Bare.{read_step}
use Rattle.bare_steps.proofs.Steps.{goes_on, word_read, read_stuck}
use Rattle.bare_steps.proofs.Memory.load.Goals as goal

pub returns-then-at-eq0 : goal.returns-then-at-eq0
returns-then-at-eq0 c = goes_on read_step _ refl (omega arith) (read_stuck _ _ (inl c.if-at-eq0.true))

pub returns-then-at-self : goal.returns-then-at-self
returns-then-at-self c = goes_on read_step _ refl (omega arith) (word_read _ c.args.at (omega arith) c.if-at-self.true refl (omega arith))

pub returns : goal.returns
returns c = goes_on read_step _ refl c.if-at-ge-FULL.false (read_stuck _ _ (inr c.if-at-self.false))
