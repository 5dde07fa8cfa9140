use Rattle.std.proofs.Common.{refl, arith}
use Rattle.semantics.proofs.Tests.{place_inside, place_outside, words_are_left, one_number}
use Rattle.steps.proofs.words_left.Goals as goal
use Rattle.steps.proofs.words_left.Goals.{else-base-w-via-then-base-w+else-w-end, else-base-w-via-else-base-w}

pub returns-then-w-end : goal.returns-then-w-end
returns-then-w-end c = one_number (place_inside (omega arith) (omega arith) (omega arith)) (words_are_left _ _ _)

pub returns-else-base-w : goal.returns-else-base-w
returns-else-base-w c = elim c.else-base-w.branch [
  | else-base-w-via-then-base-w+else-w-end w ↦ one_number (place_outside (λ from upto. omega arith) refl) (words_are_left _ _ _)
  | else-base-w-via-else-base-w w ↦ one_number (place_outside (λ from upto. omega arith) refl) (words_are_left _ _ _)
]
