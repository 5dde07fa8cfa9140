use Rattle.std.proofs.Common.{refl, arith}
use Rattle.steps.specs.Answers.{below_limit, past_limit, no_words}
use Rattle.steps.proofs.Slots.has_room.Goals as goal

pub returns-then-top-self : goal.returns-then-top-self
returns-then-top-self c = below_limit (omega arith) (omega arith) refl

pub returns-then-top-len : goal.returns-then-top-len
returns-then-top-len c = past_limit (omega arith) (omega arith) (omega arith) refl refl refl

pub returns : goal.returns
returns c = no_words (omega arith) refl
