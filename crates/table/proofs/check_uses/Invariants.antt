-- The nodes before n are used once.
use Rattle.std.proofs.Common.{◌≡◌, ℕ, ◌<◌}
use Rattle.semantics.specs.Words.{word}
use Rattle.table.proofs.check_uses.Given as goal

abbrev pub invariant-loop-n : goal.invariant-loop-n
invariant-loop-n l = (k : ℕ) → k < l.n → word l.uses k ≡ 1
