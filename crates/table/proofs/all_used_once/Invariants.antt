-- The loop counts all so far only if each of them is used once.
use Rattle.std.proofs.Common.{◌≡◌, ℕ, ◌<◌, ◌≤◌}
use Rattle.semantics.specs.Words.{word}
use Rattle.table.proofs.all_used_once.Given as goal

abbrev pub invariant-loop-used : goal.invariant-loop-used
invariant-loop-used l = record { most : l.once ≤ l.used-index; all : l.once ≡ l.used-index → (k : ℕ) → k < l.used-index → word l.uses k ≡ 1 }
