-- The words below the loop's place are 0, and the others are as they were.
use Rattle.std.proofs.Common.{◌≡◌, ◌++◌, replicate, drop}
use Rattle.words.proofs.clear.Given as goal

abbrev pub invariant-loop-word : goal.invariant-loop-word
invariant-loop-word l = l.list ≡ replicate l.word-index 0 ++ drop l.word-index l.fn.list
