-- The notes before x have the bit, the others are as they were.
use Rattle.std.proofs.Common.{◌≡◌}
use Rattle.semantics.specs.Words.{word}
use Rattle.semantics.specs.Table.{edition_2}
use Rattle.layout.specs.Lists.{filled}
use Rattle.layout.specs.Notes.{as_of}
use Rattle.table.proofs.note_bounds.Given as goal

abbrev pub invariant-loop-x : goal.invariant-loop-x
invariant-loop-x l = l.x-items ≡ filled l.initial.x-items 0 l.x-index (λ k. as_of edition_2 (word l.fn.notes k))
