-- The list is filled up to i.
use Rattle.std.proofs.Common.{◌≡◌, ◌+◌}
use Rattle.semantics.specs.Table.{first_field}
use Rattle.layout.specs.Lists.{filled}
use Rattle.layout.proofs.note_first.Given as goal

abbrev pub invariant-loop-i : goal.invariant-loop-i
invariant-loop-i l = (l.sum ≡ first_field l.t l.i) × (l.first ≡ filled l.initial.first 0 (l.i + 1) (first_field l.t))
