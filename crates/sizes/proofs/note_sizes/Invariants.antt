-- The records before r are noted.
use Rattle.std.proofs.Common.{◌≡◌}
use Rattle.sizes.specs.Sizes.{sizes_noted, offsets_noted}
use Rattle.sizes.proofs.note_sizes.Given as goal

abbrev pub invariant-loop-r : goal.invariant-loop-r
invariant-loop-r l = (l.size-items ≡ sizes_noted l.t l.r l.initial.size-items) × (l.offsets ≡ offsets_noted l.t l.r l.initial.offsets)
