-- The fields before f are noted, and `offset` is the offset of field f.
use Rattle.std.proofs.Common.{◌≡◌}
use Rattle.semantics.specs.Table.{first_field, field_offset}
use Rattle.layout.specs.Lists.{filled}
use Rattle.sizes.proofs.note_offsets.Given as goal

abbrev pub invariant-loop-f : goal.invariant-loop-f
invariant-loop-f l =
    (l.offset ≡ field_offset l.t l.r l.f) × (l.offsets ≡ filled l.initial.offsets (first_field l.t l.r) l.f (field_offset l.t l.r))
