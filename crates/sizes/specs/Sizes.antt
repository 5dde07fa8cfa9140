-- What a run looks up of a table's records: their sizes, and the offset of each field.
use Rattle.std.specs.Prelude.{ℕ, zero, suc}
use Rattle.semantics.specs.Words.{Words}
use Rattle.semantics.specs.Table.{record_target, field_total, first_field, field_offset, size_of}
use Rattle.layout.specs.Lists.{filled}

-- The list with the sizes of the first n records.
unfoldable pub sizes_noted : Words → ℕ → Words → Words
sizes_noted t n l = filled l 0 n (λ r. size_of t (record_target r))

-- The list with the offset of each field of the first n records.
unfoldable pub offsets_noted : Words → ℕ → Words → Words
offsets_noted t zero l = l
offsets_noted t (suc r) l = filled (offsets_noted t r l) (first_field t r) (field_total t r) (field_offset t r)
