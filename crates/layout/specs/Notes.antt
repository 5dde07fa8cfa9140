-- What the check notes of a node for those who come after it: its type, and in bits above the type what is known of it.
use Rattle.std.specs.Prelude.{ℕ, ◌+◌, eqb, if◌then◌else◌}
use Rattle.semantics.specs.Words.{Words}
use Rattle.semantics.specs.Table.{Edition, edition_1, edition_2, nodes, item, Kind, variable, deref, field, constant, sum, read, address, cast, size, malloc, copy, unknown, node_kind, node_a, node_type}

-- Types are below the lowest bit: base and end go with the value whatever the type.
abbrev pub bounds_bit : ℕ
bounds_bit = 128

abbrev pub constant_bit : ℕ
constant_bit = 256

-- A variable, or the read of one.
abbrev pub variable_bit : ℕ
variable_bit = 512

abbrev pub place_bit : ℕ
place_bit = 1024

-- A note as of an edition: edition 2 adds that bit.
abbrev pub as_of : Edition → ℕ → ℕ
as_of edition_1 x = x
as_of edition_2 x = x + bounds_bit

-- The bits of a node of this kind whose first child is of the kind with number c.
abbrev pub bits : Kind → ℕ → ℕ
bits variable c = place_bit + variable_bit
bits deref c = place_bit
bits field c = place_bit
bits constant c = constant_bit
bits sum c = 0
bits read c = if eqb c 1 then variable_bit else 0
bits address c = 0
bits cast c = 0
bits size c = 0
bits malloc c = 0
bits copy c = 0
bits unknown c = 0

-- The note of node n as of this edition. The check of nodes makes all notes as of edition 1; those that a run goes by are of the table's own.
unfoldable pub note : Edition → Words → ℕ → ℕ
note e t n = as_of e (node_type t n + bits (node_kind t n) (item t nodes (node_a t n) 0))
