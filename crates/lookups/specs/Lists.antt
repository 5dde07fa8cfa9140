-- The seven lists in which the evaluator reads a table that has passed the check.
use Rattle.std.specs.Prelude.{ℕ, ◌+◌, ◌*◌, ◌%◌, ◌≤◌, ◌<◌, Bool, true, false, not, ◌&&◌, ◌≡◌, ltb, length}
use Rattle.semantics.specs.Words.{Words, word}
use Rattle.semantics.specs.Table.{Edition, edition_1, edition_2, edition, records, fields, pointers, nodes, count, item, is_pointer, record_target, field_total, first_field, field_offset, size_of, field, node_kind}
use Rattle.semantics.proofs.Passed.{Passed}
use Rattle.layout.specs.Types.{Tabulated}
use Rattle.lookups.specs.declared.Lists.{Lists}
use Rattle.layout.specs.Notes.{bounds_bit, note}

-- Word j of node n.
abbrev pub part : Lists → ℕ → ℕ → ℕ
part l n j = word l.nodes.now (n * 3 + j)

-- A note of a pointer whose bounds go by its type: its edition has not added that base and end go with every value.
abbrev pub pointer_by_type : ℕ → Bool
pointer_by_type x = is_pointer (x % 256) && ltb (x % 256) bounds_bit

-- Node n has the type int in its second word, and its child is noted as such a pointer.
abbrev pub drops_bounds : Lists → ℕ → Bool
drops_bounds l n = not (is_pointer (part l n 2)) && pointer_by_type (word l.notes.now (part l n 1))

-- It is so of a node of this type, by the edition.
abbrev pub tracked_by_type : Edition → ℕ → Bool
tracked_by_type edition_1 ty = is_pointer ty
tracked_by_type edition_2 ty = false

-- l are the lists of the table t: its nodes, their notes, the targets of its pointers, its fields, the first field of each
-- record, the size of each record, and the offset of each field.
pub record ListsOf (t : Words) (l : Lists) : Type 0 where
  pub passed : Passed t
  pub node_is : (n j : ℕ) → n < count t nodes → j < 3 → part l n j ≡ item t nodes n j
  pub node_room : 3 * count t nodes ≤ length l.nodes.now
  pub note_is : (n : ℕ) → n < count t nodes → word l.notes.now n ≡ note (edition t) t n
  pub note_room : count t nodes ≤ length l.notes.now
  pub target_is : (i : ℕ) → i < count t pointers → word l.targets.now i ≡ item t pointers i 0
  pub target_room : count t pointers ≤ length l.targets.now
  pub field_is : (f : ℕ) → f < count t fields → word l.fields.now (2 * f + 1) ≡ item t fields f 1
  pub field_room : 2 * count t fields ≤ length l.fields.now
  pub firsts : Tabulated l.firsts.now (count t records) (first_field t)
  pub first_room : count t records < length l.firsts.now
  pub size_is : (r : ℕ) → r < count t records → word l.sizes.now r ≡ size_of t (record_target r)
  pub size_room : count t records ≤ length l.sizes.now
  pub offset_is : (r f : ℕ) → r < count t records → f < field_total t r → word l.offsets.now (first_field t r + f) ≡ field_offset t r f
  pub offset_room : count t fields ≤ length l.offsets.now

-- Node n of the table is a field.
pub record FieldNode (t : Words) (l : Lists) (n : ℕ) : Type 0 where
  pub lists : ListsOf t l
  pub node : n < count t nodes
  pub kind : node_kind t n ≡ field

-- It is one of some table with these lists.
pub record FieldReady (l : Lists) (n : ℕ) : Type 0 where
  pub table : Words
  pub is_field : FieldNode table l n

-- The table has the word x, a type or a target as the test says.
pub record KnownWord (test : Words → ℕ → Bool) (t : Words) (l : Lists) (x : ℕ) : Type 0 where
  pub lists : ListsOf t l
  pub known : test t x ≡ true

-- Some table with these lists has it.
pub record KnownReady (test : Words → ℕ → Bool) (l : Lists) (x : ℕ) : Type 0 where
  pub table : Words
  pub is_known : KnownWord test table l x
