-- What the check of a node answers: a refusal, or the node's type; and which sort it asks for.
use Rattle.std.specs.Prelude.{ℕ, ◌*◌, ◌/◌, ◌%◌, ltb}
use Rattle.semantics.specs.Words.{Words, word}
use Rattle.semantics.specs.Table.{nodes, item_place, field_total, field_type, Kind, Sort, place, value, operand_a, operand_b, type_by_kind, types_below}
use Rattle.semantics.specs.Check.{Verdict, passes, refused, ◌or_else◌, require, operand_fault, types_fit}
use Rattle.layout.specs.Notes.{variable_bit, place_bit}
use Rattle.layout.specs.Refusals as answer
use Rattle.nodes.specs.declared.Sort as wanted
use Rattle.nodes.specs.declared.Sort.TheVariants as wanted_as
use Rattle.layout.specs.Refusals.{Outcome, is}

-- The sort that a node is to be of.
abbrev pub sort_named : wanted.Sort → Sort
sort_named wanted_as.Value = value
sort_named wanted_as.Place = place

-- The bits of a read whose place has the note v.
abbrev pub read_bit : ℕ → ℕ
read_bit v = v % place_bit / variable_bit * variable_bit

-- The answer where the check says v and the type is ty.
abbrev pub typed_by : Verdict → ℕ → Outcome ℕ
typed_by passes ty = is ty
typed_by (refused n p) ty = answer.refused n p

-- The type of node n, if it is of this kind with these two other words.
abbrev pub type_found : Words → ℕ → Kind → ℕ → ℕ → ℕ
type_found t n k a b = type_by_kind t k a b (word (types_below t n))

-- A node's check after its kind: "a, b (7 or 5), then 8".
unfoldable pub kind_fault : Words → ℕ → Kind → ℕ → ℕ → Verdict
kind_fault t n k a b =
    operand_fault t n (operand_a k) a (item_place t nodes n 1)
    or_else operand_fault t n (operand_b k) b (item_place t nodes n 2)
    or_else require (types_fit t k a b) 8 (item_place t nodes n 0)

unfoldable pub typed_kind : Words → ℕ → Kind → ℕ → ℕ → Outcome ℕ
typed_kind t n k a b = typed_by (kind_fault t n k a b) (type_found t n k a b)

-- Field f of record r, for a node at p.
unfoldable pub field_found : Words → ℕ → ℕ → ℕ → Outcome ℕ
field_found t r f p = typed_by (require (ltb f (field_total t r)) 8 p) (field_type t r f)
