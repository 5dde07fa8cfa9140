-- Places and values as trees (source document 004, figure 1), and elaboration: the tree of each node of a table.
-- What is known before the run is settled here: sizes, offsets and counts of fields, and what the edition and the types say of bounds.
use Rattle.std.specs.Prelude.{ℕ, Bool, true, false, ◌&&◌, List, get_or, if◌then◌else◌}
use Rattle.semantics.specs.Words.{Words, grow}
use Rattle.semantics.specs.Table.{Edition, edition_1, edition_2, edition, is_pointer, target, points_to_record, pointed_record, field_offset, field_count, size_of, Kind, variable, deref, field, constant, sum, read, address, cast, size, malloc, copy, unknown, node_kind, node_a, node_b, node_type}

-- Each constructor begins with its node's number.
mutual
  pub data Place : Type 0 where
    Variable : (node number : ℕ) → Place
    Deref : (node : ℕ) → Value → Place
    Field : (node offset words : ℕ) → Value → Place
    NoPlace : Place

  pub data Value : Type 0 where
    -- a constant or a size: its number
    Number : (node number : ℕ) → Value
    -- either: whether the right operand's bounds are taken where the left one has none; step: the words by which 1 moves the left operand
    Sum : (node : ℕ) (either : Bool) (step : ℕ) → Value → Value → Value
    -- bounds: whether base and end are read with the value
    Read : (node : ℕ) (bounds : Bool) → Place → Value
    Address : (node : ℕ) → Place → Value
    -- keeps: whether bounds are kept
    Cast : (node : ℕ) (keeps : Bool) → Value → Value
    Malloc : (node : ℕ) → Value → Value
    -- words: of the record, from the second value to the first
    Copy : (node words : ℕ) → Value → Value → Value
    NoValue : Value

-- The tree of a node, or none where the node makes no sense.
pub data Tree : Type 0 where
  place : Place → Tree
  value : Value → Tree
  senseless : Tree

abbrev pub as_place : Tree → Place
as_place (place p) = p
as_place (value v) = NoPlace
as_place senseless = NoPlace

abbrev pub as_value : Tree → Value
as_value (place p) = NoValue
as_value (value v) = v
as_value senseless = NoValue

-- Request 2: "a number added to a pointer to a record moves it by that number times the record's size .. Pointers to void and to
-- one-word types still move by words." An int does too: "Sum: modulo 4,294,967,296."
unfoldable pub step_of : Words → ℕ → ℕ
step_of t ty = if points_to_record t ty then size_of t (target t ty) else 1

-- What the editions have of their own. Whether base and end of a word of this type are read and assigned with its value. "Read: a pointer type gives
-- value, base and end of the word; int gives the value without bounds"; "Assign: a pointer type stores value, base and end; int stores the value
-- only". Request 8: in edition 2 "Every read and every assignment moves value, base and end."
abbrev pub moves_bounds : Edition → ℕ → Bool
moves_bounds edition_1 ty = is_pointer ty
moves_bounds edition_2 ty = true

-- Whether a cast from one type to another keeps bounds. "Cast: pointer to pointer keeps everything; from int, or to int, the value is kept without
-- bounds." Request 8: "In edition 2 a cast changes nothing".
abbrev pub keeps_bounds : Edition → (from to : ℕ) → Bool
keeps_bounds edition_1 from to = is_pointer from && is_pointer to
keeps_bounds edition_2 from to = true

-- Whether a sum may take the bounds of either operand. "A sum of a pointer and a number .. keeps its bounds." Request 8: "A sum takes the left bounds if
-- the left end isn't 0, else the right ones."
abbrev pub either_bounds : Edition → Bool
either_bounds edition_1 = false
either_bounds edition_2 = true

-- The tree of node n of this kind with these two other words, from the trees of its children.
abbrev pub tree_by_kind : Words → ℕ → Kind → ℕ → ℕ → (ℕ → Tree) → Tree
tree_by_kind t n variable a b tree = place (Variable n a)
tree_by_kind t n deref a b tree = place (Deref n (as_value (tree a)))
tree_by_kind t n field a b tree =
    place (Field n (field_offset t (pointed_record t (node_type t a)) b) (field_count t (pointed_record t (node_type t a)) b) (as_value (tree a)))
tree_by_kind t n constant a b tree = value (Number n a)
tree_by_kind t n sum a b tree = value (Sum n (either_bounds (edition t)) (step_of t (node_type t a)) (as_value (tree a)) (as_value (tree b)))
tree_by_kind t n read a b tree = value (Read n (moves_bounds (edition t) (node_type t n)) (as_place (tree a)))
tree_by_kind t n address a b tree = value (Address n (as_place (tree a)))
tree_by_kind t n cast a b tree = value (Cast n (keeps_bounds (edition t) (node_type t a) b) (as_value (tree a)))
tree_by_kind t n size a b tree = value (Number n (size_of t a))
tree_by_kind t n malloc a b tree = value (Malloc n (as_value (tree a)))
tree_by_kind t n copy a b tree = value (Copy n (size_of t (target t (node_type t a))) (as_value (tree a)) (as_value (tree b)))
tree_by_kind t n unknown a b tree = senseless

-- The tree of node n, from the trees of the nodes before it: a child that isn't before it has none.
unfoldable pub tree_rule : Words → ℕ → List Tree → Tree
tree_rule t n trees = tree_by_kind t n (node_kind t n) (node_a t n) (node_b t n) (λ x. get_or trees x senseless)

unfoldable pub trees_below : Words → ℕ → List Tree
trees_below t n = grow (tree_rule t) n

unfoldable pub tree_of : Words → ℕ → Tree
tree_of t n = tree_rule t n (trees_below t n)

unfoldable pub place_of : Words → ℕ → Place
place_of t n = as_place (tree_of t n)

unfoldable pub value_of : Words → ℕ → Value
value_of t n = as_value (tree_of t n)
