-- Document 01, "The table": editions, sections, types, sizes, and what a node's kind says of its two other words.
-- All of this is total: where a table is cut short or makes no sense, a word past its end counts as 0, and the check refuses it.
use Rattle.std.specs.Prelude.{ℕ, zero, suc, ◌+◌, ◌*◌, ◌-◌, Bool, ◌&&◌, ◌||◌, List, [], ◌∷◌, ◌++◌, leb, ltb, eqb, get_or, if◌then◌else◌}
use Rattle.semantics.specs.Words.{Words, word, sum_below, least_below, grow}

-- Request 8: "An edition 2 table starts with the word 4,294,967,295 and the word 2; the sections follow." The word 2 is asked for by the check.
pub data Edition : Type 0 where
  edition_1 edition_2 : Edition

abbrev pub edition_mark : ℕ
edition_mark = 4294967295

unfoldable pub edition : Words → Edition
edition t = if eqb (word t 0) edition_mark then edition_2 else edition_1

-- The words before the first section: none, or the mark and the 2. "Places count the mark and the 2".
abbrev pub mark_words : Edition → ℕ
mark_words edition_1 = 0
mark_words edition_2 = 2

-- "six sections in fixed order, each after its count. Numbering starts at 0 everywhere."
abbrev pub records : ℕ
records = 0

abbrev pub fields : ℕ
fields = 1

abbrev pub pointers : ℕ
pointers = 2

abbrev pub variables : ℕ
variables = 3

abbrev pub nodes : ℕ
nodes = 4

abbrev pub commands : ℕ
commands = 5

-- The words of one entry, and the most entries, of each section.
abbrev pub entry_words : Words
entry_words = 1 ∷ 2 ∷ 1 ∷ 1 ∷ 3 ∷ 2 ∷ []

abbrev pub limits : Words
limits = 32 ∷ 128 ∷ 64 ∷ 64 ∷ 512 ∷ 256 ∷ []

-- Where section s's count stands; for s = 6 where the table ends.
unfoldable pub count_place : Words → ℕ → ℕ
count_place t zero = mark_words (edition t)
count_place t (suc s) = count_place t s + 1 + word entry_words s * word t (count_place t s)

unfoldable pub count : Words → ℕ → ℕ
count t s = word t (count_place t s)

-- Where word j of entry i of section s stands, and what it is.
unfoldable pub item_place : Words → ℕ → ℕ → ℕ → ℕ
item_place t s i j = count_place t s + 1 + word entry_words s * i + j

unfoldable pub item : Words → ℕ → ℕ → ℕ → ℕ
item t s i j = word t (item_place t s i j)

-- "Types: 0 is int, 1 is pointer to void, 2 + i is pointer entry i."
abbrev pub int : ℕ
int = 0

abbrev pub void_pointer : ℕ
void_pointer = 1

abbrev pub entry_type : ℕ → ℕ
entry_type i = 2 + i

unfoldable pub is_pointer : ℕ → Bool
is_pointer ty = leb void_pointer ty

unfoldable pub known_type : Words → ℕ → Bool
known_type t ty = ltb ty (entry_type (count t pointers))

-- "the target: a type, or 65,536 + record number"
abbrev pub record_target : ℕ → ℕ
record_target r = 65536 + r

unfoldable pub known_target : Words → ℕ → Bool
known_target t x = known_type t x || leb (record_target 0) x && ltb x (record_target (count t records))

-- The target of a pointer type that is an entry.
unfoldable pub target : Words → ℕ → ℕ
target t ty = item t pointers (ty - 2) 0

unfoldable pub points_to_type : Words → ℕ → Bool
points_to_type t ty = leb (entry_type 0) ty && ltb (target t ty) (record_target 0)

unfoldable pub points_to_record : Words → ℕ → Bool
points_to_record t ty = leb (entry_type 0) ty && leb (record_target 0) (target t ty)

unfoldable pub pointed_record : Words → ℕ → ℕ
pointed_record t ty = target t ty - record_target 0

-- The first pointer entry below n with target x, or n if there is none. "No two entries have one target."
unfoldable pub entry_below : Words → ℕ → ℕ → ℕ
entry_below t n x = least_below n (λ i. eqb (item t pointers i 0) x)

-- "Records: one word each, its number of fields. Fields, in record order: a type and a count of words."
unfoldable pub field_total : Words → ℕ → ℕ
field_total t r = item t records r 0

unfoldable pub first_field : Words → ℕ → ℕ
first_field t r = sum_below r (field_total t)

unfoldable pub field_type : Words → ℕ → ℕ → ℕ
field_type t r f = item t fields (first_field t r + f) 0

unfoldable pub field_count : Words → ℕ → ℕ → ℕ
field_count t r f = item t fields (first_field t r + f) 1

-- "a field's offset is the sum of those before it"
unfoldable pub field_offset : Words → ℕ → ℕ → ℕ
field_offset t r f = sum_below f (field_count t r)

-- "Every type is one word in size; a record's size is the exact sum of its field counts"
unfoldable pub size_of : Words → ℕ → ℕ
size_of t x = if ltb x (record_target 0) then 1 else field_offset t (x - record_target 0) (field_total t (x - record_target 0))

-- Kinds 1 to 11, and every other word. Document 01 calls deref follow, and malloc obtain. Kind 11 is request 6's.
pub data Kind : Type 0 where
  variable deref field constant sum read address cast size malloc copy unknown : Kind

abbrev pub kinds : List Kind
kinds = unknown ∷ variable ∷ deref ∷ field ∷ constant ∷ sum ∷ read ∷ address ∷ cast ∷ size ∷ malloc ∷ copy ∷ []

unfoldable pub kind_of : ℕ → Kind
kind_of w = get_or kinds w unknown

pub data Sort : Type 0 where
  place value neither : Sort

pub data Operand : Type 0 where
  unused variable_number field_number any_word type_word target_word place_child value_child : Operand

-- A row of document 01's table of kinds.
pub record Row : Type 0 where
  pub sort : Sort
  pub a : Operand
  pub b : Operand

abbrev row : Sort → Operand → Operand → Row
row s a b = record { sort = s; a = a; b = b }

-- "Kinds 1 to 3 are places, 4 to 10 values." Request 6: "Add kind 11, a value". "A node's kind decides what its two other words mean. An unused b is 0."
abbrev pub row_of : Kind → Row
row_of variable = row place variable_number unused
row_of deref = row place value_child unused
row_of field = row place value_child field_number
row_of constant = row value any_word unused
row_of sum = row value value_child value_child
row_of read = row value place_child unused
row_of address = row value place_child unused
row_of cast = row value value_child type_word
row_of size = row value target_word unused
row_of malloc = row value value_child unused
row_of copy = row value value_child value_child
row_of unknown = row neither any_word any_word

abbrev pub sort_of : Kind → Sort
sort_of k = (row_of k).sort

abbrev pub operand_a : Kind → Operand
operand_a k = (row_of k).a

abbrev pub operand_b : Kind → Operand
operand_b k = (row_of k).b

unfoldable pub node_kind : Words → ℕ → Kind
node_kind t n = kind_of (item t nodes n 0)

abbrev pub node_a : Words → ℕ → ℕ
node_a t n = item t nodes n 1

abbrev pub node_b : Words → ℕ → ℕ
node_b t n = item t nodes n 2

abbrev pub child : Operand → ℕ → Words
child unused x = []
child variable_number x = []
child field_number x = []
child any_word x = []
child type_word x = []
child target_word x = []
child place_child x = x ∷ []
child value_child x = x ∷ []

-- The nodes that a node names, in the order in which they are evaluated.
unfoldable pub children : Words → ℕ → Words
children t n = child (operand_a (node_kind t n)) (node_a t n) ++ child (operand_b (node_kind t n)) (node_b t n)

-- The last column of document 01's table, and request 6's "a value of type int": the type of a node of this kind with these two other words, from
-- the types of its children.
abbrev pub type_by_kind : Words → Kind → ℕ → ℕ → (ℕ → ℕ) → ℕ
type_by_kind t variable a b type = item t variables a 0
type_by_kind t deref a b type = target t (type a)
type_by_kind t field a b type = field_type t (pointed_record t (type a)) b
type_by_kind t constant a b type = int
type_by_kind t sum a b type = type a
type_by_kind t read a b type = type a
type_by_kind t address a b type = entry_type (entry_below t (count t pointers) (type a))
type_by_kind t cast a b type = b
type_by_kind t size a b type = int
type_by_kind t malloc a b type = void_pointer
type_by_kind t copy a b type = int
type_by_kind t unknown a b type = int

-- The type of node n, from the types of the nodes before it: a child that isn't before it counts as an int.
unfoldable pub type_rule : Words → ℕ → Words → ℕ
type_rule t n types = type_by_kind t (node_kind t n) (node_a t n) (node_b t n) (word types)

-- The types of the nodes below n, and of node n.
unfoldable pub types_below : Words → ℕ → Words
types_below t n = grow (type_rule t) n

unfoldable pub node_type : Words → ℕ → ℕ
node_type t n = type_rule t n (types_below t n)
