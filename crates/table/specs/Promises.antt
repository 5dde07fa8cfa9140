-- What the functions of this crate require and promise.
use Rattle.std.specs.Prelude.{ℕ, ◌+◌, ◌≤◌, ◌<◌, ◌≡◌, [], ◌∷◌, Result, eqb, length}
use Rattle.semantics.specs.Words.{Words, word, sum_below}
use Rattle.semantics.specs.Table.{Edition, edition_1, edition_2, records, nodes, count, record_target, field_total, first_field, field_offset, size_of, place, value, children, node_type}
use Rattle.semantics.specs.Check.{Verdict, passes, ◌or_else◌, require, node_fault, is_child, occurrences, command_place, command_value, uses, check}
use Rattle.layout.specs.Layout.{sections_fault, layout_by}
use Rattle.layout.specs.Lists.{filled, by_verdict, passed_below}
use Rattle.layout.specs.Types.{types_fault, Tabulated, first_left}
use Rattle.layout.specs.Refusals.{outcome_of}
use Rattle.layout.specs.declared.Refusal.{Refusal}
use Rattle.layout.specs.declared.Table.{Table}
use Rattle.sizes.specs.Sizes.{sizes_noted, offsets_noted}
use Rattle.layout.specs.Notes.{as_of, note}
use Rattle.nodes.specs.Promises.{NotedTo}

-- No use is counted yet.
pub record Clear (notes used : Words) : Type 0 where
  pub notes_length : length notes ≡ 512
  pub uses_length : length used ≡ 512
  pub clear : (i : ℕ) → word used i ≡ 0

-- The list with the notes of the nodes before the first at fault.
unfoldable pub notes_noted : Words → Words → Words
notes_noted t l = filled l 0 (passed_below (count t nodes) (node_fault t)) (note edition_1 t)

-- The nodes below n are noted, and their uses of each node are counted.
pub record NodesNoted (t notes used : Words) (n : ℕ) : Type 0 where
  pub noted_to : NotedTo t notes n
  pub notes_length : length notes ≡ 512
  pub uses_length : length used ≡ 512
  pub counted : (i : ℕ) → word used i ≡ sum_below n (λ m. occurrences i (children t m))

-- The notes of n nodes as a table of this edition has them.
abbrev pub edition_noted : Edition → ℕ → Words → Words
edition_noted edition_1 n l = l
edition_noted edition_2 n l = filled l 0 n (λ i. as_of edition_2 (word l i))

-- "in a command its two words (7), then 8", for a command with these two words at place p.
unfoldable pub command_verdict : Words → ℕ → ℕ → ℕ → Verdict
command_verdict t p x v =
    require (is_child t place (count t nodes) x) 7 p
    or_else require (is_child t value (count t nodes) v) 7 (p + 1)
    or_else require (eqb (node_type t x) (node_type t v)) 8 p

-- All n nodes are noted, and there is room to count the commands' uses.
pub record CommandsReady (t notes used : Words) (n : ℕ) : Type 0 where
  pub all : n ≡ count t nodes
  pub few_nodes : n ≤ 512
  pub noted_to : NotedTo t notes n
  pub room : length used ≡ 512
  pub few : (i : ℕ) → word used i ≤ 1024

-- Each count rises by the uses that the first n commands make.
pub record CommandsCounted (t used used' : Words) (n : ℕ) : Type 0 where
  pub all : length used' ≡ length used
  pub more : (i : ℕ) → word used' i ≡ word used i + sum_below n (λ c. occurrences i (command_place t c ∷ command_value t c ∷ []))

-- The uses of each node, by nodes and commands.
pub record AllCounted (t used : Words) : Type 0 where
  pub all : (i : ℕ) → word used i ≡ uses t i

-- Lists of the right lengths.
pub record ListsReady (first sizes offsets notes : Words) : Type 0 where
  pub first_length : length first ≡ 33
  pub size_length : length sizes ≡ 32
  pub offset_length : length offsets ≡ 128
  pub notes_length : length notes ≡ 512

-- What the check leaves where it passes, with notes as of this edition.
pub record Left (e : Edition) (t first sizes offsets notes : Words) : Type 0 where
  pub noted : (n : ℕ) → n < count t nodes → word notes n ≡ note e t n
  pub firsts : Tabulated first (count t records) (first_field t)
  pub size_is : (r : ℕ) → r < count t records → word sizes r ≡ size_of t (record_target r)
  pub offset_is : (r f : ℕ) → r < count t records → f < field_total t r → word offsets (first_field t r + f) ≡ field_offset t r f

-- The answer of the whole check, and what its lists hold then, whether it passes or not: where a part is refused, the lists of the parts after
-- it are as they were.
pub record Checks (t first first' sizes sizes' offsets offsets' notes notes' : Words) (r : Result Table Refusal) : Type 0 where
  pub answer : outcome_of r ≡ layout_by t (check t)
  pub first_is : first' ≡ by_verdict (sections_fault t) (first_left t first) first
  pub notes_is : notes' ≡ by_verdict (sections_fault t or_else types_fault t) (notes_noted t notes) notes
  pub sizes_is : sizes' ≡ by_verdict (check t) (sizes_noted t (count t records) sizes) sizes
  pub offsets_is : offsets' ≡ by_verdict (check t) (offsets_noted t (count t records) offsets) offsets
  pub left : check t ≡ passes → Left edition_1 t first' sizes' offsets' notes'
