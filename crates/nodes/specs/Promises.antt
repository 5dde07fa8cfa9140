-- What the functions of this crate require and promise.
use Rattle.std.specs.Prelude.{ℕ, ⊤, Result, Ok, Err, ◌+◌, ◌≤◌, ◌<◌, true, ◌≡◌, [], length, set}
use Rattle.semantics.specs.Words.{Words, word}
use Rattle.semantics.specs.Table.{edition_1, records, fields, pointers, variables, nodes, count_place, count, item_place, known_type, first_field, children}
use Rattle.semantics.specs.Check.{Verdict, passes, refused, each, node_fault, occurrences}
use Rattle.semantics.proofs.Passed.{TypesPassed}
use Rattle.layout.specs.Layout.{Stands}
use Rattle.layout.specs.Refusals.{number_of, verdict_of}
use Rattle.layout.specs.Lists.{by_verdict}
use Rattle.layout.specs.Types.{Tabulated, Marks}
use Rattle.layout.specs.Notes.{note}
use Rattle.layout.specs.declared.Table.{Table}
use Rattle.layout.specs.declared.Refusal.{Refusal}

-- The types in sections 1 to 4 and the nodes before n pass, and the list has the notes of these nodes.
pub record NotedTo (t notes : Words) (n : ℕ) : Type 0 where
  pub types_pass : TypesPassed t
  pub nodes_pass : each n (node_fault t) ≡ passes
  pub noted : (i : ℕ) → i < n → word notes i ≡ note edition_1 t i

-- Node n stands at place.
pub record Placed (t : Words) (n place : ℕ) : Type 0 where
  pub here : place ≡ item_place t nodes n 0

-- Node n stands at place, and what is before it is noted.
pub record Reached (t notes : Words) (n place : ℕ) : Type 0 where
  pub noted_to : NotedTo t notes n
  pub here : place ≡ item_place t nodes n 0
  pub inside : place + 3 ≤ length t
  pub few : n < 512

-- It is so in some table.
pub record Reaches (notes : Words) (n place : ℕ) : Type 0 where
  pub table : Words
  pub reached : Reached table notes n place

-- A known type that is a pointer entry, and the place of the first entry.
pub record TargetAt (t : Words) (targets ty : ℕ) : Type 0 where
  pub first : targets ≡ count_place t pointers + 1
  pub types_pass : TypesPassed t
  pub known : known_type t ty ≡ true
  pub entry : 2 ≤ ty

-- The list has the first field of each record, and the place of the first field.
pub record FieldsAt (t first : Words) (at : ℕ) : Type 0 where
  pub types_pass : TypesPassed t
  pub firsts : Tabulated first (count t records) (first_field t)
  pub start : at ≡ count_place t fields + 1

-- All that a node's check looks up.
pub record Lookups (t first entry : Words) (l : Table) : Type 0 where
  pub record_count : l.records.count ≡ count t records
  pub fields_at : FieldsAt t first l.fields.at
  pub pointers_stand : Stands t pointers l.pointers
  pub variables_stand : Stands t variables l.variables
  pub marks : Marks t entry (count t pointers)

-- ---- what a node leaves

-- The verdict of an answer.
abbrev pub typed_verdict : Result ℕ Refusal → Verdict
typed_verdict (Ok ty) = passes
typed_verdict (Err r) = refused (number_of r.fault) r.place

-- An answer's type is so small that there is room for a note.
pub record Small (x : Result ℕ Refusal) : Type 0 where
  pub type_small : (ty : ℕ) → x ≡ Ok ty → ty < 128

-- The list with the note of node n, which has these bits, where the answer is a type; else as it was.
abbrev pub note_added : Result ℕ Refusal → ℕ → ℕ → Words → Words
note_added (Ok ty) mark n notes = set notes n (ty + mark)
note_added (Err r) mark n notes = notes

-- Each count rises by the occurrences in the list.
pub record Counted (used used' l : Words) : Type 0 where
  pub all : length used' ≡ length used
  pub more : (i : ℕ) → word used' i ≡ word used i + occurrences i l

-- A use of node x can be counted.
pub record Countable (used : Words) (x : ℕ) : Type 0 where
  pub room : length used ≡ 512
  pub inside : x < 512
  pub few : word used x < 4096

-- And one of node y after it.
pub record CountableBoth (used : Words) (x y : ℕ) : Type 0 where
  pub first : Countable used x
  pub inside : y < 512
  pub few : word used y < 4095

-- There is room for each note, and to count two more uses of each node.
pub record Room (notes used : Words) : Type 0 where
  pub notes_length : length notes ≡ 512
  pub uses_length : length used ≡ 512
  pub few : (i : ℕ) → word used i < 4095

-- The answer x to a node whose note has these bits is told. Where it is a type, the node's note is added and its uses of the children l are
-- counted; where it is a refusal, no word has changed.
pub record Told (x : Result ℕ Refusal) (mark n : ℕ) (l : Words) (r : Result ⊤ Refusal) (notes notes' used used' : Words) : Type 0 where
  pub verdict : verdict_of r ≡ typed_verdict x
  pub noted : notes' ≡ note_added x mark n notes
  pub counted : Counted used used' (by_verdict (typed_verdict x) l [])

-- The whole check of node n: where it passes, its note is added and its uses of children are counted; where it doesn't, no word has changed.
pub record Noted (t : Words) (n : ℕ) (r : Result ⊤ Refusal) (notes notes' used used' : Words) : Type 0 where
  pub verdict : verdict_of r ≡ node_fault t n
  pub noted : notes' ≡ by_verdict (node_fault t n) (set notes n (note edition_1 t n)) notes
  pub counted : Counted used used' (by_verdict (node_fault t n) (children t n) [])
