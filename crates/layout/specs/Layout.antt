-- The layout of a table, and this crate's answers as the definitions of the crate semantics have them.
use Rattle.std.specs.Prelude.{ℕ, ◌+◌, ◌*◌, ◌≤◌, Bool, true, false, ◌≡◌, length}
use Rattle.semantics.specs.Words.{Words, word}
use Rattle.semantics.specs.Table.{Edition, edition_1, edition_2, mark_words, records, fields, pointers, variables, nodes, commands, entry_words, limits, count_place, count}
use Rattle.semantics.specs.Check as check
use Rattle.semantics.specs.Check.{passes, refused, ◌or_else◌, edition_fault, each, section_fault, words_over}
use Rattle.layout.specs.Refusals as answer
use Rattle.layout.specs.Refusals.{Outcome}
use Rattle.layout.specs.declared.Section.{Section}
use Rattle.layout.specs.declared.Table.{Table}

-- The edition of a table with a mark, or without.
abbrev pub edition_by : Bool → Edition
edition_by true = edition_2
edition_by false = edition_1

-- Where the first section stands, where the check of the edition says v.
abbrev pub start_by : Edition → check.Verdict → Outcome ℕ
start_by e passes = answer.is (mark_words e)
start_by e (refused n p) = answer.refused n p

-- Section s of a table: its first entry stands after its count.
abbrev pub section_of : Words → ℕ → Section
section_of t s = record { at = count_place t s + 1; count = count t s }

abbrev pub layout : Words → Table
layout t =
    record {
      records = section_of t records;
      fields = section_of t fields;
      pointers = section_of t pointers;
      variables = section_of t variables;
      nodes = section_of t nodes;
      commands = section_of t commands;
    }

-- One section, where the check of it says v.
abbrev pub section_by : Words → ℕ → check.Verdict → Outcome Section
section_by t s passes = answer.is (section_of t s)
section_by t s (refused n p) = answer.refused n p

-- What is turned away before anything is looked up: another edition, the sections, words over.
abbrev pub sections_fault : Words → check.Verdict
sections_fault t = edition_fault t or_else each 6 (section_fault t) or_else words_over t

-- The whole layout, where the check of these says v.
abbrev pub layout_by : Words → check.Verdict → Outcome Table
layout_by t passes = answer.is (layout t)
layout_by t (refused n p) = answer.refused n p

unfoldable pub parsed : Words → Outcome Table
parsed t = layout_by t (sections_fault t)

-- Section s of the table stands where l says, within its limit and within the table. Contracts state it of a table's words and a section apart:
-- a value that held both would still need each contract to say which section it is, and would write `part.table.now` for `t.now`.
pub record Stands (t : Words) (s : ℕ) (l : Section) : Type 0 where
  pub first : l.at ≡ count_place t s + 1
  pub total : l.count ≡ count t s
  pub limited : l.count ≤ word limits s
  pub extent : l.at + word entry_words s * l.count ≤ length t

-- l is the layout of the table, and the checks of its sections pass.
pub record LaidOut (t : Words) (l : Table) : Type 0 where
  pub records_stand : Stands t records l.records
  pub fields_stand : Stands t fields l.fields
  pub pointers_stand : Stands t pointers l.pointers
  pub variables_stand : Stands t variables l.variables
  pub nodes_stand : Stands t nodes l.nodes
  pub commands_stand : Stands t commands l.commands
