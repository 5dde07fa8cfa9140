-- The check of sections 1 to 4 and what it notes for the check of nodes.
use Rattle.std.specs.Prelude.{ℕ, zero, suc, ◌+◌, ◌-◌, ◌≤◌, ◌<◌, true, ◌≡◌, Result, ⊤, ltb, length, set, replicate, if◌then◌else◌}
use Rattle.semantics.specs.Words.{Words, word}
use Rattle.semantics.specs.Table.{records, fields, pointers, variables, count, item, record_target, known_target, entry_type, entry_below, field_total, first_field}
use Rattle.layout.specs.Refusals.{verdict_of}
use Rattle.layout.specs.Lists.{filled, by_verdict, passed_below}
use Rattle.layout.specs.declared.Refusal.{Refusal}
use Rattle.semantics.specs.Check.{Verdict, passes, ◌or_else◌, each, record_fault, field_sum_fault, field_fault, pointer_fault, variable_fault}

-- What is turned away of sections 1 to 4.
unfoldable pub types_fault : Words → Verdict
types_fault t =
    each (count t records) (record_fault t)
    or_else field_sum_fault t
    or_else each (count t fields) (field_fault t)
    or_else each (count t pointers) (pointer_fault t)
    or_else each (count t variables) (variable_fault t)

-- Where the pointer to the target x is noted: 66 types, then 32 records.
unfoldable pub slot : ℕ → ℕ
slot x = if ltb x (record_target 0) then x else 66 + (x - record_target 0)

-- The type "pointer to x" by the first n entries, or 0 if none of them has the target x.
unfoldable pub mark_below : Words → ℕ → ℕ → ℕ
mark_below t n x = if ltb (entry_below t n x) n then entry_type (entry_below t n x) else 0

-- The list holds g 0, g 1, .., g n.
pub record Tabulated (l : Words) (n : ℕ) (g : ℕ → ℕ) : Type 0 where
  pub holds : (k : ℕ) → k ≤ n → word l k ≡ g k

-- The list has the first field of record r and that of the next; all between are of the table's.
pub record RecordIn (t first : Words) (r : ℕ) : Type 0 where
  pub few : r < 32
  pub start : word first r ≡ first_field t r
  pub next : word first (r + 1) ≡ first_field t r + field_total t r
  pub inside : first_field t r + field_total t r ≤ count t fields

-- The list holds the pointers to known targets by the first n entries.
pub record Marks (t entry : Words) (n : ℕ) : Type 0 where
  pub mark_is : (x : ℕ) → known_target t x ≡ true → word entry (slot x) ≡ mark_below t n x

-- Lists in which the check notes what it finds.
pub record Room (first entry : Words) : Type 0 where
  pub first_length : length first ≡ 33
  pub entry_clear : entry ≡ replicate 98 0

-- The list with the first n entries noted, each at its target.
unfoldable pub marked : Words → ℕ → Words → Words
marked t zero l = l
marked t (suc n) l = set (marked t n l) (slot (item t pointers n 0)) (entry_type n)

-- What is turned away of section 1: a record's own word, then the sum of fields.
abbrev pub records_fault : Words → Verdict
records_fault t = each (count t records) (record_fault t) or_else field_sum_fault t

-- What the check leaves of first fields: those of all records, and their number after the last, where the records and their sum pass.
unfoldable pub first_left : Words → Words → Words
first_left t l = by_verdict (records_fault t) (filled l 0 (count t records + 1) (first_field t)) l

-- And of pointers: where records, sum and fields pass, the entries before the first at fault.
unfoldable pub entry_left : Words → Words → Words
entry_left t l =
    by_verdict (records_fault t or_else each (count t fields) (field_fault t))
    (marked t (passed_below (count t pointers) (pointer_fault t)) l)
    l

-- The answer is the verdict v, and where that passes P holds.
pub record Checked (r : Result ⊤ Refusal) (v : Verdict) (P : Type 0) : Type 0 where
  pub verdict : verdict_of r ≡ v
  pub found : v ≡ passes → P

-- All that the check of nodes looks up.
pub record LookedUp (t first entry : Words) : Type 0 where
  pub firsts : Tabulated first (count t records) (first_field t)
  pub marks : Marks t entry (count t pointers)
