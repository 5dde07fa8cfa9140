-- Laws of what is looked up: targets, fields, sizes and offsets.
use Prim.Native.Nat.{ℕ, ◌+◌, ◌*◌, ◌-◌, ◌≤◌, ◌<◌}
use mathlib.Core.Bool.{Bool, true, false}
use mathlib.Core.Path.{◌≡◌, ap}
use native.Mathlib.Omega.{arith}
use borrow.Author.Tests.{ltb-true, lt-ltb, le-ltb}
use lib.Dec.{leb, ltb}
use lib.ListN.{length}
use Rattle.semantics.specs.Words.{Words, word}
use Rattle.semantics.specs.Table.{entry_words, fields, count_place, count, item_place, item, entry_type, known_type, known_target, target, points_to_type, points_to_record, pointed_record, entry_below, field_total, first_field, field_type}
use Rattle.semantics.specs.Check.{require}
use Rattle.semantics.proofs.Passed.{TypesPassed, section_ok, record_known}
use Rattle.layout.specs.Types.{mark_below, RecordIn}
use Rattle.layout.proofs.Types.{record_in}
use Rattle.nodes.specs.Nodes.{field_found}
use Rattle.nodes.specs.Promises.{TargetAt, FieldsAt}
use Rattle.layout.specs.Refusals.{is, refused}

-- The entries of a section stand in the table.
pub extent : {t : Words} → TypesPassed t → (s : ℕ) → s < 6 → count_place t s + 1 + word entry_words s * count t s ≤ length t
unfolding count_place count
extent {t} ok s h = (section_ok t s (ok.sections s h)).extent

pub few_records : {t : Words} → TypesPassed t → count t 0 ≤ 32
few_records {t} ok = (section_ok t 0 (ok.sections 0 (omega arith))).limited

pub few_fields : {t : Words} → TypesPassed t → count t 1 ≤ 128
few_fields {t} ok = (section_ok t 1 (ok.sections 1 (omega arith))).limited

pub few_pointers : {t : Words} → TypesPassed t → count t 2 ≤ 64
few_pointers {t} ok = (section_ok t 2 (ok.sections 2 (omega arith))).limited

-- ---- targets

module _ {t : Words} {targets ty : ℕ} (h : TargetAt t targets ty) where
  pub target_inside : targets + (ty - 2) < length t
  unfolding known_type
  target_inside = omega (arith, h.first, h.entry, ltb-true ty (2 + count t 2) h.known, extent h.types_pass 2 (omega arith))

  pub target_found : target t ty ≡ word t (targets + (ty - 2))
  unfolding target item item_place
  target_found = ap (word t) (omega (arith, h.first))

module _ (t : Words) (ty : ℕ) where
  pub int_to_type : leb 2 ty ≡ false → points_to_type t ty ≡ false
  unfolding points_to_type
  int_to_type h = rw h

  pub int_to_record : leb 2 ty ≡ false → points_to_record t ty ≡ false
  unfolding points_to_record
  int_to_record h = rw h

  module _ (entry : leb 2 ty ≡ true) where
    pub to_type : (b : Bool) {to : ℕ} → to ≡ target t ty → ltb to 65536 ≡ b → points_to_type t ty ≡ b
    unfolding points_to_type
    to_type b e h = rw (entry, ← e) h

    pub to_record : (b : Bool) {to : ℕ} → to ≡ target t ty → leb 65536 to ≡ b → points_to_record t ty ≡ b
    unfolding points_to_record
    to_record b e h = rw (entry, ← e) h

-- A known type is a known target.
pub type_target : (t : Words) (x : ℕ) → known_type t x ≡ true → known_target t x ≡ true
unfolding known_target
type_target t x k = rw k

-- A known pointer to a record has one of the table's records as its target.
pub record_less : {t : Words} → TypesPassed t → (ty : ℕ) → known_type t ty ≡ true → leb 2 ty ≡ true → {to : ℕ} → to ≡ target t ty → leb 65536 to ≡ true → to - 65536 < count t 0
unfolding pointed_record
record_less {t} ok ty known entry e far = rw e (record_known ok ty known (to_record t ty entry true e far))

-- The type that is noted for a target that an entry has.
pub mark_entry : (t : Words) (n x : ℕ) → entry_below t n x < n → mark_below t n x ≡ entry_type (entry_below t n x)
unfolding mark_below
mark_entry t n x h = rw (lt-ltb (entry_below t n x) n h)

-- ---- records

-- Record r as the list has it; its fields stand in the table.
pub record RecordAt (t first : Words) (at r : ℕ) : Type 0 where
  pub listed : RecordIn t first r
  pub inside : at + 2 * (first_field t r + field_total t r) ≤ length t
  pub most : first_field t r + field_total t r ≤ 128

pub record_at : {t first : Words} {at : ℕ} → FieldsAt t first at → (r : ℕ) → r < count t 0 → RecordAt t first at r
record_at h r less =
    let ok = h.types_pass in
    let g = record_in ok h.firsts r less in
    record { listed = g; inside = omega (arith, g.inside, h.start, extent ok 1 (omega arith)); most = omega (arith, g.inside, few_fields ok) }

-- Field f of record r stands at place at.
pub field_type_at : (t : Words) (fields r f at : ℕ) → fields ≡ count_place t 1 + 1 → at ≡ fields + 2 * (first_field t r + f) → field_type t r f ≡ word t at
unfolding field_type item item_place
field_type_at t fields r f at first e = ap (word t) (omega arith)

pub no_field : (t : Words) (r f p : ℕ) → field_total t r ≤ f → refused 8 p ≡ field_found t r f p
unfolding field_found require
no_field t r f p h = rw (le-ltb f (field_total t r) h)

pub field_is : (t : Words) (r f p ty : ℕ) → f < field_total t r → ty ≡ field_type t r f → is ty ≡ field_found t r f p
unfolding field_found require
field_is t r f p ty h e = rw (lt-ltb f (field_total t r) h, e)
