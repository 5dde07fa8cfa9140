-- Laws of what the evaluator looks up in a table's lists: nodes, targets, fields, sizes and offsets.
use Rattle.std.specs.Prelude.{if◌then◌else◌}
use Prim.Native.Nat.{ℕ, ◌+◌, ◌*◌, ◌-◌, ◌/◌, ◌%◌, ◌≤◌, ◌<◌}
use mathlib.Core.Bool.{Bool, true, false, ◌&&◌}
use mathlib.Core.Path.{◌≡◌, refl, sym, ap, ◌∙◌}
use mathlib.Core.Logic.{⊎_elim}
use native.Mathlib.Omega.{arith}
use native.Mathlib.Decide.{dec_lt}
use borrow.Author.Tests.{lt-leb, le-leb, lt-ltb, le-ltb, ltb-true, leb-true, eqb-true}
use lib.Dec.{leb, ltb, eqb}
use lib.ListN.{length}
use Rattle.semantics.specs.Words.{Words, word}
use Rattle.semantics.specs.Table.{Edition, edition_1, edition_2, edition, records, fields, pointers, nodes, count, item, is_pointer, known_type, known_target, target, points_to_record, pointed_record, field_total, first_field, field_offset, field_count, size_of, variable, field, constant, read, place, value, sort_of, node_kind, node_a, node_b, node_type}
use Rattle.semantics.specs.Syntax.{step_of, moves_bounds}
use Rattle.semantics.specs.Check.{is_child}
use Rattle.semantics.proofs.Passed.{TypesPassed, section_ok, require_passes, target_known, record_known, field_in}
use Rattle.semantics.proofs.Tests.{and_true, or_true}
use Rattle.semantics.proofs.Trees.{NodeOk, node_ok, is_child_true, types_known}
use Rattle.layout.specs.Types.{RecordIn}
use Rattle.lookups.specs.declared.Lists.{Lists}
use Rattle.layout.specs.Notes.{as_of, note}
use Rattle.layout.proofs.Notes.{type_noted, low_noted, bounds_noted, constant_noted, variable_noted, read_noted}
use Rattle.layout.proofs.Types.{record_in}
use Rattle.lookups.specs.Lists.{part, pointer_by_type, tracked_by_type, ListsOf, FieldNode, KnownWord}

and_trivial : (b : Bool) → b && true ≡ b
and_trivial true = refl
and_trivial false = refl

and_false : (b : Bool) → b && false ≡ false
and_false true = refl
and_false false = refl

few_fields : {t : Words} → TypesPassed t → count t fields ≤ 128
few_fields {t} ok = (section_ok t 1 (ok.sections 1 (omega arith))).limited

few_pointers : {t : Words} → TypesPassed t → count t pointers ≤ 64
few_pointers {t} ok = (section_ok t 2 (ok.sections 2 (omega arith))).limited

few_nodes : {t : Words} → TypesPassed t → count t nodes ≤ 512
few_nodes {t} ok = (section_ok t 4 (ok.sections 4 (omega arith))).limited

-- ---- nodes

module _ {t : Words} {l : Lists} (lists : ListsOf t l) {n : ℕ} (node : n < count t nodes) where
  pub item_inside : (j : ℕ) → j < 3 → (n < 512) × (j < 3) × (n * 3 + j < length l.nodes.now)
  item_inside j h = omega (arith, few_nodes lists.passed.types, lists.node_room)

  pub note_inside : (n < 512) × (n < length l.notes.now)
  note_inside = omega (arith, few_nodes lists.passed.types, lists.note_room)

  pub item_is : (j : ℕ) {x : ℕ} → j < 3 → x ≡ part l n j → x ≡ item t nodes n j
  item_is j h e = e ∙ lists.node_is n j node h

-- What the lists have noted of a node.
module _ {t : Words} {l : Lists} (lists : ListsOf t l) {a : ℕ} (inside : a < count t nodes) where
  known : known_type t (node_type t a) ≡ true
  known = types_known lists.passed.types (count t nodes) lists.passed.node_passes a inside

  small : node_type t a < 128
  unfolding known_type
  small = omega (arith, ltb-true (node_type t a) (2 + count t pointers) known, few_pointers lists.passed.types)

  -- Its type, which is known.
  pub noted_type : {y : ℕ} → y ≡ word l.notes.now a % 128 → (y ≡ node_type t a) × KnownWord known_type t l y
  noted_type e =
      let same = e ∙ ap (λ x. x % 128) (lists.note_is a inside) ∙ type_noted (edition t) t a small in
      (same, record { lists = lists; known = rw same known })

  -- Whether base and end go with its value.
  pub noted_bounds : {y : ℕ} → y ≡ word l.notes.now a % 256 → is_pointer y ≡ moves_bounds (edition t) (node_type t a)
  noted_bounds e = rw (e, lists.note_is a inside) (bounds_noted (edition t) t a small)

  -- Whether they go by its type.
  pub noted_by_type : {y : ℕ} → y ≡ word l.notes.now a → pointer_by_type y ≡ tracked_by_type (edition t) (node_type t a)
  noted_by_type e = rw (e, lists.note_is a inside, low_noted (edition t) t a small) (go (edition t))
    where
      go : (e : Edition) → is_pointer (as_of e (node_type t a)) && ltb (as_of e (node_type t a)) 128 ≡ tracked_by_type e (node_type t a)
      go edition_1 = rw (lt-ltb (node_type t a) 128 small) (and_trivial (is_pointer (node_type t a)))
      go edition_2 = rw (le-ltb (node_type t a + 128) 128 (omega arith)) (and_false (is_pointer (node_type t a + 128)))

  -- A bit of its note that is set.
  module _ {x : ℕ} {f : Bool} (e : x ≡ word l.notes.now a) (taken : f ≡ true) where
    is_set : {b : ℕ} → f ≡ eqb b 1 → b ≡ 1
    is_set {b} h = eqb-true b 1 (sym h ∙ taken)

    is_note : x ≡ note (edition t) t a
    is_note = e ∙ lists.note_is a inside

    pub constant_bit : f ≡ eqb (x / 256 % 2) 1 → node_kind t a ≡ constant
    constant_bit h = constant_noted (edition t) t a small (rw (← is_note) (is_set h))

    pub variable_bit : f ≡ eqb (x / 512 % 2) 1 → sort_of (node_kind t a) ≡ place → node_kind t a ≡ variable
    variable_bit h s = variable_noted (edition t) t a small s (rw (← is_note) (is_set h))

    pub read_bit : f ≡ eqb (x / 512 % 2) 1 → sort_of (node_kind t a) ≡ value → (node_kind t a ≡ read) × (item t nodes (node_a t a) 0 ≡ 1)
    read_bit h s = read_noted (edition t) t a small s (rw (← is_note) (is_set h))

-- ---- records

-- Record r as the lists have it.
record RecordAt (t : Words) (l : Lists) (r : ℕ) : Type 0 where
  first : RecordIn t l.firsts.now r
  less : r < length l.firsts.now
  most : count t fields ≤ 128
  size : word l.sizes.now r ≡ size_of t (65536 + r)
  size_room : r < length l.sizes.now

record_at : {t : Words} {l : Lists} → ListsOf t l → (r : ℕ) → r < count t records → RecordAt t l r
record_at h r less =
    let ok = h.passed.types in
    record {
      first = record_in ok h.firsts r less;
      less = omega (arith, h.first_room);
      most = few_fields ok;
      size = h.size_is r less;
      size_room = omega (arith, h.size_room);
    }

-- ---- pointer types

module _ {t : Words} {l : Lists} {y : ℕ} (h : KnownWord known_type t l y) (entry : 2 ≤ y) where
  entry_less : y - 2 < count t pointers
  unfolding known_type
  entry_less = omega (arith, ltb-true y (2 + count t pointers) h.known)

  pub entry_inside : y - 2 < length l.targets.now
  entry_inside = omega (arith, entry_less, h.lists.target_room)

  pub entry_target : word l.targets.now (y - 2) ≡ target t y
  unfolding target
  entry_target = h.lists.target_is (y - 2) entry_less

  pub target_word : {x : ℕ} → x ≡ target t y → KnownWord known_target t l x
  target_word e = record { lists = h.lists; known = rw e (target_known h.lists.passed.types y h.known entry) }

-- ---- a field's record: the type of its child is a pointer to one of the table's records, and that has the field

abbrev record_of : Words → ℕ → ℕ
record_of t n = pointed_record t (node_type t (node_a t n))

record FieldIn (t : Words) (l : Lists) (n : ℕ) : Type 0 where
  child : node_a t n < n
  type : word l.notes.now (node_a t n) % 128 ≡ node_type t (node_a t n)
  known : known_type t (node_type t (node_a t n)) ≡ true
  entry : 2 ≤ node_type t (node_a t n)
  far : 65536 ≤ target t (node_type t (node_a t n))
  rec : record_of t n < count t records
  less : node_b t n < field_total t (record_of t n)

field_found : {t : Words} {l : Lists} {n : ℕ} → FieldNode t l n → FieldIn t l n
unfolding points_to_record
field_found {t} {l} {n} h =
    let ok = h.lists.passed in
    let g : NodeOk t n field (node_a t n) (node_b t n) = rw h.kind at (node_ok t n (ok.node_passes n h.node)) in
    let ch = is_child_true t value n (node_a t n) (require_passes (is_child t value n (node_a t n)) 7 _ g.a_ok) in
    let inside : node_a t n < count t nodes = omega (arith, ch.0, h.node) in
    let noted = noted_type h.lists inside refl in
    let known : known_type t (node_type t (node_a t n)) ≡ true = rw noted.0 at noted.1.known in
    let fit = and_true (points_to_record t (node_type t (node_a t n))) _ g.fit in
    let points = and_true (leb 2 (node_type t (node_a t n))) (leb 65536 (target t (node_type t (node_a t n)))) fit.0 in
    record {
      child = ch.0;
      type = noted.0;
      known = known;
      entry = leb-true 2 (node_type t (node_a t n)) points.0;
      far = leb-true 65536 (target t (node_type t (node_a t n))) points.1;
      rec = record_known ok.types (node_type t (node_a t n)) known fit.0;
      less = ltb-true (node_b t n) (field_total t (record_of t n)) fit.1;
    }

module _ {t : Words} {l : Lists} {n : ℕ} (h : FieldNode t l n) where
  pub child_inside : {a : ℕ} → a ≡ part l n 1 → (a < 512) × (a < length l.notes.now)
  child_inside e =
      let f = field_found h in
      rw (item_is h.lists h.node 1 (omega arith) e) (note_inside h.lists (omega (arith, f.child, h.node)))

  module _ {a ty : ℕ} (e : a ≡ part l n 1) (q : ty ≡ word l.notes.now a % 128) where
    type_is : ty ≡ node_type t (node_a t n)
    type_is = q ∙ rw (item_is h.lists h.node 1 (omega arith) e) (field_found h).type

    pub pointer_type : KnownWord known_type t l ty × (2 ≤ ty)
    pointer_type = let f = field_found h in (record { lists = h.lists; known = rw type_is f.known }, rw type_is f.entry)

    pub record_target : {x : ℕ} → x ≡ target t ty → 65536 ≤ x
    record_target p = rw (p, type_is) (field_found h).far

    pub record_is : {x : ℕ} → x ≡ target t ty → x - 65536 ≡ record_of t n
    unfolding pointed_record
    record_is p = rw (p, type_is)

  -- The record, and what the lists have of it.
  here : RecordAt t l (record_of t n)
  here = record_at h.lists (record_of t n) (field_found h).rec

  module _ {r : ℕ} (e : r ≡ record_of t n) where
    at : RecordAt t l r
    at = rw e here

    pub record_inside : (r < 32) × (r < length l.firsts.now)
    record_inside = (at.first.few, at.less)

    module _ {b : ℕ} (q : b ≡ part l n 2) where
      number_is : b ≡ node_b t n
      number_is = item_is h.lists h.node 2 (omega arith) q

      pub field_number : (word l.firsts.now r + b < 128) × (word l.firsts.now r + b ≡ first_field t (record_of t n) + node_b t n)
      field_number =
          let less : b < field_total t r = rw (e, number_is) (field_found h).less in
          (omega (arith, at.first.start, at.first.inside, at.most), omega (arith, at.first.start, ap (first_field t) e, number_is))

  module _ {f : ℕ} (e : f ≡ first_field t (record_of t n) + node_b t n) where
    pub field_inside : (f < 128) × (2 * f + 1 < length l.fields.now) × (f < length l.offsets.now)
    field_inside =
        omega (arith, (field_found h).less, here.first.inside, here.most, h.lists.offset_room, h.lists.field_room)

    pub count_is : word l.fields.now (2 * f + 1) ≡ field_count t (record_of t n) (node_b t n)
    unfolding field_count
    count_is =
        let i = field_found h in
        rw e (h.lists.field_is (first_field t (record_of t n) + node_b t n) (field_in h.lists.passed.types (record_of t n) (node_b t n) i.rec i.less))

    pub offset_is : word l.offsets.now f ≡ field_offset t (record_of t n) (node_b t n)
    offset_is = let i = field_found h in rw e (h.lists.offset_is (record_of t n) (node_b t n) i.rec i.less)

-- ---- sizes

-- A known target is below the last record's.
known_below : {t : Words} → TypesPassed t → (x : ℕ) → known_target t x ≡ true → x < 65536 + count t records
unfolding known_target known_type
known_below {t} ok x k =
    ⊎_elim
    (λ e. omega (arith, ltb-true x (2 + count t 2) e, few_pointers ok))
    (λ e. ltb-true x (65536 + count t 0) (and_true (leb 65536 x) (ltb x (65536 + count t 0)) e).1)
    (or_true (ltb x (2 + count t 2)) _ k)

pub size_type : (t : Words) (x : ℕ) → x < 65536 → 1 ≡ size_of t x
unfolding size_of
size_type t x h = rw (lt-ltb x 65536 h)

module _ {t : Words} {l : Lists} {x : ℕ} (h : KnownWord known_target t l x) (far_off : 65536 ≤ x) where
  less : x - 65536 < count t records
  less = omega (arith, known_below h.lists.passed.types x h.known)

  pub size_inside : x - 65536 < length l.sizes.now
  size_inside = (record_at h.lists (x - 65536) less).size_room

  pub size_is : word l.sizes.now (x - 65536) ≡ size_of t x
  size_is =
      let x_is : 65536 + (x - 65536) ≡ x = omega arith in
      (record_at h.lists (x - 65536) less).size ∙ ap (size_of t) x_is

-- ---- steps

pub step_word : (t : Words) (y : ℕ) → y < 2 → 1 ≡ step_of t y
unfolding step_of points_to_record
step_word t y h = rw (lt-leb 2 y h)

-- An entry's step is the size of its target: a type is one word.
pub step_size : (t : Words) (y : ℕ) → 2 ≤ y → size_of t (target t y) ≡ step_of t y
unfolding step_of points_to_record
step_size t y h = rw (le-leb 2 y h) (go (dec_lt (target t y) 65536))
  where
    go : Dec (target t y < 65536) → size_of t (target t y) ≡ (if leb 65536 (target t y) then size_of t (target t y) else 1)
    go (yes less) = rw (lt-leb 65536 (target t y) less) (sym (size_type t (target t y) less))
    go (no more) = rw (le-leb 65536 (target t y) (omega (arith, more)))
