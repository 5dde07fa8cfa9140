-- What a passed check tells.
use Prim.Native.Nat.{ℕ, zero, suc, ◌+◌, ◌*◌, ◌-◌, ◌≤◌, ◌<◌}
use mathlib.Core.Bool.{Bool, true, false, ◌&&◌}
use mathlib.Core.Path.{◌≡◌, refl}
use mathlib.Core.Logic.{⊎_elim}
use native.Mathlib.Omega.{arith}
use native.Mathlib.Nat.{not-suc-le-zero}
use native.Mathlib.Decide.{ℕ_discrete}
use borrow.Author.Tests.{ltb-true, leb-true, eqb-true, lt-ltb}
use lib.Dec.{leb, ltb, eqb}
use lib.ListN.{length}
use Rattle.semantics.specs.Words.{Words, word, sum_below}
use Rattle.semantics.specs.Table.{records, fields, pointers, variables, nodes, commands, entry_words, limits, count_place, count, item, entry_type, known_type, known_target, target, points_to_type, points_to_record, record_target, pointed_record, field_total, first_field}
use Rattle.semantics.specs.Check.{Verdict, passes, refused, ◌or_else◌, require, each, section_fault, words_over, record_fault, field_sum_fault, field_fault, pointer_fault, variable_fault, node_fault, command_fault, use_fault, edition_fault, check}
use Rattle.semantics.proofs.Tests.{and_true, or_true}
use Rattle.semantics.proofs.Lists.{sum-below-≤}

pub or_else_passes : (u v : Verdict) → u or_else v ≡ passes → (u ≡ passes) × (v ≡ passes)
unfolding ◌or_else◌
or_else_passes passes v e = (refl, e)
or_else_passes (refused n p) v e = absurd (let z : ◌≡◌ {A = ℕ} 0 1 = cc in omega arith)

pub require_passes : (b : Bool) (n p : ℕ) → require b n p ≡ passes → b ≡ true
unfolding require
require_passes true n p e = refl
require_passes false n p e = absurd (let z : ◌≡◌ {A = ℕ} 0 1 = cc in omega arith)

pub each_passes : (n : ℕ) (f : ℕ → Verdict) → each n f ≡ passes → (i : ℕ) → i < n → f i ≡ passes
unfolding each
each_passes zero f e i h = absurd (not-suc-le-zero h)
each_passes (suc n) f e i h = go (ℕ_discrete i n) (or_else_passes (each n f) (f n) e) (λ q. each_passes n f q i)
  where
    go : Dec (i ≡ n) → (each n f ≡ passes) × (f n ≡ passes) → (each n f ≡ passes → i < n → f i ≡ passes) → f i ≡ passes
    go (yes q) both below = rw q both.1
    go (no q) both below = below both.0 (omega arith)

-- The parts of the check before the nodes, in its order.
pub record TypesPassed (t : Words) : Type 0 where
  pub sections : (s : ℕ) → s < 6 → section_fault t s ≡ passes
  pub exact : words_over t ≡ passes
  pub record_passes : (r : ℕ) → r < count t records → record_fault t r ≡ passes
  pub field_sum : field_sum_fault t ≡ passes
  pub field_passes : (f : ℕ) → f < count t fields → field_fault t f ≡ passes
  pub pointer_passes : (i : ℕ) → i < count t pointers → pointer_fault t i ≡ passes
  pub variable_passes : (i : ℕ) → i < count t variables → variable_fault t i ≡ passes

-- All parts of the check.
pub record Passed (t : Words) : Type 0 where
  pub edition_passes : edition_fault t ≡ passes
  pub types : TypesPassed t
  pub node_passes : (n : ℕ) → n < count t nodes → node_fault t n ≡ passes
  pub command_passes : (c : ℕ) → c < count t commands → command_fault t c ≡ passes
  pub use_passes : (n : ℕ) → n < count t nodes → use_fault t n ≡ passes

pub passed : (t : Words) → check t ≡ passes → Passed t
unfolding check
passed t e =
    let p = or_else_passes (edition_fault t) _ e in
    let p0 = or_else_passes (each 6 (section_fault t)) _ p.1 in
    let p1 = or_else_passes (words_over t) _ p0.1 in
    let p2 = or_else_passes (each (count t records) (record_fault t)) _ p1.1 in
    let p3 = or_else_passes (field_sum_fault t) _ p2.1 in
    let p4 = or_else_passes (each (count t fields) (field_fault t)) _ p3.1 in
    let p5 = or_else_passes (each (count t pointers) (pointer_fault t)) _ p4.1 in
    let p6 = or_else_passes (each (count t variables) (variable_fault t)) _ p5.1 in
    let p7 = or_else_passes (each (count t nodes) (node_fault t)) _ p6.1 in
    let p8 = or_else_passes (each (count t commands) (command_fault t)) _ p7.1 in
    record {
      edition_passes = p.0;
      types = record {
        sections = each_passes 6 (section_fault t) p0.0;
        exact = p1.0;
        record_passes = each_passes (count t records) (record_fault t) p2.0;
        field_sum = p3.0;
        field_passes = each_passes (count t fields) (field_fault t) p4.0;
        pointer_passes = each_passes (count t pointers) (pointer_fault t) p5.0;
        variable_passes = each_passes (count t variables) (variable_fault t) p6.0;
      };
      node_passes = each_passes (count t nodes) (node_fault t) p7.0;
      command_passes = each_passes (count t commands) (command_fault t) p8.0;
      use_passes = each_passes (count t nodes) (use_fault t) p8.1;
    }

-- ---- sections

-- A section's count stands in the table, is at most its limit, and its entries stand in the table.
pub record SectionOk (t : Words) (s : ℕ) : Type 0 where
  pub stands : count_place t s < length t
  pub limited : count t s ≤ word limits s
  pub extent : count_place t (suc s) ≤ length t

pub section_ok : (t : Words) (s : ℕ) → section_fault t s ≡ passes → SectionOk t s
unfolding section_fault
section_ok t s e =
    let p0 = or_else_passes (require (ltb (count_place t s) (length t)) 1 (length t)) _ e in
    let p1 = or_else_passes (require (leb (count t s) (word limits s)) 3 (count_place t s)) _ p0.1 in
    record {
      stands = ltb-true _ _ (require_passes (ltb (count_place t s) (length t)) _ _ p0.0);
      limited = leb-true _ _ (require_passes (leb (count t s) (word limits s)) _ _ p1.0);
      extent = leb-true _ _ (require_passes (leb (count_place t (suc s)) (length t)) _ _ p1.1);
    }

-- Where a section ends, which is where the next one's count stands.
pub section_end : (t : Words) (s : ℕ) → count_place t (suc s) ≡ count_place t s + 1 + word entry_words s * count t s
unfolding count_place count
section_end t s = refl

-- ---- types

pub int_known : (t : Words) (x : ℕ) → x < 2 → known_type t x ≡ true
unfolding known_type
int_known t x h = lt-ltb x (entry_type (count t pointers)) (omega arith)

pub entry_known : (t : Words) (i : ℕ) → i < count t pointers → known_type t (entry_type i) ≡ true
unfolding known_type
entry_known t i h = lt-ltb (entry_type i) (entry_type (count t pointers)) (omega arith)

pub variable_known : {t : Words} → TypesPassed t → (i : ℕ) → i < count t variables → known_type t (item t variables i 0) ≡ true
unfolding variable_fault
variable_known {t} ok i h = require_passes (known_type t (item t variables i 0)) _ _ (ok.variable_passes i h)

pub record FieldOk (t : Words) (f : ℕ) : Type 0 where
  pub known : known_type t (item t fields f 0) ≡ true
  pub some : 0 < item t fields f 1
  pub most : item t fields f 1 ≤ 4096

pub field_ok : {t : Words} → TypesPassed t → (f : ℕ) → f < count t fields → FieldOk t f
unfolding field_fault
field_ok {t} ok f h =
    let p = or_else_passes (require (known_type t (item t fields f 0)) 5 _) _ (ok.field_passes f h) in
    let q = and_true _ _ (require_passes (ltb 0 (item t fields f 1) && leb (item t fields f 1) 4096) _ _ p.1) in
    record { known = require_passes (known_type t (item t fields f 0)) _ _ p.0; some = ltb-true _ _ q.0; most = leb-true _ _ q.1 }

-- A known type that is an entry has a known target.
pub target_known : {t : Words} → TypesPassed t → (ty : ℕ) → known_type t ty ≡ true → 2 ≤ ty → known_target t (target t ty) ≡ true
unfolding pointer_fault known_type target
target_known {t} ok ty known entry =
    let h : ty - 2 < count t pointers = omega (arith, ltb-true ty (entry_type (count t pointers)) known) in
    require_passes (known_target t (item t pointers (ty - 2) 0)) _ _ (or_else_passes (require (known_target t (item t pointers (ty - 2) 0)) 5 _) _ (ok.pointer_passes (ty - 2) h)).0

pub deref_known : {t : Words} → TypesPassed t → (ty : ℕ) → known_type t ty ≡ true → points_to_type t ty ≡ true → known_type t (target t ty) ≡ true
unfolding points_to_type known_target
deref_known {t} ok ty known points =
    let p = and_true (leb 2 ty) (ltb (target t ty) 65536) points in
    let less = ltb-true (target t ty) 65536 p.1 in
    ⊎_elim (λ e. e) (λ e. absurd (omega (arith, leb-true 65536 (target t ty) (and_true _ _ e).0, less)))
    (or_true (known_type t (target t ty)) _ (target_known ok ty known (leb-true 2 ty p.0)))

pub target_record : (t : Words) (ty : ℕ) → points_to_record t ty ≡ true → target t ty ≡ record_target (pointed_record t ty)
unfolding points_to_record pointed_record
target_record t ty points = omega (arith, leb-true 65536 (target t ty) (and_true (leb 2 ty) (leb 65536 (target t ty)) points).1)

-- A known pointer to a record points to one of the table's.
pub record_known : {t : Words} → TypesPassed t → (ty : ℕ) → known_type t ty ≡ true → points_to_record t ty ≡ true → pointed_record t ty < count t records
unfolding points_to_record known_target known_type pointed_record
record_known {t} ok ty known points =
    let p = and_true (leb 2 ty) (leb 65536 (target t ty)) points in
    let more = leb-true 65536 (target t ty) p.1 in
    let few : count t pointers ≤ 64 = (section_ok t 2 (ok.sections 2 (omega arith))).limited in
    ⊎_elim (λ e. absurd (omega (arith, ltb-true (target t ty) (entry_type (count t pointers)) e, more, few)))
    (λ e. omega (arith, ltb-true (target t ty) (65536 + count t records) (and_true (leb 65536 (target t ty)) (ltb (target t ty) (65536 + count t records)) e).1, more))
    (or_true (ltb (target t ty) (entry_type (count t pointers))) _ (target_known ok ty known (leb-true 2 ty p.0)))

-- A record's fields are of the table's.
pub fields_in : {t : Words} → TypesPassed t → (r : ℕ) → r < count t records → first_field t r + field_total t r ≤ count t fields
unfolding field_sum_fault first_field sum_below
fields_in {t} ok r h =
    let e = eqb-true (first_field t (count t records)) (count t fields) (require_passes (eqb (first_field t (count t records)) (count t fields)) _ _ ok.field_sum) in
    omega (arith, sum-below-≤ (field_total t) (suc r) (count t records) h, e)

pub field_in : {t : Words} → TypesPassed t → (r f : ℕ) → r < count t records → f < field_total t r → first_field t r + f < count t fields
field_in ok r f hr hf = omega (arith, fields_in ok r hr)
