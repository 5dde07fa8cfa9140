-- Laws of the checks of sections 1 to 4, in the order of their functions.
use Rattle.std.specs.Prelude.{if◌then◌else◌}
use Prim.Native.Nat.{ℕ, zero, suc, ◌+◌, ◌*◌, ◌-◌, ◌≤◌, ◌<◌}
use mathlib.Core.Bool.{Bool, true, false, not, ◌&&◌}
use mathlib.Core.Path.{◌≡◌, refl, sym, ◌∙◌, ap}
use mathlib.Core.Logic.{◌⊎◌, inl, inr, ⊎_elim}
use native.Mathlib.Omega.{arith}
use native.Mathlib.Numerals.{add-one}
use native.Mathlib.Decide.{ℕ_discrete}
use borrow.Author.Tests.{le-ltb, lt-ltb, le-leb, ltb-true, ltb-false, leb-true, eq-eqb, ne_eqb}
use lib.Dec.{leb, ltb, eqb}
use lib.ListN.{length, set, replicate}
use lib.Seq.{get_or-set_same, get_or-set_other}
use Rattle.semantics.specs.Words.{Words, word, seen_before, least_below}
use Rattle.semantics.specs.Table.{records, fields, pointers, variables, count_place, count, item, known_type, known_target, entry_type, entry_below, field_total, first_field}
use Rattle.semantics.specs.Check.{Verdict, passes, refused, ◌or_else◌, require, each, record_fault, field_sum_fault, field_fault, pointer_fault, variable_fault}
use Rattle.semantics.proofs.Tests.{and_true, or_true}
use Rattle.semantics.proofs.Lists.{sum-below-≤, any_least}
use Rattle.semantics.proofs.Passed.{TypesPassed, section_ok, fields_in}
use Rattle.layout.specs.Layout.{Stands}
use Rattle.layout.specs.Types.{types_fault, slot, mark_below, Tabulated, RecordIn, Marks, marked, records_fault, first_left, entry_left}
use Rattle.layout.specs.Lists.{filled, by_verdict, passed_below}
use Rattle.layout.specs.declared.Section.{Section}
use Rattle.layout.proofs.Laws.{or_else_pass, or_else_refuse, or_else_assoc, sum_more, place_at}
use Rattle.layout.proofs.Lists.{passed_to, passed_all}

-- ---- known types and targets

same_test : (a b c d : ℕ) → (a < b → c < d) → (b ≤ a → d ≤ c) → ltb a b ≡ ltb c d
same_test a b c d f g = go (ltb a b) refl
  where
    go : (q : Bool) → ltb a b ≡ q → q ≡ ltb c d
    go true e = sym (lt-ltb c d (f (ltb-true a b e)))
    go false e = sym (le-ltb c d (g (ltb-false a b e)))

module _ (t : Words) (records pointers x : ℕ) (p : pointers ≡ count t 2) where
  pub target_by_record : records ≡ count t 0 → pointers ≤ 64 → 65536 ≤ x → ltb (x - 65536) records ≡ known_target t x
  unfolding known_target known_type
  target_by_record r few h =
      rw (le-ltb x (2 + count t 2) (omega arith), le-leb 65536 x h, ← r) (same_test (x - 65536) records x (65536 + records) (λ less. omega arith) (λ more. omega arith))

pub slot_type : (x : ℕ) → x < 65536 → x ≡ slot x
unfolding slot
slot_type x h = rw (lt-ltb x 65536 h) refl

pub slot_record : (x : ℕ) → 65536 ≤ x → 66 + (x - 65536) ≡ slot x
unfolding slot
slot_record x h = rw (le-ltb x 65536 h) refl

-- ---- records

module _ {t : Words} {l : Section} (h : Stands t 0 l) (i : ℕ) where
  pub record_by : {x : ℕ} → x ≡ item t records i 0 → require (ltb 0 x) 4 (l.at + i) ≡ record_fault t i
  unfolding record_fault field_total
  record_by e = rw (place_at h i 0 (l.at + i) (omega arith), e)

pub first_more : (t : Words) (i : ℕ) {x : ℕ} → x ≡ item t records i 0 → first_field t (i + 1) ≡ first_field t i + x
unfolding first_field field_total
first_more t i e = rw e (sum_more (field_total t) i)

pub first-≤ : (t : Words) (m n : ℕ) → m ≤ n → first_field t m ≤ first_field t n
unfolding first_field
first-≤ t m n h = sum-below-≤ (field_total t) m n h

-- Each record of a table whose types pass, as the list has it.
pub record_in : {t first : Words} → TypesPassed t → Tabulated first (count t records) (first_field t) → (r : ℕ) → r < count t records → RecordIn t first r
unfolding first_field
record_in {t} ok firsts r h =
    record {
      few = omega (arith, (section_ok t 0 (ok.sections 0 (omega arith))).limited);
      start = firsts.holds r (omega arith);
      next = firsts.holds (r + 1) (omega arith) ∙ sum_more (field_total t) r;
      inside = fields_in ok r h;
    }

-- ---- variables

module _ {t : Words} {l : Section} (h : Stands t 3 l) (i : ℕ) where
  pub variable_by : {known : Bool} {x : ℕ} → known ≡ known_type t x → x ≡ item t variables i 0 → require known 5 (l.at + i) ≡ variable_fault t i
  unfolding variable_fault
  variable_by k e = rw (place_at h i 0 (l.at + i) (omega arith), k, e)

-- ---- fields

module _ {t : Words} {l : Section} (h : Stands t 1 l) (i : ℕ) {known : Bool} {x y : ℕ} (k : known ≡ known_type t x) (e : x ≡ item t fields i 0) (f : y ≡ item t fields i 1) where
  pub field_by : require known 5 (l.at + 2 * i) or_else require (ltb 0 y && leb y 4096) 4 (l.at + 2 * i + 1) ≡ field_fault t i
  unfolding field_fault
  field_by = rw (place_at h i 0 (l.at + 2 * i) (omega arith), place_at h i 1 (l.at + 2 * i + 1) (omega arith), k, e, f)

-- ---- pointers

module _ (t : Words) (n x : ℕ) where
  pub mark_none : mark_below t n x ≡ 0 → n ≤ entry_below t n x
  unfolding mark_below
  mark_none e = go (ltb (entry_below t n x) n) refl e
    where
      go : (b : Bool) → ltb (entry_below t n x) n ≡ b → if b then entry_type (entry_below t n x) else 0 ≡ 0 → n ≤ entry_below t n x
      go true q z = absurd (omega arith)
      go false q z = ltb-false (entry_below t n x) n q

  pub mark_some : (mark_below t n x ≡ 0 → ⊥) → entry_below t n x < n
  unfolding mark_below
  mark_some e = go (ltb (entry_below t n x) n) refl e
    where
      go : (b : Bool) → ltb (entry_below t n x) n ≡ b → (if b then entry_type (entry_below t n x) else 0 ≡ 0 → ⊥) → entry_below t n x < n
      go true q z = ltb-true (entry_below t n x) n q
      go false q z = absurd (z refl)

  pub mark_test : eqb (mark_below t n x) 0 ≡ not (ltb (entry_below t n x) n)
  unfolding mark_below
  mark_test = go (ltb (entry_below t n x) n)
    where
      go : (b : Bool) → eqb (if b then entry_type (entry_below t n x) else 0) 0 ≡ not b
      go true = ne_eqb (entry_type (entry_below t n x)) 0 (λ e. absurd (omega arith))
      go false = refl

  pub mark_new : mark_below t n x ≡ 0 → item t pointers n 0 ≡ x → mark_below t (n + 1) x ≡ 2 + n
  unfolding mark_below entry_below least_below
  mark_new none e =
      rw (add-one n, le-ltb (entry_below t n x) n (mark_none none), eq-eqb (item t pointers n 0) x e, lt-ltb n (suc n) (omega arith)) refl

  pub mark_old : (item t pointers n 0 ≡ x → ⊥) → mark_below t (n + 1) x ≡ mark_below t n x
  unfolding mark_below entry_below least_below
  mark_old other = rw (add-one n, ne_eqb (item t pointers n 0) x other) (go (ltb (entry_below t n x) n) refl)
    where
      go : (b : Bool) → ltb (entry_below t n x) n ≡ b → if ltb (if b then entry_below t n x else suc n) (suc n) then entry_type (if b then entry_below t n x else suc n) else 0
          ≡ if b then entry_type (entry_below t n x) else 0
      go true q = rw (lt-ltb (entry_below t n x) (suc n) (omega (arith, ltb-true (entry_below t n x) n q))) refl
      go false q = rw (le-ltb (suc n) (suc n) (omega arith)) refl

module _ {t : Words} {l : Section} (h : Stands t 2 l) (i : ℕ) where
  pub pointer_by : {known : Bool} {x m : ℕ} → known ≡ known_target t x → x ≡ item t pointers i 0 → m ≡ mark_below t i x
      → require known 5 (l.at + i) or_else require (eqb m 0) 6 (l.at + i) ≡ pointer_fault t i
  unfolding pointer_fault seen_before entry_below
  pointer_by {x = x} k e m =
      rw (place_at h i 0 (l.at + i) (omega arith), any_least i (λ j. eqb (item t pointers j 0) (item t pointers i 0)), k, m, mark_test t i x, e)

-- ---- where pointers are noted

module _ (t : Words) (few_records : count t 0 ≤ 32) (few_pointers : count t 2 ≤ 64) where
  target_cases : (x : ℕ) → known_target t x ≡ true → ((x < 66) × (slot x ≡ x)) ⊎ ((65536 ≤ x) × (x < 65568) × (slot x ≡ 66 + (x - 65536)))
  unfolding known_target known_type
  target_cases x k =
      ⊎_elim
      (λ e. let less : x < 66 = omega (arith, ltb-true x (2 + count t 2) e) in inl (less, sym (slot_type x (omega arith))))
      (λ e.
      let both = and_true (leb 65536 x) (ltb x (65536 + count t 0)) e in
      let more = leb-true 65536 x both.0 in
      inr (more, omega (arith, ltb-true x (65536 + count t 0) both.1), sym (slot_record x more)))
      (or_true (ltb x (2 + count t 2)) _ k)

  pub slot_below : (x : ℕ) → known_target t x ≡ true → slot x < 98
  slot_below x k = ⊎_elim (λ p. omega arith) (λ p. omega arith) (target_cases x k)

  slot_injective : (x y : ℕ) → known_target t x ≡ true → known_target t y ≡ true → slot x ≡ slot y → x ≡ y
  slot_injective x y k m e =
      ⊎_elim
      (λ p. ⊎_elim (λ q. omega arith) (λ q. omega arith) (target_cases y m))
      (λ p. ⊎_elim (λ q. omega arith) (λ q. omega arith) (target_cases y m))
      (target_cases x k)

  -- Entry i, the first with the target y, is noted.
  pub marks_more : (entry : Words) (i y k v : ℕ) → k ≡ slot y → v ≡ 2 + i → length entry ≡ 98 → known_target t y ≡ true → item t pointers i 0 ≡ y → word entry k ≡ 0
      → Marks t entry i → Marks t (set entry k v) (i + 1)
  marks_more entry i y k v at noted size known e none before = record { mark_is = λ x m. go x m (ℕ_discrete x y) }
    where
      less : k < length entry
      less = omega (arith, slot_below y known)

      go : (x : ℕ) → known_target t x ≡ true → Dec (x ≡ y) → word (set entry k v) (slot x) ≡ mark_below t (i + 1) x
      go x m (yes q) =
          rw (q, ← at) (get_or-set_same entry k v 0 less ∙ noted ∙ sym (mark_new t i y (sym (before.mark_is y known) ∙ ap (word entry) (sym at) ∙ none) e))
      go x m (no q) =
          get_or-set_other entry k (slot x) v 0 (λ z. q (slot_injective x y m known (z ∙ at))) ∙ before.mark_is x m ∙ sym (mark_old t i x (λ z. q (sym z ∙ e)))

pub zeros : (n k : ℕ) → word (replicate n 0) k ≡ 0
zeros zero k = refl
zeros (suc n) zero = refl
zeros (suc n) (suc k) = zeros n k

pub marks_none : (t entry : Words) → entry ≡ replicate 98 0 → Marks t entry 0
unfolding mark_below entry_below least_below
marks_none t entry e = record { mark_is = λ x m. rw e (zeros 98 (slot x)) }

-- One entry more is noted, and all are before the first at fault.
pub marked_more : (t l : Words) (i k v : ℕ) {entry : Words} → k ≡ slot (item t pointers i 0) → v ≡ 2 + i → entry ≡ marked t i l → set entry k v ≡ marked t (i + 1) l
unfolding marked
marked_more t l i k v at noted e = rw (add-one i, at, noted, e)

pub marked_to : (t l : Words) (i : ℕ) {entry : Words} {a p : ℕ} → each i (pointer_fault t) ≡ passes → i < count t pointers → pointer_fault t i ≡ refused a p
    → entry ≡ marked t i l → entry ≡ marked t (passed_below (count t pointers) (pointer_fault t)) l
marked_to t l i before less fault e = rw (passed_to (pointer_fault t) i (count t pointers) before less fault) e

pub marked_all : (t l : Words) {i : ℕ} {entry : Words} → i ≡ count t pointers → each i (pointer_fault t) ≡ passes → entry ≡ marked t i l
    → entry ≡ marked t (passed_below (count t pointers) (pointer_fault t)) l
marked_all t l {i} n before e = rw (← n, passed_all (pointer_fault t) i before) e

-- ---- the sections in turn

module _ (t : Words) where
  -- Section 1: a record is refused, or the sum decides.
  pub record_refused : {n p : ℕ} → refused n p ≡ each (count t records) (record_fault t) → records_fault t ≡ refused n p
  record_refused e = or_else_refuse _ (field_sum_fault t) (sym e)

  pub records_by : {m n p : ℕ} {v : Verdict} → passes ≡ each (count t records) (record_fault t) → m ≡ first_field t (count t records) → n ≡ count t fields → p ≡ count_place t fields
      → v ≡ require (eqb m n) 4 p → records_fault t ≡ v
  unfolding field_sum_fault
  records_by pass sum total place e = or_else_pass _ (field_sum_fault t) (sym pass) ∙ rw (← place, ← total, ← sum) (sym e)

  after_records : Verdict
  after_records = each (count t fields) (field_fault t) or_else each (count t pointers) (pointer_fault t) or_else each (count t variables) (variable_fault t)

  parts : types_fault t ≡ records_fault t or_else after_records
  unfolding types_fault after_records
  parts = sym (or_else_assoc (each (count t records) (record_fault t)) (field_sum_fault t) _)

  pub records_refused : {n p : ℕ} → records_fault t ≡ refused n p → refused n p ≡ types_fault t
  records_refused e = sym (parts ∙ or_else_refuse _ after_records e)

  module _ (records_pass : records_fault t ≡ passes) where
    past_records : types_fault t ≡ after_records
    past_records = parts ∙ or_else_pass _ after_records records_pass

    pub field_refused : {n p : ℕ} → refused n p ≡ each (count t fields) (field_fault t) → refused n p ≡ types_fault t
    unfolding after_records
    field_refused e = sym (past_records ∙ or_else_refuse (each (count t fields) (field_fault t)) _ (sym e))

    module _ (fields_pass : passes ≡ each (count t fields) (field_fault t)) where
      past_fields : types_fault t ≡ each (count t pointers) (pointer_fault t) or_else each (count t variables) (variable_fault t)
      unfolding after_records
      past_fields = past_records ∙ or_else_pass (each (count t fields) (field_fault t)) _ (sym fields_pass)

      pub pointer_refused : {n p : ℕ} → refused n p ≡ each (count t pointers) (pointer_fault t) → refused n p ≡ types_fault t
      pointer_refused e = sym (past_fields ∙ or_else_refuse (each (count t pointers) (pointer_fault t)) _ (sym e))

      pub past_pointers : passes ≡ each (count t pointers) (pointer_fault t) → each (count t variables) (variable_fault t) ≡ types_fault t
      past_pointers pointers_pass = sym (past_fields ∙ or_else_pass (each (count t pointers) (pointer_fault t)) _ (sym pointers_pass))

-- ---- what is left in the lists

-- Both lists, where the check ended or came to its end.
abbrev pub ListsLeft : Words → Words → Words → Words → Words → Type 0
ListsLeft t first first' entry entry' = (first' ≡ first_left t first) × (entry' ≡ entry_left t entry)

module _ (t first entry : Words) where
  -- A record or their sum is refused.
  pub none_left : {n p : ℕ} → records_fault t ≡ refused n p → ListsLeft t first first entry entry
  unfolding first_left entry_left
  none_left e = (rw e, rw (or_else_refuse (records_fault t) (each (count t fields) (field_fault t)) e))

  module _ (e : records_fault t ≡ passes) {first' : Words} (h : first' ≡ filled first 0 (count t records + 1) (first_field t)) where
    by_fields : entry_left t entry ≡ by_verdict (each (count t fields) (field_fault t)) (marked t (passed_below (count t pointers) (pointer_fault t)) entry) entry
    unfolding entry_left
    by_fields = rw (or_else_pass (records_fault t) (each (count t fields) (field_fault t)) e)

    -- A field is refused.
    pub first_alone : {n p : ℕ} → each (count t fields) (field_fault t) ≡ refused n p → ListsLeft t first first' entry entry
    unfolding first_left
    first_alone q = (rw e h, rw (by_fields, q))

    -- Pointers were come to.
    pub both_left : {entry' : Words} → each (count t fields) (field_fault t) ≡ passes → entry' ≡ marked t (passed_below (count t pointers) (pointer_fault t)) entry
        → ListsLeft t first first' entry entry'
    unfolding first_left
    both_left q k = (rw e h, rw (by_fields, q) k)
