-- Laws of the sums over a record's fields, and of the lists in which they are noted.
use Prim.Native.Nat.{ℕ, zero, suc, ◌+◌, ◌≤◌, ◌<◌}
use mathlib.Core.Path.{◌≡◌, refl, sym, ap, ◌∙◌}
use mathlib.Core.List.{List, [], ◌∷◌, ◌++◌}
use native.Mathlib.Omega.{arith}
use native.Mathlib.Nat.{not-suc-le-zero}
use native.Mathlib.Numerals.{add-one}
use native.Mathlib.Decide.{ℕ_discrete}
use lib.ListN.{length, take, drop, set, get_or}
use Rattle.std.proofs.lemmas.List.{length-append, get_or_push}
use Rattle.std.proofs.Math.ListN.{get_or-append}
use Rattle.semantics.specs.Words.{Words, word}
use Rattle.semantics.specs.Table.{fields, item, record_target, field_total, first_field, field_offset, field_count, size_of}
use Rattle.semantics.proofs.Sizes.{offset_more}
use Rattle.semantics.proofs.Lists.{sum-below-≤}
use Rattle.layout.specs.Lists.{filled}
use Rattle.layout.proofs.Laws.{sum_more}
use Rattle.layout.proofs.Lists.{filled_none, filled_more, filled_length, filled_before, filled_at, filled_front}
use Rattle.sizes.specs.Sizes.{sizes_noted, offsets_noted}

-- The offset of the field after f, by the count that the code reads of f.
pub next_offset : (t : Words) (r f next start c : ℕ) → next ≡ suc f → start ≡ first_field t r → c ≡ item t fields (start + f) 1 → field_offset t r next ≡ field_offset t r f + c
unfolding field_count
next_offset t r f next start c e first count = rw (e, count, first) (offset_more t r f)

-- The entries of a record's fields of which the last, x, is taken off.
module _ (t : Words) (r : ℕ) (left : List Words) (x : Words) {all : List Words} (e : all ≡ left ++ x ∷ [])
    (entries : (f : ℕ) → f < length all → word (get_or all f []) 1 ≡ item t fields (first_field t r + f) 1) where
  longer : length all ≡ length left + 1
  longer = ap length e ∙ length-append left (x ∷ [])

  pub entries_left : (f : ℕ) → f < length left → word (get_or left f []) 1 ≡ item t fields (first_field t r + f) 1
  entries_left f less = ap (λ (y : Words). word y 1) (sym (ap (λ (l : List Words). get_or l f []) e ∙ get_or-append left (x ∷ []) [] f less)) ∙ entries f (omega (arith, longer))

  pub last_entry : (sum : ℕ) → sum + field_offset t r (length all) ≡ size_of t (record_target r) → sum + word x 1 + field_offset t r (length left) ≡ size_of t (record_target r)
  last_entry sum h =
      let words : word x 1 ≡ item t fields (first_field t r + length left) 1 =
      ap (λ (y : Words). word y 1) (sym (ap (λ (l : List Words). get_or l (length left) []) e ∙ get_or_push left x [] (length left) refl)) ∙ entries (length left) (omega (arith, longer)) in
      omega (arith, next_offset t r (length left) (length all) (first_field t r) (word x 1) (omega (arith, longer)) refl words)

pub none_noted : (t l : Words) → (sizes_noted t 0 l ≡ l) × (offsets_noted t 0 l ≡ l)
unfolding sizes_noted offsets_noted
none_noted t l = (filled_none l 0 _, refl)

-- One record more.
pub one_sized : (t l : Words) (n v : ℕ) {sizes : Words} → sizes ≡ sizes_noted t n l → v ≡ size_of t (record_target n) → set sizes n v ≡ sizes_noted t (n + 1) l
unfolding sizes_noted
one_sized t l n v e q = filled_more l 0 (λ r. size_of t (record_target r)) n n v e (omega arith) q

-- A list whose first words are noted.
pub sizes_front : (t l : Words) (n : ℕ) → n ≤ length l → sizes_noted t n (take n l) ++ drop n l ≡ sizes_noted t n l
unfolding sizes_noted
sizes_front t l n h = filled_front n l (λ r. size_of t (record_target r)) h

pub one_offset : (t l : Words) (n : ℕ) {offsets offsets' : Words} → offsets ≡ offsets_noted t n l
    → offsets' ≡ filled offsets (first_field t n) (field_total t n) (field_offset t n) → offsets' ≡ offsets_noted t (n + 1) l
unfolding offsets_noted
one_offset t l n e q = rw (add-one n, ← e) q

-- ---- what is looked up in the lists

pub size_at : (t l : Words) (n r : ℕ) → n ≤ length l → r < n → word (sizes_noted t n l) r ≡ size_of t (record_target r)
unfolding sizes_noted
size_at t l n r room less = filled_at l 0 (λ r. size_of t (record_target r)) n r r (omega arith) (omega arith) less

pub offsets_length : (t l : Words) (n : ℕ) → length (offsets_noted t n l) ≡ length l
unfolding offsets_noted
offsets_length t l zero = refl
offsets_length t l (suc n) = filled_length (offsets_noted t n l) (first_field t n) (field_offset t n) (field_total t n) ∙ offsets_length t l n

-- A record's fields stand before those of the next records.
fields_before : (t : Words) (r n : ℕ) → r < n → first_field t r + field_total t r ≤ first_field t n
unfolding first_field
fields_before t r n h = omega (arith, sum_more (field_total t) r, sum-below-≤ (field_total t) (r + 1) n (omega arith))

pub offset_at : (t l : Words) (n r f : ℕ) → first_field t r + field_total t r ≤ length l → r < n → f < field_total t r → word (offsets_noted t n l) (first_field t r + f) ≡ field_offset t r f
unfolding offsets_noted
offset_at t l zero r f room less inside = absurd (not-suc-le-zero less)
offset_at t l (suc n) r f room less inside = go (ℕ_discrete r n) (λ (below : r < n). offset_at t l n r f room below inside)
  where
    go : Dec (r ≡ n) → (r < n → word (offsets_noted t n l) (first_field t r + f) ≡ field_offset t r f)
        → word (filled (offsets_noted t n l) (first_field t n) (field_total t n) (field_offset t n)) (first_field t r + f) ≡ field_offset t r f
    go (yes q) below =
        rw q (filled_at (offsets_noted t n l) (first_field t n) (field_offset t n) (field_total t n) f _ refl (omega (arith, offsets_length t l n, rw q at room)) (rw q at inside))
    go (no q) below =
        let before : r < n = omega arith in
        filled_before (offsets_noted t n l) (first_field t n) (field_offset t n) (field_total t n) (first_field t r + f) (omega (arith, fields_before t r n before)) ∙ below before
