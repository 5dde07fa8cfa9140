-- Request 3: a record's size, from the counts of its fields.
use Prim.Native.Nat.{ℕ, suc, ◌+◌, ◌-◌, ◌≤◌, ◌<◌}
use mathlib.Core.Path.{◌≡◌, refl, sym, ap, ◌∙◌}
use native.Mathlib.Omega.{arith}
use borrow.Author.Tests.{ltb-true, le-ltb}
use lib.Dec.{ltb}
use Rattle.semantics.specs.Words.{Words, sum_below}
use Rattle.semantics.specs.Table.{records, count, record_target, field_total, field_count, field_offset, size_of}
use Rattle.semantics.specs.Check.{record_fault}
use Rattle.semantics.proofs.Lists.{sum-below-≤, sum_below_+, sum_below_most}
use Rattle.semantics.proofs.Passed.{require_passes, TypesPassed, section_ok, field_ok, fields_in, field_in}

-- The first field has nothing before it, and each field has before it what the last one had and that one's words.
pub offset_none : (t : Words) (r : ℕ) → field_offset t r 0 ≡ 0
unfolding field_offset sum_below
offset_none t r = refl

pub offset_more : (t : Words) (r f : ℕ) → field_offset t r (suc f) ≡ field_offset t r f + field_count t r f
unfolding field_offset sum_below
offset_more t r f = refl

-- A record's size is the offset that one more field would have.
pub offset_last : (t : Words) (r : ℕ) → field_offset t r (field_total t r) ≡ size_of t (record_target r)
unfolding size_of
offset_last t r =
    let e : record_target r - record_target 0 ≡ r = omega arith in
    rw (le-ltb (record_target r) (record_target 0) (omega arith), e)

pub offset_most : (t : Words) (r f : ℕ) → f ≤ field_total t r → field_offset t r f ≤ size_of t (record_target r)
unfolding field_offset
offset_most t r f h = rw (← (offset_last t r)) (sum-below-≤ (field_count t r) f (field_total t r) h)

-- The sum of the counts from field f on.
unfoldable pub words_from : Words → ℕ → ℕ → ℕ
words_from t r f = sum_below (field_total t r - f) (λ i. field_count t r (f + i))

-- The law: a field's offset and the sum of the counts from it on are the record's size.
pub offset_and_rest : (t : Words) (r f : ℕ) → f ≤ field_total t r → field_offset t r f + words_from t r f ≡ size_of t (record_target r)
unfolding field_offset words_from
offset_and_rest t r f h =
    let e : f + (field_total t r - f) ≡ field_total t r = omega arith in
    sym (sum_below_+ (field_count t r) f (field_total t r - f)) ∙ ap (λ (n : ℕ). sum_below n (field_count t r)) e ∙ offset_last t r

-- It has at least one field, of at least one word.
pub size_some : {t : Words} → TypesPassed t → (r : ℕ) → r < count t records → 1 ≤ size_of t (record_target r)
unfolding record_fault field_count field_offset sum_below
size_some {t} ok r h =
    let some = ltb-true 0 (field_total t r) (require_passes (ltb 0 (field_total t r)) 4 _ (ok.record_passes r h)) in
    let first = (field_ok ok _ (field_in ok r 0 h some)).some in
    omega (arith, offset_most t r 1 some, first)

-- A record of a table whose types pass has at most 128 fields of at most 4,096 words.
pub size_most : {t : Words} → TypesPassed t → (r : ℕ) → r < count t records → size_of t (record_target r) ≤ 524288
unfolding field_offset field_count
size_most {t} ok r h =
    let most = sum_below_most (field_count t r) 4096 (field_total t r) (λ f less. (field_ok ok _ (field_in ok r f h less)).most) in
    omega (arith, offset_last t r, fields_in ok r h, (section_ok t 1 (ok.sections 1 (omega arith))).limited)
