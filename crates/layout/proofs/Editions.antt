-- Laws of a table's edition.
use Prim.Native.Nat.{ℕ}
use mathlib.Core.Bool.{Bool, true, false, not, ◌||◌, false≢true}
use mathlib.Core.Path.{◌≡◌, refl, sym, ◌∙◌}
use lib.Dec.{leb, eqb}
use lib.ListN.{length}
use Rattle.semantics.specs.Words.{Words, word}
use Rattle.semantics.specs.Table.{Edition, edition_1, edition_2, edition, mark_words}
use Rattle.semantics.specs.Check.{Verdict, passes, refused, require, edition_fault}
use Rattle.layout.specs.Layout.{edition_by, start_by}
use Rattle.layout.specs.Refusals as answer

-- ---- where the sections start

module _ (t : Words) (marked : Bool) (e : edition_by marked ≡ edition t) where
  is_first : not marked ≡ true → edition t ≡ edition_1
  is_first q = sym e ∙ go marked q
    where
      go : (b : Bool) → not b ≡ true → edition_by b ≡ edition_1
      go true r = absurd (false≢true r)
      go false r = refl

  is_second : not marked ≡ false → edition t ≡ edition_2
  is_second q = sym e ∙ go marked q
    where
      go : (b : Bool) → not b ≡ false → edition_by b ≡ edition_2
      go true r = refl
      go false r = absurd (false≢true (sym r))

  pub start_unmarked : not marked ≡ true → answer.is 0 ≡ start_by (edition t) (edition_fault t)
  unfolding edition_fault require
  start_unmarked q = rw (is_first q)

  module _ (q : not marked ≡ false) {known : Bool} (k : known ≡ (leb (length t) 1 || eqb (word t 1) 2)) where
    tested : require known 16 1 ≡ edition_fault t
    unfolding edition_fault
    tested = rw (is_second q, k)

    pub start_other : {n p : ℕ} → refused n p ≡ require known 16 1 → answer.refused n p ≡ start_by (edition t) (edition_fault t)
    start_other h = rw (← tested, ← h)

    pub start_known : passes ≡ require known 16 1 → answer.is 2 ≡ start_by (edition t) (edition_fault t)
    start_known h = rw (is_second q, ← tested, ← h)

-- What the start tells of the check.
module _ (e : Edition) where
  pub started_at : {p : ℕ} (v : Verdict) → answer.is p ≡ start_by e v → (v ≡ passes) × (p ≡ mark_words e)
  started_at passes h = (refl, cc)
  started_at (refused n p) h = (cc)

  pub not_started : {n p : ℕ} (v : Verdict) → answer.refused n p ≡ start_by e v → v ≡ refused n p
  not_started passes h = cc
  not_started (refused m o) h = cc
