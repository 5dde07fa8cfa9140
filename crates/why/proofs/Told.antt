-- The items that the functions put, as the texts of specs/.
use Rattle.std.proofs.Common.{◌≡◌, refl, false}
use Rattle.std.specs.Prelude.{eqb}
use Rattle.machine.specs.Explain.{reason_number}
use Rattle.machine.specs.declared.Reason.{Reason}
use Rattle.machine.specs.declared.Reason.TheVariants.{NoBounds, BeforeBase, PastEnd}
use Prim.Native.Nat.{ℕ, ◌+◌, ◌*◌}
use Prim.Native.String.{String}
use mathlib.Core.List.{List, [], ◌∷◌}
use mathlib.Core.Path.{◌≡◌, ap}
use native.Mathlib.Omega.{arith}
use lib.ListN.{length}
use Rattle.text.specs.Decimal.{PutsIn}
use Rattle.text.specs.declared.Output.{Output}
use Rattle.stream.specs.Items.{word, number, Prints}
use Rattle.stream.proofs.Items.{prints_word}
use Rattle.semantics.specs.Words as words
use Rattle.semantics.specs.Words.{Words}
use Rattle.semantics.specs.Table.{nodes, count_place, item_place, item}
use Rattle.why.specs.Ascii.{ascii}
use Rattle.why.specs.Told.{text}

-- ---- bytes as text

module _ {bytes : List ℕ} {out out' : Output} (s : String) (e : bytes ≡ ascii s) where
  pub prints_text : PutsIn (length bytes) bytes out out' → Prints (text s ∷ []) out out'
  prints_text h = rw e at (prints_word h)

  -- A text and then a number.
  pub prints_after : {x : ℕ} → Prints (word bytes ∷ number x ∷ []) out out' → Prints (text s ∷ number x ∷ []) out out'
  prints_after h = rw e at h

-- ---- the kind of a node

pub kind_is : (t : Words) {at : ℕ} (i : ℕ) → at ≡ count_place t nodes + 1 → words.word t (at + 3 * i) ≡ item t nodes i 0
unfolding item item_place
kind_is t i e = ap (words.word t) (omega (arith, e))

-- Two reasons with one number are the same.
pub other_reason : (r s : Reason) → (r ≡ s → ⊥) → eqb (reason_number r) (reason_number s) ≡ false
other_reason NoBounds NoBounds h = absurd (h refl)
other_reason NoBounds BeforeBase h = refl
other_reason NoBounds PastEnd h = refl
other_reason BeforeBase NoBounds h = refl
other_reason BeforeBase BeforeBase h = absurd (h refl)
other_reason BeforeBase PastEnd h = refl
other_reason PastEnd NoBounds h = refl
other_reason PastEnd BeforeBase h = refl
other_reason PastEnd PastEnd h = absurd (h refl)
