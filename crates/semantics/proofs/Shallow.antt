-- Request 7: no path is too long, so this is how deep evaluation goes, and the check as it was gives every table the verdict that the check gives it now.
use Prim.Native.Nat.{ℕ, zero, suc, ◌≤◌, ◌<◌}
use mathlib.Core.Bool.{Bool, true, false, not}
use mathlib.Core.Path.{◌≡◌, refl, ap, ◌∙◌}
use native.Mathlib.Omega.{arith}
use Rattle.semantics.specs.Words.{Words}
use Rattle.semantics.specs.Table.{nodes, count}
use Rattle.semantics.specs.Check.{Verdict, passes, refused, ◌or_else◌, require, each, edition_fault, section_fault, node_fault, check}
use Rattle.semantics.proofs.Passed.{each_passes, Passed}
use Rattle.semantics.proofs.Depth.{Path, UpTo, no_path_is_longer, deeper, node_fault_before, check_before, deeper_has_path}

-- No path of a table that passes is longer. Evaluation goes down such paths, so this is how deep its calls can be.
pub evaluation_depth : {t : Words} {n k : ℕ} → Passed t → n < count t nodes → Path t n k → k ≤ 512
evaluation_depth passed less =
    no_path_is_longer (record { sections = passed.types.sections; listed = less; node_passes = λ m h. passed.node_passes m (omega arith) })

-- ---- both checks give the same verdict

or_else_same : (u : Verdict) {v w : Verdict} → (u ≡ passes → v ≡ w) → u or_else v ≡ u or_else w
unfolding ◌or_else◌
or_else_same passes same = same refl
or_else_same (refused n p) same = refl

-- Where f passes for all numbers below i, f and g are the same for i.
each_same : (n : ℕ) (f g : ℕ → Verdict) → ((i : ℕ) → i < n → each i f ≡ passes → g i ≡ f i) → each n g ≡ each n f
unfolding each
each_same zero f g same = refl
each_same (suc n) f g same =
    ap (λ v. v or_else g n) (each_same n f g (λ i h. same i (omega arith))) ∙ or_else_same (each n f) (same n (omega arith))

or_else_last : (u : Verdict) {v : Verdict} → (u ≡ passes → v ≡ passes) → u or_else v ≡ u
unfolding ◌or_else◌
or_else_last passes last = last refl
or_else_last (refused n p) last = refl

module _ (t : Words) (sections : each 6 (section_fault t) ≡ passes) where
  -- The test that was asked for 12.
  shallow : (n p : ℕ) → n < count t nodes → UpTo t n → require (not (deeper t 512 n)) 12 p ≡ passes
  unfolding require
  shallow n p listed pass = go (deeper t 512 n) refl
    where
      go : (b : Bool) → deeper t 512 n ≡ b → require (not b) 12 p ≡ passes
      go true e =
          absurd (omega (arith, no_path_is_longer (record { sections = each_passes 6 (section_fault t) sections; listed = listed; node_passes = pass }) (deeper_has_path t 512 n e)))
      go false e = refl

  node_same : (n : ℕ) → n < count t nodes → each n (node_fault t) ≡ passes → node_fault_before 512 t n ≡ node_fault t n
  unfolding node_fault_before ◌or_else◌ each
  node_same n listed below =
      or_else_last (node_fault t n) (λ here. shallow n _ listed (λ m h. each_passes (suc n) (node_fault t) (rw (below, here)) m (omega arith)))

-- Refusal 12 can't be given: with it in its order, every table has the verdict that it has without it.
pub check_as_before : (t : Words) → check_before 512 t ≡ check t
unfolding check_before check
check_as_before t =
    or_else_same (edition_fault t)
    (λ e. or_else_same (each 6 (section_fault t)) (λ s. rw (each_same (count t nodes) (node_fault t) (node_fault_before 512 t) (node_same t s))))
