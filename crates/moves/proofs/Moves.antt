-- A list of which some words have been moved, in either direction.
use Prim.Native.Nat.{ℕ, ◌+◌, ◌≤◌, ◌<◌}
use mathlib.Core.Path.{◌≡◌, sym, ◌∙◌}
use mathlib.Core.Logic.{◌⊎◌, inl, inr}
use native.Mathlib.Omega.{arith}
use lib.ListN.{length}
use lib.Seq.{ext_get_or}
use Rattle.semantics.specs.Words.{Words, word, moved}
use Rattle.semantics.proofs.Lists.{moved_length, moved_inside, moved_outside}
use Rattle.semantics.proofs.Tests.{Lies, inside as among, outside, lies}

-- Of the words that go from `from` on to `to` on, those from lo up to hi have been moved; all other words are as they were in l₀.
pub record PartMoved (l₀ : Words) (to from lo hi : ℕ) (l : Words) : Type 0 where
  pub same : length l ≡ length l₀
  pub there : (i : ℕ) → lo ≤ i → i < hi → word l (to + i) ≡ word l₀ (from + i)
  pub elsewhere : (w : ℕ) → (w < to + lo) ⊎ (to + hi ≤ w) → word l w ≡ word l₀ w

pub all_moved : {l₀ l : Words} {to from lo hi n : ℕ} → PartMoved l₀ to from lo hi l → lo ≡ 0 → hi ≡ n → l ≡ moved l₀ to from n
all_moved {l₀} {l} {to} {from} {lo} {hi} {n} part first last =
    ext_get_or 0 l (moved l₀ to from n) (part.same ∙ sym (moved_length l₀ to from n)) (λ w inside. go w inside (lies to n w))
  where
    go : (w : ℕ) → w < length l → Lies to n w → word l w ≡ word (moved l₀ to from n) w
    go w inside (among i less e) = rw e (part.there i (omega arith) (omega arith) ∙ sym (moved_inside l₀ to from n i less (omega (arith, part.same))))
    go w inside (outside out) = part.elsewhere w (further out) ∙ sym (moved_outside l₀ to from n w out)
      where
        further : (w < to) ⊎ (to + n ≤ w) → (w < to + lo) ⊎ (to + hi ≤ w)
        further (inl h) = inl (omega arith)
        further (inr h) = inr (omega arith)
