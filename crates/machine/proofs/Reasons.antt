-- The reason of a check, from how its numbers compare.
use Prim.Native.Nat.{ℕ, ◌+◌, ◌≤◌, ◌<◌}
use mathlib.Core.Bool.{Bool, true, false, ◌&&◌}
use mathlib.Core.Path.{◌≡◌, refl}
use native.Mathlib.Omega.{arith}
use borrow.Author.Tests.{eqb-true, eq-eqb, lt-ltb, le-ltb}
use lib.Dec.{eqb}
use Rattle.semantics.specs.Explain.{without_bounds, reason_of}
use Rattle.machine.specs.Explain.{reason_by}

module _ (place base end : ℕ) where
  pub no_bounds : base ≡ 0 → end ≡ 0 → 1 ≡ reason_by place base end
  unfolding reason_of without_bounds
  no_bounds b e = rw (eq-eqb base 0 b, eq-eqb end 0 e)

  -- One of them is not 0.
  some : (base + end ≡ 0 → ⊥) → eqb base 0 && eqb end 0 ≡ false
  some more = go (eqb base 0) refl (eqb end 0) refl
    where
      go : (b : Bool) → eqb base 0 ≡ b → (e : Bool) → eqb end 0 ≡ e → b && e ≡ false
      go true p true q = absurd (more (omega (arith, eqb-true base 0 p, eqb-true end 0 q)))
      go true p false q = refl
      go false p e q = refl

  pub before_base : (base + end ≡ 0 → ⊥) → place < base → 2 ≡ reason_by place base end
  unfolding reason_of without_bounds
  before_base more less = rw (some more, lt-ltb place base less)

  pub past_end : (base + end ≡ 0 → ⊥) → base ≤ place → 3 ≡ reason_by place base end
  unfolding reason_of without_bounds
  past_end more from = rw (some more, le-ltb place base from)
