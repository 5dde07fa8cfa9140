-- What the cause of an abort says of its check.
use Rattle.std.specs.Prelude.{if◌then◌else◌}
use Prim.Native.Nat.{ℕ}
use mathlib.Core.Bool.{Bool, true, false}
use mathlib.Core.Path.{◌≡◌, refl, sym}
use mathlib.Core.List.{List, [], ◌∷◌}
use native.Mathlib.Omega.{arith}
use lib.Dec.{ltb}
use Rattle.semantics.specs.Rules.{BoundsCheck, Event, loaded, stored, allocated, tested}
use Rattle.semantics.specs.Run.{Ending, done, abort, out_of_memory, stuck}
use Rattle.semantics.specs.Explain.{without_bounds, reason_of, Cause, not_aborted, because, cause_of, newest_cause, explanation}

pub because_is : {x y : Cause} → because x ≡ because y → x ≡ y
because_is e = cc

pub aborted_not : {x : Cause} → because x ≡ not_aborted → ⊥
aborted_not e = let z : ◌≡◌ {A = ℕ} 0 1 = cc in omega arith

-- Reason and first word of a cause are those of its check.
newest_is : (vars : ℕ) (log part : List Event) (y : Cause) → newest_cause vars log part ≡ because y → y ≡ cause_of vars log y.check
unfolding newest_cause
newest_is vars log [] y e = absurd (aborted_not (sym e))
newest_is vars log (tested x ∷ part) y e = rw (← because_is e) refl
newest_is vars log (loaded at a ∷ part) y e = newest_is vars log part y e
newest_is vars log (stored at a ∷ part) y e = newest_is vars log part y e
newest_is vars log (allocated s n ∷ part) y e = newest_is vars log part y e

pub cause_is : (vars : ℕ) (d : Ending) (log : List Event) (y : Cause) → explanation vars d log ≡ because y → y ≡ cause_of vars log y.check
cause_is vars done log y e = absurd (aborted_not (sym e))
cause_is vars (abort c) log y e = newest_is vars log log y e
cause_is vars (out_of_memory c) log y e = absurd (aborted_not (sym e))
cause_is vars (stuck c) log y e = absurd (aborted_not (sym e))

-- Reason 1 is that of bounds that are absent.
pub reason_absent : (x : BoundsCheck) → reason_of x ≡ 1 → without_bounds x ≡ true
unfolding reason_of
reason_absent x e = go (without_bounds x) (ltb x.at x.base) e
  where
    go : (b c : Bool) → ◌≡◌ {A = ℕ} (if b then 1 else if c then 2 else 3) 1 → b ≡ true
    go true c q = refl
    go false true q = absurd (omega arith)
    go false false q = absurd (omega arith)

pub reason_present : (x : BoundsCheck) → (reason_of x ≡ 1 → ⊥) → without_bounds x ≡ false
unfolding reason_of
reason_present x e = go (without_bounds x) (ltb x.at x.base) e
  where
    go : (b c : Bool) → (◌≡◌ {A = ℕ} (if b then 1 else if c then 2 else 3) 1 → ⊥) → b ≡ false
    go true c q = absurd (q refl)
    go false c q = refl
