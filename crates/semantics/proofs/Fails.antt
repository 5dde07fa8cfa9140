-- By which check a tree or a command fails: one of its own that is not passed, or that of the child that failed.
use Rattle.std.specs.Prelude.{if◌then◌else◌}
use Prim.Native.Nat.{ℕ, ◌+◌}
use mathlib.Core.Bool.{Bool, true, false}
use mathlib.Core.Path.{◌≡◌, refl}
use native.Mathlib.Omega.{arith}
use native.Mathlib.Nat.{add-zero}
use lib.Dec.{leb, eqb}
use lib.ListN.{length}
use Rattle.semantics.specs.Words.{all_below}
use Rattle.semantics.specs.Syntax.{Place, Variable, Deref, Field, NoPlace, Value, Number, Sum, Read, Address, Cast, Malloc, Copy, NoValue}
use Rattle.semantics.specs.Rules.{Datum, unbounded, block_pointer, Location, BoundsCheck, tested, State, noted, Outcome, ok, fails, no_room, no_rule, bind, check_of, checked, pointed_step, deref_step, field_step, touchable, read_step, sum_step, cast_step, with_block, malloc_step, move_step, copy_step, place_at, value_at, assign_step, assign}
use Rattle.semantics.specs.Log.{Operands, Misses, PlaceFails, deref_check, deref_child, field_check, field_child, ValueFails, sum_left, sum_right, read_place, address_place, cast_child, malloc_child, copy_left, copy_right, copy_to, copy_from, AssignFails, in_place, in_value}
use Rattle.semantics.proofs.Tests.{CheckMade, check_passed, check_missed, check_made}
use Rattle.semantics.proofs.Places.{one_event, checked_ok}

-- ---- outcomes

module _ {A : Type 0} {x : BoundsCheck} {s s' : State} where
  pub ok_not : {a : A} → ok a s ≡ fails x s' → ⊥
  ok_not e = let z : ◌≡◌ {A = ℕ} 0 1 = cc in omega arith

  pub no_room_not : ◌≡◌ {A = Outcome A} (no_room s) (fails x s') → ⊥
  no_room_not e = let z : ◌≡◌ {A = ℕ} 0 1 = cc in omega arith

  pub no_rule_not : ◌≡◌ {A = Outcome A} (no_rule s) (fails x s') → ⊥
  no_rule_not e = let z : ◌≡◌ {A = ℕ} 0 1 = cc in omega arith

-- Two steps of which one fails: the first, or the second after the first was ok.
data EitherFails {A B : Type 0} (o : Outcome A) (f : A → State → Outcome B) (x : BoundsCheck) (s' : State) : Type 0 where
  first : o ≡ fails x s' → EitherFails o f x s'
  second : (a : A) (s : State) → o ≡ ok a s → f a s ≡ fails x s' → EitherFails o f x s'

either : {A B : Type 0} (o : Outcome A) (f : A → State → Outcome B) {x : BoundsCheck} {s' : State} → bind o f ≡ fails x s' → EitherFails o f x s'
either (ok a s) f e = second a s refl e
either (fails y s) f e = first cc
either (no_room s) f e = absurd (no_room_not e)
either (no_rule s) f e = absurd (no_rule_not e)

-- The first, if the second never does.
only_first : {A B : Type 0} (o : Outcome A) (f : A → State → Outcome B) {x : BoundsCheck} {s' : State} → ((a : A) (s : State) → f a s ≡ fails x s' → ⊥)
    → bind o f ≡ fails x s' → o ≡ fails x s'
only_first o f {x} {s'} never e = go (either o f e)
  where
    go : EitherFails o f x s' → o ≡ fails x s'
    go (first q) = q
    go (second a s q r) = absurd (never a s r)

-- ---- steps that never fail

touched_not : {A : Type 0} (b : Bool) (a : A) (s s₁ : State) {x : BoundsCheck} {s' : State} → (if b then ok a s₁ else no_rule s) ≡ fails x s' → ⊥
touched_not true a s s₁ e = ok_not e
touched_not false a s s₁ e = no_rule_not e

cast_not : (keeps : Bool) (p : Datum) (s : State) {x : BoundsCheck} {s' : State} → cast_step keeps p s ≡ fails x s' → ⊥
cast_not true p s e = ok_not e
cast_not false p s e = ok_not e

malloc_not : (d : Datum) (s : State) {x : BoundsCheck} {s' : State} → malloc_step d s ≡ fails x s' → ⊥
unfolding malloc_step
malloc_not d s {x} {s'} e = go (eqb d.value 0) (leb (s.unused + d.value) (length s.values)) e
  where
    go : (none fits : Bool) → (if none then ok (unbounded 0) s else if fits then ok (block_pointer s.unused d.value) (with_block d.value s) else no_room s) ≡ fails x s' → ⊥
    go true fits q = ok_not q
    go false true q = ok_not q
    go false false q = no_room_not q

-- ---- a check that fails

check_misses : (n : ℕ) (p : Datum) (w k : ℕ) (l : Location) (s : State) {x : BoundsCheck} {s' : State} → checked n p w k l s ≡ fails x s' → Misses n p w k s x s'
check_misses n p w k l s {x} {s'} e = go (check_made n p w k l s) e
  where
    go : {o : Outcome Location} → CheckMade n p w k l s o → o ≡ fails x s' → Misses n p w k s x s'
    go (check_passed inside) q = absurd (ok_not q)
    go (check_missed miss) q =
        let same : check_of n p w k ≡ x = cc in
        let state : noted (tested (check_of n p w k)) s ≡ s' = cc in
        rw (← state, ← same) (record { is = refl; not_passed = miss; event = one_event _ s })

-- Neither check of a copy is made before both operands are worked out, and the second one only where the first is passed.
failing_copies : {n k : ℕ} {a b : Value} {s s₁ s' : State} {p q : Datum} {x : BoundsCheck} → Operands a b s p q s₁ → copy_step n k p q s₁ ≡ fails x s'
    → ValueFails s x s' (Copy n k a b)
unfolding copy_step move_step
failing_copies {n} {k} {a} {b} {s} {s₁} {s'} {p} {q} {x} operands e = go (either (pointed_step n k p s₁) _ e)
  where
    go : EitherFails (pointed_step n k p s₁) (λ l s₂. bind (pointed_step n k q s₂) (move_step k l)) x s' → ValueFails s x s' (Copy n k a b)
    go (first h) = copy_to p q s₁ operands (check_misses n p p.value k _ s₁ h)
    go (second l s₂ h r) =
        let to = checked_ok n p p.value k _ s₁ h in
        copy_from p q s₁ s₂ operands (rw to.state at to.passes)
        (check_misses n q q.value k _ s₂ (only_first (pointed_step n k q s₂) _ (λ m s₃. touched_not (all_below k _) _ s₃ _) r))

-- ---- trees

pub failing_places : (p : Place) (s : State) (x : BoundsCheck) (s' : State) → place_at p s ≡ fails x s' → PlaceFails s x s' p
unfolding place_at deref_step field_step
failing_places (Variable n i) s x s' e = absurd (ok_not e)
failing_places (Deref n v) s x s' e = go (either (value_at v s) _ e)
  where
    go : EitherFails (value_at v s) (deref_step n) x s' → PlaceFails s x s' (Deref n v)
    go (first q) = deref_child q
    go (second p s₁ q r) = deref_check {n = n} (record { pointer = p; s₁ = s₁; child = q; check = rw (add-zero p.value) (check_misses n p p.value 1 _ s₁ r) })
failing_places (Field n offset k v) s x s' e = go (either (value_at v s) _ e)
  where
    go : EitherFails (value_at v s) (field_step n offset k) x s' → PlaceFails s x s' (Field n offset k v)
    go (first q) = field_child q
    go (second p s₁ q r) = field_check (record { pointer = p; s₁ = s₁; child = q; check = check_misses n p (p.value + offset) k _ s₁ r })
failing_places NoPlace s x s' e = absurd (no_rule_not e)

pub failing_values : (v : Value) (s : State) (x : BoundsCheck) (s' : State) → value_at v s ≡ fails x s' → ValueFails s x s' v
unfolding value_at read_step
failing_values (Number n i) s x s' e = absurd (ok_not e)
failing_values (Sum n flag step a b) s x s' e = go (either (value_at a s) _ e)
  where
    go : EitherFails (value_at a s) (λ p s₁. bind (value_at b s₁) (sum_step flag step p)) x s' → ValueFails s x s' (Sum n flag step a b)
    go (first q) = sum_left q
    go (second p s₁ q r) = sum_right p s₁ q (only_first (value_at b s₁) (sum_step flag step p) (λ d s₂ never. ok_not never) r)
failing_values (Read n pointer p) s x s' e = read_place (only_first (place_at p s) _ (λ l s₁. touched_not (touchable s₁ l.at) _ s₁ _) e)
failing_values (Address n p) s x s' e = address_place (only_first (place_at p s) _ (λ l s₁ never. ok_not never) e)
failing_values (Cast n keeps v) s x s' e = cast_child (only_first (value_at v s) _ (λ d s₁. cast_not keeps d s₁) e)
failing_values (Malloc n v) s x s' e = malloc_child (only_first (value_at v s) _ (λ d s₁. malloc_not d s₁) e)
failing_values (Copy n k a b) s x s' e = go (either (value_at a s) _ e)
  where
    go : EitherFails (value_at a s) (λ p s₁. bind (value_at b s₁) (copy_step n k p)) x s' → ValueFails s x s' (Copy n k a b)
    go (first q) = copy_left q
    go (second p s₁ q r) = next p s₁ q (either (value_at b s₁) (copy_step n k p) r)
      where
        next : (p : Datum) (s₁ : State) → value_at a s ≡ ok p s₁ → EitherFails (value_at b s₁) (copy_step n k p) x s' → ValueFails s x s' (Copy n k a b)
        next p s₁ h (first r) = copy_right p s₁ h r
        next p s₁ h (second q s₂ r c) = failing_copies (record { s₁ = s₁; first = h; second = r }) c
failing_values NoValue s x s' e = absurd (no_rule_not e)

pub failing_commands : (pointer : Bool) (p : Place) (v : Value) (s : State) (x : BoundsCheck) (s' : State) → assign pointer p v s ≡ fails x s' → AssignFails p v s x s'
unfolding assign assign_step
failing_commands pointer p v s x s' e = go (either (place_at p s) _ e)
  where
    go : EitherFails (place_at p s) (λ l s₁. bind (value_at v s₁) (assign_step pointer l)) x s' → AssignFails p v s x s'
    go (first q) = in_place q
    go (second l s₁ q r) = in_value l s₁ q (only_first (value_at v s₁) _ (λ d s₂. touched_not (touchable s₂ l.at) tt s₂ _) r)
