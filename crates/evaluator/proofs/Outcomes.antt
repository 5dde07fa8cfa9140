-- What follows from an outcome that was answered.
use Prim.Native.Nat.{ℕ, ◌<◌}
use mathlib.Core.Path.{◌≡◌, refl, sym, subst}
use mathlib.Core.List.{List}
use native.Mathlib.Omega.{arith}
use lib.ListN.{length}
use Rattle.semantics.specs.Rules.{Datum, Location, Event, State, Outcome, ok}
use Rattle.semantics.proofs.Invariant.{Inv, Later, Good, good_ok, good_fails, good_no_room}
use Rattle.lookups.specs.declared.Lists.{Lists}
use Rattle.steps.specs.declared.Memory.{Memory}
use Rattle.steps.specs.declared.Slots.{Slots}
use Rattle.steps.specs.Answers.{failed, state_of, DatumIs, LocationIs, NumberIs, PlaceIs, Stands, Answers, answers_ok, answers_failed, answers_full}
use Rattle.evaluator.specs.Result.{ValueAnswered}

-- The invariant speaks of the lists' own length.
pub own_length : {vars len : ℕ} {st : State} → Inv vars len st → Inv vars (length st.values) st
own_length {vars} {st = st} inv = subst (λ k. Inv vars k st) (sym inv.values_length) inv

-- What follows from an outcome that was answered, and is good: the lists are as long as they were.
pub lengths_after : {A : Type 0} {Is : A → ℕ → Slots → Type 0} {P : A → State → Type 0} {m : Memory} {w r : ℕ} {s : Slots} {vars len : ℕ} {s₀ : State} {o : Outcome A}
    → Answers Is w m r s o → Good vars len s₀ P o → (length m.values.now ≡ len) × (length m.bases.now ≡ len) × (length m.ends.now ≡ len)
lengths_after (answers_ok x log h small watch) (good_ok inv later fine) = (inv.values_length, inv.bases_length, inv.ends_length)
lengths_after (answers_failed log h watch) (good_fails inv later sound) = (inv.values_length, inv.bases_length, inv.ends_length)
lengths_after (answers_full log h) (good_no_room inv later) = (inv.values_length, inv.bases_length, inv.ends_length)

-- The result of a good outcome that was answered by v, no failure, and the state that it leaves.
pub record WorkedOut {A : Type 0} (Is : A → ℕ → Slots → Type 0) (P : A → State → Type 0) (vars len w : ℕ) (m : Memory) (v : ℕ) (s : Slots) (s₀ : State) (o : Outcome A) : Type 0 where
  pub result : A
  pub log : List Event
  pub outcome : o ≡ ok result (state_of m s.unused log)
  pub is : Is result v s
  pub long : length m.values.now ≡ len
  pub stands : Stands vars w m s log
  pub later : Later s₀ (state_of m s.unused log)
  pub fine : P result (state_of m s.unused log)

pub worked_out : {A : Type 0} {Is : A → ℕ → Slots → Type 0} {P : A → State → Type 0} {vars len w v : ℕ} {m : Memory} {s : Slots} {s₀ : State} {o : Outcome A}
    → Answers Is w m v s o → Good vars len s₀ P o → v < failed → WorkedOut Is P vars len w m v s s₀ o
worked_out (answers_ok x log h small watch) (good_ok inv later fine) under =
    record { result = x; log = log; outcome = refl; is = h; long = inv.values_length; stands = record { inv = own_length inv; watches = watch }; later = later; fine = fine }
worked_out (answers_failed log h watch) g under = absurd (omega arith)
worked_out (answers_full log h) g under = absurd (omega arith)

-- Less is asked of a result.
pub weakened : {A : Type 0} {Is Child : A → ℕ → Slots → Type 0} {m : Memory} {w r : ℕ} {s : Slots} {o : Outcome A} → ((x : A) → Is x r s → Child x r s) → Answers Is w m r s o → Answers Child w m r s o
weakened f (answers_ok x log h small watch) = answers_ok x log (f x h) small watch
weakened f (answers_failed log h watch) = answers_failed log h watch
weakened f (answers_full log h) = answers_full log h

pub number_of : {r : ℕ} {s : Slots} (x : Datum) → DatumIs x r s → NumberIs x r s
number_of x h = record { value = h.value }

pub place_only : {r : ℕ} {s : Slots} (x : Location) → LocationIs x r s → PlaceIs x r s
place_only x h = record { at = h.at }

-- Where two ways meet, what was answered on each is what the joined values are.
pub joined : {l : Lists} {m m₁ m₁' : Memory} {n v v' : ℕ} {s s₁ s₁' : Slots} → m₁' ≡ m₁ → s₁' ≡ s₁ → v' ≡ v → ValueAnswered l m n s v m₁ s₁ → ValueAnswered l m n s v' m₁' s₁'
joined hm hs hv h = rw (hm, hs, hv) h
