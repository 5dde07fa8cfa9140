-- What holds of every state of a begun run, and of every outcome of a step.
use Prim.Native.Nat.{ℕ, ◌≤◌, ◌<◌}
use mathlib.Core.Path.{◌≡◌, refl, ◌∙◌}
use mathlib.Core.List.{List, Memᴰ}
use native.Mathlib.Omega.{arith}
use lib.ListN.{length}
use Rattle.semantics.specs.Words.{word}
use Rattle.semantics.specs.Rules.{Datum, Access, Location, BoundsCheck, Event, allocated, State, Outcome, ok, fails, no_room, bind}
use Rattle.semantics.specs.Safety.{Region, variable, block, Held, Permitted, by_name, by_pointer, Allowed, Sound, absent, held}
use Rattle.semantics.specs.Log.{Unwritten, SameWord}
use Rattle.semantics.proofs.Blocks.{AllChecks, Asks, Stacked, region_used}

pub record Inv (vars len : ℕ) (s : State) : Type 0 where
  pub values_length : length s.values ≡ len
  pub bases_length : length s.bases ≡ len
  pub ends_length : length s.ends ≡ len
  pub low : vars < s.unused
  pub high : s.unused ≤ len
  pub blocks : Stacked vars s.log s.unused
  pub sound : (w : ℕ) → Sound vars s.log (word s.bases w) (word s.ends w)
  pub allowed : Allowed vars s.log
  pub asks : AllChecks Asks s.log
  pub clear : (w : ℕ) → s.unused ≤ w → (word s.values w ≡ 0) × (word s.bases w ≡ 0) × (word s.ends w ≡ 0)

-- Every event of one log is one of another: what was obtained earlier stays so.
abbrev pub Within : List Event → List Event → Type 0
Within l m = (e : Event) → Memᴰ e l → Memᴰ e m

module _ {vars : ℕ} {l m : List Event} (more : Within l m) where
  region_later : {s t : ℕ} → Region vars l s t → Region vars m s t
  region_later (variable i h) = variable i h
  region_later (block s n h) = block s n (more (allocated s n) h)

  pub held_later : {b e : ℕ} → Held vars l b e → Held vars m b e
  held_later h = record { s = h.s; t = h.t; region = region_later h.region; from = h.from; proper = h.proper; upto = h.upto }

  pub sound_later : {b e : ℕ} → Sound vars l b e → Sound vars m b e
  sound_later (absent p q) = absent p q
  sound_later (held h) = held (held_later h)

  pub permitted_later : {w : ℕ} {a : Access} → Permitted vars l w a → Permitted vars m w a
  permitted_later (by_name h e) = by_name h e
  permitted_later (by_pointer f u h) = by_pointer f u (held_later h)

-- A word that may be touched is in use.
pub permitted_used : {vars len w : ℕ} {st : State} {a : Access} → Inv vars len st → Permitted vars st.log w a → (0 < w) × (w < st.unused)
permitted_used inv (by_name h e) = omega (arith, inv.low)
permitted_used inv (by_pointer f u h) = omega (arith, region_used inv.blocks h.region)

-- From one state to a later one: no event is lost, and a word that no event writes keeps its value, base and end.
pub record Later (s s' : State) : Type 0 where
  pub more : Within s.log s'.log
  pub kept : (w : ℕ) → Unwritten w s'.log → SameWord w s s'

pub same_word : (w : ℕ) (s : State) → SameWord w s s
same_word w s = record { value = refl; base = refl; end = refl }

pub now : {s : State} → Later s s
now {s} = record { more = λ e h. h; kept = λ w h. same_word w s }

pub later_trans : {s s' s'' : State} → Later s s' → Later s' s'' → Later s s''
later_trans f g =
    record {
      more = λ e h. g.more e (f.more e h);
      kept = λ w h.
          let p = f.kept w (λ a m. h a (g.more _ m)) in
          let q = g.kept w h in
          record { value = p.value ∙ q.value; base = p.base ∙ q.base; end = p.end ∙ q.end };
    }

-- Results: a value whose bounds are absent or held, a place that may be touched and whose bounds are held.
pub record DatumOk (vars : ℕ) (d : Datum) (s : State) : Type 0 where
  pub sound : Sound vars s.log d.base d.end

pub record LocationOk (vars : ℕ) (l : Location) (s : State) : Type 0 where
  pub permitted : Permitted vars s.log l.at l.access
  pub bounds : Held vars s.log l.base l.end

pub location_later : {vars : ℕ} {l : Location} {s s' : State} → Within s.log s'.log → LocationOk vars l s → LocationOk vars l s'
location_later more h = record { permitted = permitted_later more h.permitted; bounds = held_later more h.bounds }

-- An outcome from state s₀ on: the invariant holds, the result is as P says, bounds that a check fails by are absent or held; and it isn't no_rule.
pub data Good (vars len : ℕ) (s₀ : State) {A : Type 0} (P : A → State → Type 0) : Outcome A → Type 0 where
  good_ok : {a : A} {s : State} → Inv vars len s → Later s₀ s → P a s → Good vars len s₀ P (ok a s)
  good_fails : {x : BoundsCheck} {s : State} → Inv vars len s → Later s₀ s → Sound vars s.log x.base x.end → Good vars len s₀ P (fails x s)
  good_no_room : {s : State} → Inv vars len s → Later s₀ s → Good vars len s₀ P (no_room s)

good_from : {vars len : ℕ} {s₀ s₁ : State} {A : Type 0} {P : A → State → Type 0} {m : Outcome A}
    → Later s₀ s₁ → Good vars len s₁ P m → Good vars len s₀ P m
good_from past (good_ok inv l p) = good_ok inv (later_trans past l) p
good_from past (good_fails inv l sound) = good_fails inv (later_trans past l) sound
good_from past (good_no_room inv l) = good_no_room inv (later_trans past l)

pub bind_good : {vars len : ℕ} {s₀ : State} {A B : Type 0} {P : A → State → Type 0} {Q : B → State → Type 0} {m : Outcome A} {f : A → State → Outcome B}
    → Good vars len s₀ P m
    → ((a : A) (s : State) → Inv vars len s → Later s₀ s → P a s → Good vars len s Q (f a s))
    → Good vars len s₀ Q (bind m f)
bind_good (good_ok inv l p) k = good_from l (k _ _ inv l p)
bind_good (good_fails inv l sound) k = good_fails inv l sound
bind_good (good_no_room inv l) k = good_no_room inv l
