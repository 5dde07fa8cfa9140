-- What a command answers, from what its place, its value and its store did.
use Rattle.std.specs.Prelude.{if◌then◌else◌, Result, Ok, Err, ⊤}
use Rattle.std.specs.Result.{IsErrAnd}
use Rattle.std.proofs.lemmas.Result.{err_from_is_err_and}
use Prim.Native.Nat.{ℕ, ◌+◌, ◌%◌, ◌≤◌, ◌<◌}
use mathlib.Core.Bool.{Bool, true, false}
use mathlib.Core.Path.{◌≡◌, refl, ap, ◌∙◌}
use mathlib.Core.List.{List, ◌∷◌}
use native.Mathlib.Omega.{arith}
use borrow.Author.Tests.{lt-ltb}
use lib.ListN.{length, set, length-set}
use Rattle.semantics.specs.Words.{Words, word}
use Rattle.semantics.specs.Table.{is_pointer}
use Rattle.semantics.specs.Syntax.{place_of, value_of}
use Rattle.semantics.specs.Rules.{Datum, Access, Location, Event, stored, State, Outcome, noted, touchable, place_at, value_at, with_datum, assign_step, assign}
use Rattle.semantics.specs.Explain.{block_start}
use Rattle.semantics.proofs.Blocks.{stored_no_block}
use Rattle.semantics.proofs.Invariant.{DatumOk, LocationOk, location_later}
use Rattle.semantics.proofs.Steps.{place_good, value_good}
use Rattle.semantics.proofs.Starts.{start_beside}
use Rattle.lookups.specs.declared.Lists.{Lists}
use Rattle.steps.specs.declared.Halt.{Halt}
use Rattle.steps.specs.declared.Memory.{Memory}
use Rattle.steps.specs.declared.Slots.{Slots}
use Rattle.steps.specs.Answers.{failed, state_of, DatumIs, PlaceIs, Stands, Answers, answers_ok, answers_failed, answers_full, Says, says_ok, says_failed, says_no_room, Inside}
use Rattle.steps.proofs.Finish.{passed_on, touched, watches_on, all_kept}
use Rattle.lookups.proofs.Lookups.{noted_bounds}
use Rattle.evaluator.specs.Result.{PlaceReady, ValueReady, ValueAnswered, AssignedAnswered}
use Rattle.evaluator.proofs.Outcomes.{WorkedOut, worked_out}
use Rattle.lookups.specs.Nodes.{CommandNodes}
use Rattle.commands.specs.Command.{CommandReady, Stored, number_of, DoneIs, CommandAnswered}

-- ---- what a result says

pub below : {r x : ℕ} → Says r (Ok x) → (r < failed) × (x ≡ r)
below (says_ok small) = (small, refl)

past : {r : ℕ} {h : Halt} → Says r (Err h) → failed ≤ r
past (says_failed e) = omega arith
past (says_no_room e) = omega arith

-- Where evaluation has ended, it says how.
halted : {A : Type 0} {Is : A → ℕ → Slots → Type 0} {w r : ℕ} {m : Memory} {s : Slots} {o : Outcome A} {h : Halt} → Says r (Err h) → Answers Is w m r s o → Answers Is w m (number_of (Err h)) s o
halted (says_failed e) (answers_ok x log i small watch) = absurd (omega arith)
halted (says_failed e) (answers_failed log i watch) = answers_failed log refl watch
halted (says_failed e) (answers_full log i) = absurd (omega arith)
halted (says_no_room e) (answers_ok x log i small watch) = absurd (omega arith)
halted (says_no_room e) (answers_failed log i watch) = absurd (omega arith)
halted (says_no_room e) (answers_full log i) = answers_full log refl

-- What a `?` passes on is how the evaluation ended.
is_passed : {h : Halt} (z : Result ⊤ Halt) → IsErrAnd z (λ y. y ≡ h) → z ≡ Err h
is_passed z passed = let k = err_from_is_err_and z passed in k.1 ∙ ap Err k.2

-- ---- the store

-- The lists that a store leaves are those of the rules.
stored_state : {v b e : ℕ} (m m' : Memory) (q : Bool) (w u : ℕ) (x : Datum) (ev : Event) (log : List Event) → x.value ≡ v → x.base ≡ b → x.end ≡ e
    → m'.values.now ≡ set m.values.now w v → m'.bases.now ≡ (if q then set m.bases.now w b else m.bases.now) → m'.ends.now ≡ (if q then set m.ends.now w e else m.ends.now)
    → noted ev (with_datum q w x (state_of m u log)) ≡ state_of m' u (ev ∷ log)
stored_state m m' true w u x ev log hv hb he p q r = rw (hv, hb, he, p, q, r)
stored_state m m' false w u x ev log hv hb he p q r = rw (hv, p, q, r)

-- ---- the place and the value

pub place_first : {l : Lists} {m : Memory} {p v : ℕ} {s : Slots} → CommandReady l m p v s → PlaceReady l m p s
place_first h =
    let k = h.nodes_are in record { table = h.table; lists = k.lists_of; node = k.place_node; room = tt; state = h.state; tree = k.place_tree }

module _ {l : Lists} {m m₁ : Memory} {p v at : ℕ} {s s₁ : Slots} (place : AssignedAnswered l m p s at m₁ s₁) where
  pub place_ended : {h : Halt} {z : Result ⊤ Halt} → Says at (Err h) → IsErrAnd z (λ y. y ≡ h) → CommandAnswered l m p v s z m₁ s₁
  unfolding assign
  place_ended {z = z} says passed =
      record {
        meets = λ t vars w log st k.
            rw (is_passed z passed) (halted says ((passed_on {Ok = LocationOk} _ (past says)).meets vars _ w _ _ (place.meets t k.lists_of k.place_node vars w log st k.place_tree) (place_good k.place_tree _ st.inv)));
      }

  module _ (under : at < failed) where
    pub value_next : CommandReady l m p v s → ValueReady l m₁ v s₁
    value_next h =
        let k = h.nodes_are in
        let w = worked_out (place.meets h.table k.lists_of k.place_node h.state.vars h.state.watched h.state.log h.state.stands k.place_tree) (place_good k.place_tree _ h.state.stands.inv) under in
        record {
          table = h.table;
          lists = k.lists_of;
          node = k.value_node;
          room = tt;
          state = record { vars = h.state.vars; watched = h.state.watched; log = w.log; stands = w.stands; most = omega (arith, w.long, h.state.most) };
          tree = k.value_tree;
        }

    module _ {m₂ : Memory} {r : ℕ} {s₂ : Slots} (value : ValueAnswered l m₁ v s₁ r m₂ s₂) where
      pub value_ended : {h : Halt} {z : Result ⊤ Halt} → Says r (Err h) → IsErrAnd z (λ y. y ≡ h) → CommandAnswered l m p v s z m₂ s₂
      unfolding assign
      value_ended {z = z} says passed =
          record {
            meets = λ t vars w log st k.
                let at = worked_out (place.meets t k.lists_of k.place_node vars w log st k.place_tree) (place_good k.place_tree _ st.inv) under in
                rw (is_passed z passed, at.outcome)
                (halted says ((passed_on {Ok = DatumOk} _ (past says)).meets vars _ w _ _ (value.meets t k.lists_of k.value_node vars w at.log at.stands k.value_tree) (value_good k.value_tree _ at.stands.inv)));
          }

      -- The place and the value were worked out: how the command stands before its store.
      module _ (small : r < failed) {t : Words} {vars w : ℕ} {log : List Event} (st : Stands vars w m s log) (k : CommandNodes t l p v vars) where
        first : WorkedOut PlaceIs (LocationOk vars) vars (length m.values.now) w m₁ at s₁ (state_of m s.unused log) (place_at (place_of t p) (state_of m s.unused log))
        first = worked_out (place.meets t k.lists_of k.place_node vars w log st k.place_tree) (place_good k.place_tree _ st.inv) under

        abbrev between : State
        between = state_of m₁ s₁.unused first.log

        second : WorkedOut DatumIs (DatumOk vars) vars (length m₁.values.now) w m₂ r s₂ between (value_at (value_of t v) between)
        second = worked_out (value.meets t k.lists_of k.value_node vars w first.log first.stands k.value_tree) (value_good k.value_tree _ first.stands.inv) small

        still : LocationOk vars first.result (state_of m₂ s₂.unused second.log)
        still = location_later second.later.more first.fine

      -- The word that is stored to lies in all three lists.
      pub store_inside : CommandReady l m p v s → r < failed → Inside (at + 1) m₂
      store_inside h small =
          let k = h.nodes_are in
          let t = touched (second small h.state.stands k).stands.inv (still small h.state.stands k) (first small h.state.stands k).is.at in
          record { values = omega (arith, t); bases = omega (arith, t); ends = omega (arith, t) }

      -- A store is no block.
      block_kept : (at : ℕ) (a : Access) (log : List Event) (w : ℕ) → block_start (stored at a ∷ log) w ≡ block_start log w
      block_kept at a log w = start_beside (stored at a) log w (stored_no_block at a)

      pub command_done : {m₃ : Memory} {y : ℕ} → r < failed → y ≡ word l.notes.now v % 256 → Stored y at r s₂.base s₂.end m₂ m₃
          → CommandAnswered l m p v s (Ok tt) m₃ s₂
      unfolding assign assign_step touchable
      command_done {m₃} {y} small ht st =
          record {
            meets = λ t vars w log st₀ k.
                let one = first small st₀ k in
                let two = second small st₀ k in
                rw (one.outcome, two.outcome) (stores one.result two.result two.log (noted_bounds k.lists_of k.value_node ht) one.is.at two.is two.stands (still small st₀ k));
          }
        where
          stores : {vars w : ℕ} {bounds : Bool} (x : Location) (d : Datum) (log : List Event) → is_pointer y ≡ bounds → x.at ≡ at → DatumIs d r s₂ → Stands vars w m₂ s₂ log
              → LocationOk vars x (state_of m₂ s₂.unused log) → Answers DoneIs w m₃ 0 s₂ (assign_step bounds x d (state_of m₂ s₂.unused log))
          stores {w = w} x d log same hx hd here fine =
              let t = touched here.inv fine hx in
              let long : length m₃.values.now ≡ length m₂.values.now = ap length st.values ∙ length-set m₂.values.now at r in
              rw (← same, hx, lt-ltb 0 at t.0, lt-ltb at s₂.unused t.1, stored_state m₂ m₃ (is_pointer y) at s₂.unused d (stored at x.access) log hd.value hd.base hd.end st.values st.bases st.ends)
              (answers_ok tt (stored at x.access ∷ log) (record { zero = refl }) (omega arith) (rw long (watches_on (all_kept s₂) (block_kept at x.access log w) here.watches)))
