-- What a command answers, from what its place, its value and its store did.
use Prim.Native.Nat.{ℕ, ◌<◌}
use mathlib.Core.Path.{◌≡◌, refl, ap, ◌∙◌}
use native.Mathlib.Omega.{arith}
use lib.ListN.{length}
use Rattle.std.specs.Prelude.{Result, Ok, Err, ⊤}
use Rattle.std.specs.Result.{IsErrAnd}
use Rattle.std.proofs.lemmas.Result.{err_from_is_err_and}
use Rattle.semantics.specs.Words.{Words}
use Rattle.semantics.specs.Syntax.{place_of, value_of}
use Rattle.semantics.specs.Bare.{State, Outcome, bind, value_at, assign_step, assign}
use Rattle.lookups.specs.declared.Lists.{Lists}
use Rattle.lookups.specs.Nodes.{CommandNodes}
use Rattle.bare_steps.specs.declared.Halt.{Halt}
use Rattle.bare_steps.specs.declared.Halt.TheVariants.{NoRoom, Stuck}
use Rattle.bare_steps.specs.Answers.{outcome_of, Tells, Assigns}
use Rattle.bare_evaluator.specs.Result.{PlaceReady, ValueReady, PlaceAnswered, ValueAnswered}
use Rattle.bare_evaluator.proofs.Evaluation.{ready_after}
use Rattle.bare_commands.specs.Command.{CommandReady, CommandAnswered}

pub place_first : {l : Lists} {s : State} {p v : ℕ} → CommandReady l s p v → PlaceReady l s p
place_first h = let k = h.nodes_are in record { table = h.table; lists = k.lists_of; node = k.place_node; room = tt; state = h.state; tree = k.place_tree }

-- What a `?` passes on is how the evaluation ended.
is_passed : {h : Halt} (z : Result ⊤ Halt) → IsErrAnd z (λ y. y ≡ h) → z ≡ Err h
is_passed z passed = let k = err_from_is_err_and z passed in k.1 ∙ ap Err k.2

-- An evaluation that ended is passed on.
stops : {A : Type 0} (h : Halt) (f : ℕ → State → Outcome A) (s : State) → bind (outcome_of {A = ℕ} (Err h) s) f ≡ outcome_of {A = A} (Err h) s
stops NoRoom f s = refl
stops Stuck f s = refl

module _ {l : Lists} {s s₁ : State} {p v at : ℕ} (place : PlaceAnswered l s p at s₁) where
  pub place_ended : {h : Halt} {z : Result ⊤ Halt} → Tells at (Err h) → IsErrAnd z (λ y. y ≡ h) → CommandAnswered l s p v z s₁
  unfolding assign
  place_ended {h} {z} told passed =
      record {
        long = place.long;
        meets = λ t vars room k.
            rw (is_passed z passed, told.each s₁ _ (place.meets t k.lists_of k.place_node vars room k.place_tree)) (stops h _ s₁);
      }

  pub value_next : CommandReady l s p v → ValueReady l s₁ v
  unfolding ready_after
  value_next h =
      let k = h.nodes_are in
      record { table = h.table; lists = k.lists_of; node = k.value_node; room = tt; state = ready_after h.state place.long; tree = k.value_tree }

  module _ {x r : ℕ} {s₂ : State} (told : Tells at (Ok x)) (value : ValueAnswered l s₁ v r s₂) where
    -- The command goes on from the place that was worked out.
    placed : (t : Words) (vars : ℕ) → vars < length s.values → CommandNodes t l p v vars → assign (place_of t p) (value_of t v) s ≡ bind (value_at (value_of t v) s₁) (assign_step x)
    unfolding assign
    placed t vars room k = rw (told.each s₁ _ (place.meets t k.lists_of k.place_node vars room k.place_tree))

    pub value_ended : {h : Halt} {z : Result ⊤ Halt} → Tells r (Err h) → IsErrAnd z (λ y. y ≡ h) → CommandAnswered l s p v z s₂
    value_ended {h} {z} ended passed =
        record {
          long = value.long ∙ place.long;
          meets = λ t vars room k.
              placed t vars room k
              ∙ rw (is_passed z passed, ended.each s₂ _ (value.meets t k.lists_of k.value_node vars (omega (arith, place.long)) k.value_tree)) (stops h (assign_step x) s₂);
        }

    pub command_done : {y : ℕ} {z : Result ⊤ Halt} {s₃ : State} → Tells r (Ok y) → Assigns x y s₂ z s₃ → CommandAnswered l s p v z s₃
    command_done done stored =
        record {
          long = stored.long ∙ value.long ∙ place.long;
          meets = λ t vars room k.
              placed t vars room k ∙ rw (done.each s₂ _ (value.meets t k.lists_of k.value_node vars (omega (arith, place.long)) k.value_tree)) stored.meets;
        }
