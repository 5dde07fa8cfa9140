-- Request 5: "No outcome of any run changes." The test of a check as it was, which passes where the new one does for every number of words above 0;
-- the rules with that test; and that a run by them is the run by the rules as they are.
use Rattle.std.specs.Prelude.{if◌then◌else◌}
use Prim.Native.Nat.{ℕ, zero, suc, ◌+◌, ◌≤◌, ◌<◌}
use mathlib.Core.Bool.{Bool, true, false, ◌&&◌}
use mathlib.Core.Path.{◌≡◌, refl, sym, ap, ◌∙◌}
use native.Mathlib.Omega.{arith}
use borrow.Author.Tests.{leb-true, le-leb}
use lib.Dec.{leb}
use Rattle.semantics.specs.Words.{Words}
use Rattle.semantics.specs.Table.{edition, commands, count, node_type}
use Rattle.semantics.specs.Check.{command_place, command_value}
use Rattle.semantics.specs.Syntax.{Place, Variable, Deref, Field, NoPlace, Value, Number, Sum, Read, Address, Cast, Malloc, Copy, NoValue, moves_bounds, place_of, value_of}
use Rattle.semantics.specs.Rules.{Datum, unbounded, followed, Location, variable_location, tested, State, noted, Outcome, ok, fails, no_room, no_rule, bind, enough_left, check_of, checked, pointed, deref_step, field_step, read_step, address_step, sum_step, cast_step, malloc_step, move_step, copy_step, place_at, value_at, assign_step, assign}
use Rattle.semantics.specs.Run.{command, Ending, done, abort, out_of_memory, stuck, Run, ended, after_command, then_command, commands_below}
use Rattle.semantics.proofs.Tests.{and_true, and_both, enough_true, enough_false}
use Rattle.semantics.proofs.Passed.{Passed}
use Rattle.semantics.proofs.Steps.{PlaceOk, variable_ok, deref_ok, field_ok, ValueOk, number_ok, sum_ok, read_ok, address_ok, cast_ok, malloc_ok, copy_ok}
use Rattle.semantics.proofs.Trees.{command_ok}

-- ---- the test

-- Words [w, w + k) lie within the bounds of p.
unfoldable pub in_bounds : Datum → ℕ → ℕ → Bool
in_bounds p w k = leb p.base w && leb (w + k) p.end

-- For every number of words above 0 the new test passes exactly where this one does. This settles how many words are left: of two different numbers,
-- one is at least some number above 0 that the other is not.
pub passes_as_before : (p : Datum) (w k : ℕ) → 1 ≤ k → enough_left p w k ≡ in_bounds p w k
unfolding in_bounds
passes_as_before p w k some = go (enough_left p w k) refl (leb p.base w && leb (w + k) p.end) refl
  where
    go : (x : Bool) → enough_left p w k ≡ x → (y : Bool) → leb p.base w && leb (w + k) p.end ≡ y → x ≡ y
    go true e y f =
        let inside = enough_true p w k e some in
        sym (and_both _ _ (le-leb p.base w inside.0) (le-leb (w + k) p.end inside.1)) ∙ f
    go false e true f =
        let both = and_true (leb p.base w) (leb (w + k) p.end) f in
        absurd (enough_false p w k e (leb-true _ _ both.0) (leb-true _ _ both.1))
    go false e false f = refl

-- ---- the rules with that test

unfoldable pub checked_before : ℕ → Datum → ℕ → ℕ → Location → State → Outcome Location
checked_before n p w k l s =
    let x = check_of n p w k in
    if in_bounds p w k then ok l (noted (tested x) s) else fails x (noted (tested x) s)

abbrev pub pointed_before : ℕ → ℕ → Datum → State → Outcome Location
pointed_before n k p s =
    checked_before n p p.value k (pointed p) s

abbrev pub field_before : ℕ → ℕ → ℕ → Datum → State → Outcome Location
field_before n offset k p s =
    checked_before n p (p.value + offset) k
    (record { at = p.value + offset; base = p.value + offset; end = p.value + offset + k; access = followed p }) s

abbrev pub copy_before : ℕ → ℕ → Datum → Datum → State → Outcome Datum
copy_before n k p q s = bind (pointed_before n k p s) (λ a s'. bind (pointed_before n k q s') (move_step k a))

unfoldable mutual
  pub place_before : Place → State → Outcome Location
  place_before (Variable n i) s = ok (variable_location i) s
  place_before (Deref n v) s = bind (value_before v s) (pointed_before n 1)
  place_before (Field n offset k v) s = bind (value_before v s) (field_before n offset k)
  place_before NoPlace s = no_rule s

  pub value_before : Value → State → Outcome Datum
  value_before (Number n x) s = ok (unbounded x) s
  value_before (Sum n either step a b) s = bind (value_before a s) (λ p s'. bind (value_before b s') (sum_step either step p))
  value_before (Read n pointer p) s = bind (place_before p s) (read_step pointer)
  value_before (Address n p) s = bind (place_before p s) address_step
  value_before (Cast n keeps v) s = bind (value_before v s) (cast_step keeps)
  value_before (Malloc n v) s = bind (value_before v s) malloc_step
  value_before (Copy n k a b) s = bind (value_before a s) (λ p s'. bind (value_before b s') (copy_before n k p))
  value_before NoValue s = no_rule s

abbrev pub command_before : Words → ℕ → State → Outcome (Unit {0})
command_before t c s =
    bind (place_before (place_of t (command_place t c)) s)
    (λ l s'. bind (value_before (value_of t (command_value t c)) s') (assign_step (moves_bounds (edition t) (node_type t (command_place t c))) l))

abbrev pub then_before : Words → ℕ → Ending → State → Run
then_before t c done s = after_command c (command_before t c s)
then_before t c (abort d) s = ended (abort d) s
then_before t c (out_of_memory d) s = ended (out_of_memory d) s
then_before t c (stuck d) s = ended (stuck d) s

unfoldable pub commands_before : Words → ℕ → State → Run
commands_before t zero s = ended done s
commands_before t (suc c) s = then_before t c (commands_before t c s).ending (commands_before t c s).state

-- ---- they come to the same, where every check asks for at least one word

checked_same : (n : ℕ) (p : Datum) (w k : ℕ) (l : Location) (s : State) → 1 ≤ k → checked_before n p w k l s ≡ checked n p w k l s
unfolding checked_before checked
checked_same n p w k l s some = rw (passes_as_before p w k some)

bind_same : {A B : Type 0} {o o' : Outcome A} {f g : A → State → Outcome B} → o ≡ o' → ((a : A) (s : State) → f a s ≡ g a s) → bind o f ≡ bind o' g
bind_same {A} {B} {o} {o'} {f} {g} e h = ap (λ x. bind x f) e ∙ go o'
  where
    go : (x : Outcome A) → bind x f ≡ bind x g
    go (ok a s) = h a s
    go (fails x s) = refl
    go (no_room s) = refl
    go (no_rule s) = refl

mutual
  unfolding place_before place_at deref_step field_step copy_step

  place_same : {vars : ℕ} {p : Place} → PlaceOk vars p → (s : State) → place_before p s ≡ place_at p s
  place_same (variable_ok h) s = refl
  place_same (deref_ok {n = n} v) s = bind_same (value_same v s) (λ p s'. checked_same n p p.value 1 _ s' (omega arith))
  place_same (field_ok {n = n} {offset = o} {k = k} some v) s = bind_same (value_same v s) (λ p s'. checked_same n p (p.value + o) k _ s' some)

  value_same : {vars : ℕ} {v : Value} → ValueOk vars v → (s : State) → value_before v s ≡ value_at v s
  value_same number_ok s = refl
  value_same (sum_ok a b) s = bind_same (value_same a s) (λ p s'. bind_same (value_same b s') (λ x s''. refl))
  value_same (read_ok p) s = bind_same (place_same p s) (λ l s'. refl)
  value_same (address_ok p) s = bind_same (place_same p s) (λ l s'. refl)
  value_same (cast_ok v) s = bind_same (value_same v s) (λ p s'. refl)
  value_same (malloc_ok v) s = bind_same (value_same v s) (λ x s'. refl)
  value_same (copy_ok {n = n} {k = k} some a b) s =
      bind_same (value_same a s)
      (λ p s'.
      bind_same (value_same b s')
      (λ q s''. bind_same (checked_same n p p.value k _ s'' some) (λ l s₃. bind_same (checked_same n q q.value k _ s₃ some) (λ m s₄. refl))))

command_same : {t : Words} → Passed t → (c : ℕ) → c < count t commands → (s : State) → command_before t c s ≡ command t c s
unfolding command assign
command_same passed c less s =
    let tree = command_ok passed c less in
    bind_same (place_same tree.place_tree s) (λ l s'. bind_same (value_same tree.value_tree s') (λ x s''. refl))

-- The commands of a table that passes the check, from any state: the same ending, and the same memory, U and log.
pub runs_as_before : {t : Words} → Passed t → (s : State) (c : ℕ) → c ≤ count t commands → commands_before t c s ≡ commands_below t c s
unfolding commands_before commands_below
runs_as_before passed s zero h = refl
runs_as_before {t} passed s (suc c) h =
    ap (λ r. then_before t c r.ending r.state) (runs_as_before passed s c (omega arith)) ∙ go (commands_below t c s).ending (commands_below t c s).state
  where
    go : (e : Ending) (s' : State) → then_before t c e s' ≡ then_command t c e s'
    go done s' = ap (after_command c) (command_same passed c h s')
    go (abort d) s' = refl
    go (out_of_memory d) s' = refl
    go (stuck d) s' = refl
