-- In edition 1 an int value has no bounds. So a cast of one changes nothing; and a sum, whose right operand is an int, has the bounds that it would have
-- in edition 2.
use Rattle.std.specs.Prelude.{if◌then◌else◌}
use Prim.Native.Nat.{ℕ, zero, suc, ◌+◌, ◌*◌, ◌%◌, ◌≤◌, ◌<◌}
use mathlib.Core.Bool.{Bool, true, false, ◌&&◌, false≢true}
use mathlib.Core.Path.{◌≡◌, refl, sym, ap, ◌∙◌}
use native.Mathlib.Omega.{arith}
use native.Mathlib.Nat.{not-suc-le-zero}
use native.Mathlib.Decide.{ℕ_discrete}
use borrow.Author.Tests.{eqb-true}
use lib.Dec.{eqb}
use lib.ListN.{get_or}
use Rattle.semantics.specs.Words.{Words, word, all_below}
use Rattle.semantics.specs.Table.{edition_1, edition_2, Edition, edition, nodes, count, is_pointer, Kind, variable, deref, field, constant, sum, read, address, cast, size, malloc, copy, unknown, value, sort_of, node_kind, node_a, node_b, type_by_kind, type_rule, types_below, node_type}
use Rattle.semantics.specs.Check.{same_sort, is_child}
use Rattle.semantics.specs.Syntax.{Place, Value, Number, Sum, Read, Cast, Copy, senseless, as_value, either_bounds, tree_by_kind, tree_rule, trees_below, tree_of, value_of}
use Rattle.semantics.specs.Rules.{Datum, unbounded, Location, loaded, BoundsCheck, State, noted, Outcome, ok, fails, no_room, no_rule, bind, touchable, contents, pointed_step, read_step, takes_right, sum_step, cast_step, with_copy, move_step, copy_step, place_at, value_at}
use Rattle.semantics.proofs.Passed.{require_passes, Passed}
use Rattle.semantics.proofs.Trees.{NodeOk, node_ok, is_child_true, types_at, trees_at}

-- ---- outcomes

-- Where there is a datum, it is a value without bounds.
data Unbounded : Outcome Datum → Type 0 where
  unbounded_ok : {v : ℕ} {s : State} → Unbounded (ok (unbounded v) s)
  unbounded_fails : {x : BoundsCheck} {s : State} → Unbounded (fails x s)
  unbounded_no_room : {s : State} → Unbounded (no_room s)
  unbounded_no_rule : {s : State} → Unbounded (no_rule s)

unchanged : {o : Outcome Datum} → Unbounded o → bind o (cast_step false) ≡ o
unchanged unbounded_ok = refl
unchanged unbounded_fails = refl
unchanged unbounded_no_room = refl
unchanged unbounded_no_rule = refl

bind_unbounded : {A : Type 0} (o : Outcome A) (f : A → State → Outcome Datum) → ((a : A) (s : State) → Unbounded (f a s)) → Unbounded (bind o f)
bind_unbounded (ok a s) f h = h a s
bind_unbounded (fails x s) f h = unbounded_fails
bind_unbounded (no_room s) f h = unbounded_no_room
bind_unbounded (no_rule s) f h = unbounded_no_rule

-- A number has no bounds that a sum could take.
pub sum_of_number : (either : Bool) (step : ℕ) (p : Datum) → (p.end ≡ 0 → p.base ≡ 0) → (x : ℕ) (s : State)
    → sum_step either step p (unbounded x) s ≡ sum_step false step p (unbounded x) s
unfolding takes_right
sum_of_number false step p none x s = refl
sum_of_number true step p none x s = go (eqb p.end 0) refl
  where
    bounded : ℕ → ℕ → Outcome Datum
    bounded b e = ok (record { value = (p.value + step * x) % 4294967296; base = b; end = e }) s

    go : (b : Bool) → eqb p.end 0 ≡ b
        → bounded (if b then unbounded x else p).base (if b then unbounded x else p).end ≡ bounded p.base p.end
    go true e = let no_end = eqb-true p.end 0 e in rw (none no_end, no_end) refl
    go false e = refl

either_same : {o : Outcome Datum} (step : ℕ) (p : Datum) → (p.end ≡ 0 → p.base ≡ 0) → Unbounded o → bind o (sum_step false step p) ≡ bind o (sum_step true step p)
either_same step p none (unbounded_ok {v = v} {s = s}) = sym (sum_of_number true step p none v s)
either_same step p none unbounded_fails = refl
either_same step p none unbounded_no_room = refl
either_same step p none unbounded_no_rule = refl

read_unbounded : (l : Location) (s : State) → Unbounded (read_step false l s)
unfolding read_step
read_unbounded l s = go (touchable s l.at)
  where
    go : (b : Bool) → Unbounded (if b then ok (contents false s l.at) (noted (loaded l.at l.access) s) else no_rule s)
    go true = unbounded_ok
    go false = unbounded_no_rule

copy_unbounded : (n k : ℕ) (p q : Datum) (s : State) → Unbounded (copy_step n k p q s)
unfolding copy_step move_step
copy_unbounded n k p q s = bind_unbounded (pointed_step n k p s) _ (λ a s'. bind_unbounded (pointed_step n k q s') (move_step k a) (λ b s''. go (all_below k _) a b s''))
  where
    go : (x : Bool) (a b : Location) (s'' : State) → Unbounded (if x then ok (unbounded k) (with_copy k a b s'') else no_rule s'')
    go true a b s'' = unbounded_ok
    go false a b s'' = unbounded_no_rule

-- A sum has the bounds of its left operand.
sum_unbounded : {o : Outcome Datum} (step : ℕ) (right : State → Outcome Datum) → Unbounded o
    → Unbounded (bind o (λ p s. bind (right s) (sum_step false step p)))
unfolding takes_right
sum_unbounded step right (unbounded_ok {v = v} {s = s}) = bind_unbounded (right s) (sum_step false step (unbounded v)) (λ x s'. unbounded_ok)
sum_unbounded step right unbounded_fails = unbounded_fails
sum_unbounded step right unbounded_no_room = unbounded_no_room
sum_unbounded step right unbounded_no_rule = unbounded_no_rule

-- ---- trees

-- The trees of int values. An address is no int, nor is what malloc gives.
data IntValue : Value → Type 0 where
  number_int : {n x : ℕ} → IntValue (Number n x)
  sum_int : {n step : ℕ} {a b : Value} → IntValue a → IntValue (Sum n false step a b)
  read_int : {n : ℕ} {p : Place} → IntValue (Read n false p)
  cast_int : {n : ℕ} {v : Value} → IntValue (Cast n false v)
  copy_int : {n k : ℕ} {a b : Value} → IntValue (Copy n k a b)

int_unbounded : {v : Value} → IntValue v → (s : State) → Unbounded (value_at v s)
unfolding value_at
int_unbounded number_int s = unbounded_ok
int_unbounded (sum_int {step = k} {b = b} a) s = sum_unbounded k (value_at b) (int_unbounded a s)
int_unbounded (read_int {p = p}) s = bind_unbounded (place_at p s) (read_step false) read_unbounded
int_unbounded (cast_int {v = v}) s = bind_unbounded (value_at v s) (cast_step false) (λ p s'. unbounded_ok)
int_unbounded (copy_int {n = n} {k = k} {a = a} {b = b}) s =
    bind_unbounded (value_at a s) _ (λ p s'. bind_unbounded (value_at b s') (copy_step n k p) (copy_unbounded n k p))

-- ---- nodes

abbrev IntNode : Words → ℕ → Type 0
IntNode t n = sort_of (node_kind t n) ≡ value → node_type t n ≡ 0 → IntValue (value_of t n)

int_no_pointer : (b : Bool) → b && is_pointer 0 ≡ false
unfolding is_pointer
int_no_pointer true = refl
int_no_pointer false = refl

module _ {t : Words} (first : edition t ≡ edition_1) (n : ℕ) (int : node_type t n ≡ 0) (below : (i : ℕ) → i < n → IntNode t i) where
  int_by_kind : (k : Kind) (a b : ℕ) → NodeOk t n k a b → sort_of k ≡ value → type_by_kind t k a b (word (types_below t n)) ≡ 0
      → IntValue (as_value (tree_by_kind t n k a b (λ x. get_or (trees_below t n) x senseless)))
  unfolding value_of
  int_by_kind variable a b g q e = absurd (false≢true (ap (same_sort value) q))
  int_by_kind deref a b g q e = absurd (false≢true (ap (same_sort value) q))
  int_by_kind field a b g q e = absurd (false≢true (ap (same_sort value) q))
  int_by_kind constant a b g q e = number_int
  int_by_kind sum a b g q e =
      let c = is_child_true t value n a (require_passes (is_child t value n a) 7 _ g.a_ok) in
      rw (first, trees_at t n a c.0) (sum_int (below a c.0 (sym c.1) (sym (types_at t n a c.0) ∙ e)))
  int_by_kind read a b g q e = rw (first, int, int_no_pointer true) read_int
  int_by_kind address a b g q e = absurd (omega arith)
  int_by_kind cast a b g q e = rw (first, e, int_no_pointer (is_pointer (node_type t a))) cast_int
  int_by_kind size a b g q e = number_int
  int_by_kind malloc a b g q e = absurd (omega arith)
  int_by_kind copy a b g q e = copy_int
  int_by_kind unknown a b g q e = absurd (false≢true (ap (same_sort value) q))

int_nodes : {t : Words} → edition t ≡ edition_1 → Passed t → (n : ℕ) → n ≤ count t nodes → (i : ℕ) → i < n → IntNode t i
unfolding node_type type_rule value_of tree_of tree_rule
int_nodes first passed zero h i less = absurd (not-suc-le-zero less)
int_nodes {t} first passed (suc n) h i less = go (ℕ_discrete i n) (int_nodes first passed n (omega arith))
  where
    go : Dec (i ≡ n) → ((j : ℕ) → j < n → IntNode t j) → IntNode t i
    go (yes e) below =
        rw e (λ q int. int_by_kind first n int below (node_kind t n) (node_a t n) (node_b t n) (node_ok t n (passed.node_passes n h)) q int)
    go (no e) below = below i (omega arith)

-- ---- what a program can go by

module _ {t : Words} (passed : Passed t) (n : ℕ) (inside : n < count t nodes) (is_value : sort_of (node_kind t n) ≡ value) (int : node_type t n ≡ 0) where
  no_bounds : edition t ≡ edition_1 → (s : State) → Unbounded (value_at (value_of t n) s)
  no_bounds first s = int_unbounded (int_nodes first passed (count t nodes) (omega arith) n inside is_value int) s

  -- A cast of an int changes nothing.
  pub cast_of_int : edition t ≡ edition_1 → (s : State) → bind (value_at (value_of t n) s) (cast_step false) ≡ value_at (value_of t n) s
  cast_of_int first s = unchanged (no_bounds first s)

  -- A sum that adds an int goes by one rule in both editions, if its left operand has no base where it has no end.
  pub sum_of_int : (step : ℕ) (p : Datum) → (p.end ≡ 0 → p.base ≡ 0) → (s : State)
      → bind (value_at (value_of t n) s) (sum_step (either_bounds (edition t)) step p) ≡ bind (value_at (value_of t n) s) (sum_step true step p)
  sum_of_int step p none s = go (edition t) refl
    where
      go : (e : Edition) → edition t ≡ e → bind (value_at (value_of t n) s) (sum_step (either_bounds e) step p) ≡ bind (value_at (value_of t n) s) (sum_step true step p)
      go edition_1 first = either_same step p none (no_bounds first s)
      go edition_2 second = refl
