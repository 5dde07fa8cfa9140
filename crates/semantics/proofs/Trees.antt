-- The nodes of a table that passes the check: their types are known and their trees make sense.
use Prim.Native.Nat.{ℕ, zero, suc, ◌≤◌, ◌<◌}
use mathlib.Core.Bool.{Bool, true, not}
use mathlib.Core.Path.{◌≡◌, refl, sym}
use native.Mathlib.Omega.{arith}
use native.Mathlib.Nat.{not-suc-le-zero}
use native.Mathlib.Decide.{ℕ_discrete}
use borrow.Author.Tests.{ltb-true, eqb-true}
use lib.Dec.{ltb, eqb}
use lib.ListN.{get_or}
use Rattle.semantics.specs.Words.{Words, word}
use Rattle.semantics.specs.Table.{variables, nodes, commands, count, item_place, known_type, target, points_to_record, pointed_record, size_of, field_type, field_count, Kind, variable, deref, field, constant, sum, read, address, cast, size, malloc, copy, unknown, Sort, place, value, neither, sort_of, operand_a, operand_b, node_kind, node_a, node_b, type_by_kind, type_rule, types_below, node_type}
use Rattle.semantics.specs.Check.{passes, require, same_sort, is_child, operand_fault, types_fit, node_fault, command_place, command_value, command_fault}
use Rattle.semantics.specs.Syntax.{Place, Value, Tree, senseless, as_place, as_value, tree_by_kind, tree_rule, trees_below, tree_of, place_of, value_of}
use Rattle.semantics.specs.Syntax as Syntax
use Rattle.semantics.proofs.Tests.{and_true}
use Rattle.semantics.proofs.Lists.{get_d_grow}
use Rattle.semantics.proofs.Passed.{or_else_passes, require_passes, TypesPassed, Passed, int_known, entry_known, variable_known, field_ok, deref_known, target_record, record_known, field_in}
use Rattle.semantics.proofs.Sizes.{size_some}
use Rattle.semantics.proofs.Steps.{PlaceOk, variable_ok, deref_ok, field_ok as field_place_ok, ValueOk, number_ok, sum_ok, read_ok, address_ok, cast_ok, malloc_ok, copy_ok}

-- ---- one node

-- The parts of a node's check.
pub record NodeOk (t : Words) (n : ℕ) (k : Kind) (a b : ℕ) : Type 0 where
  pub kind_ok : not (same_sort neither (sort_of k)) ≡ true
  pub a_ok : operand_fault t n (operand_a k) a (item_place t nodes n 1) ≡ passes
  pub b_ok : operand_fault t n (operand_b k) b (item_place t nodes n 2) ≡ passes
  pub fit : types_fit t k a b ≡ true

pub node_ok : (t : Words) (n : ℕ) → node_fault t n ≡ passes → NodeOk t n (node_kind t n) (node_a t n) (node_b t n)
unfolding node_fault
node_ok t n h =
    let p0 = or_else_passes (require (not (same_sort neither (sort_of (node_kind t n)))) 7 (item_place t nodes n 0)) _ h in
    let p1 = or_else_passes (operand_fault t n (operand_a (node_kind t n)) (node_a t n) (item_place t nodes n 1)) _ p0.1 in
    let p2 = or_else_passes (operand_fault t n (operand_b (node_kind t n)) (node_b t n) (item_place t nodes n 2)) _ p1.1 in
    record {
      kind_ok = require_passes _ _ _ p0.0;
      a_ok = p1.0;
      b_ok = p2.0;
      fit = require_passes (types_fit t (node_kind t n) (node_a t n) (node_b t n)) _ _ p2.1;
    }

same_sort_true : (s r : Sort) → same_sort s r ≡ true → s ≡ r
same_sort_true place place e = refl
same_sort_true place value e = absurd (mathlib.Core.Bool.false≢true e)
same_sort_true place neither e = absurd (mathlib.Core.Bool.false≢true e)
same_sort_true value place e = absurd (mathlib.Core.Bool.false≢true e)
same_sort_true value value e = refl
same_sort_true value neither e = absurd (mathlib.Core.Bool.false≢true e)
same_sort_true neither place e = absurd (mathlib.Core.Bool.false≢true e)
same_sort_true neither value e = absurd (mathlib.Core.Bool.false≢true e)
same_sort_true neither neither e = refl

pub is_child_true : (t : Words) (s : Sort) (n x : ℕ) → is_child t s n x ≡ true → (x < n) × (s ≡ sort_of (node_kind t x))
unfolding is_child
is_child_true t s n x e =
    let p = and_true (ltb x n) (same_sort s (sort_of (node_kind t x))) e in
    (ltb-true x n p.0, same_sort_true s (sort_of (node_kind t x)) p.1)

-- ---- types

pub types_at : (t : Words) (n i : ℕ) → i < n → word (types_below t n) i ≡ node_type t i
unfolding types_below node_type
types_at t n i h = get_d_grow (type_rule t) 0 n i h

module _ {t : Words} (ok : TypesPassed t) (n : ℕ) (below : (i : ℕ) → i < n → known_type t (node_type t i) ≡ true) where
  child_known : (s : Sort) (x p : ℕ) → require (is_child t s n x) 7 p ≡ passes → known_type t (node_type t x) ≡ true
  child_known s x p e = below x (is_child_true t s n x (require_passes (is_child t s n x) 7 p e)).0

  child_type : (s : Sort) (x p : ℕ) → require (is_child t s n x) 7 p ≡ passes → word (types_below t n) x ≡ node_type t x
  child_type s x p e = types_at t n x (is_child_true t s n x (require_passes (is_child t s n x) 7 p e)).0

  known_by_kind : (k : Kind) (a b : ℕ) → NodeOk t n k a b → known_type t (type_by_kind t k a b (word (types_below t n))) ≡ true
  unfolding field_type
  known_by_kind variable a b g = variable_known ok a (ltb-true a _ (require_passes (ltb a (count t variables)) _ _ g.a_ok))
  known_by_kind deref a b g = rw (child_type value a _ g.a_ok) (deref_known ok _ (child_known value a _ g.a_ok) g.fit)
  known_by_kind field a b g =
      let f = and_true (points_to_record t (node_type t a)) _ g.fit in
      let r = record_known ok (node_type t a) (child_known value a _ g.a_ok) f.0 in
      rw (child_type value a _ g.a_ok) (field_ok ok _ (field_in ok _ b r (ltb-true b _ f.1))).known
  known_by_kind constant a b g = int_known t 0 (omega arith)
  known_by_kind sum a b g = rw (child_type value a _ g.a_ok) (child_known value a _ g.a_ok)
  known_by_kind read a b g = rw (child_type place a _ g.a_ok) (child_known place a _ g.a_ok)
  known_by_kind address a b g = rw (child_type place a _ g.a_ok) (entry_known t _ (ltb-true _ _ g.fit))
  known_by_kind cast a b g = require_passes (known_type t b) _ _ g.b_ok
  known_by_kind size a b g = int_known t 0 (omega arith)
  known_by_kind malloc a b g = int_known t 1 (omega arith)
  known_by_kind copy a b g = int_known t 0 (omega arith)
  known_by_kind unknown a b g = int_known t 0 (omega arith)

-- The nodes below n pass, and so their types are known.
pub types_known : {t : Words} → TypesPassed t → (n : ℕ) → ((i : ℕ) → i < n → node_fault t i ≡ passes) → (i : ℕ) → i < n → known_type t (node_type t i) ≡ true
unfolding node_type type_rule
types_known ok zero pass i less = absurd (not-suc-le-zero less)
types_known {t} ok (suc n) pass i less = go (ℕ_discrete i n) (types_known ok n (λ j l. pass j (omega arith)))
  where
    go : Dec (i ≡ n) → ((j : ℕ) → j < n → known_type t (node_type t j) ≡ true) → known_type t (node_type t i) ≡ true
    go (yes e) below = rw e (known_by_kind ok n below (node_kind t n) (node_a t n) (node_b t n) (node_ok t n (pass n (omega arith))))
    go (no e) below = below i (omega arith)

-- The record that a pointer points to has at least one word.
copied_some : {t : Words} → TypesPassed t → (ty : ℕ) → known_type t ty ≡ true → points_to_record t ty ≡ true → 0 < size_of t (target t ty)
copied_some {t} ok ty known points =
    rw (target_record t ty points) (size_some ok (pointed_record t ty) (record_known ok ty known points))

-- ---- trees

-- A tree of this sort that the rules can work on.
pub data TreeOk (vars : ℕ) : Sort → Tree → Type 0 where
  place_tree : {p : Place} → PlaceOk vars p → TreeOk vars place (Syntax.place p)
  value_tree : {v : Value} → ValueOk vars v → TreeOk vars value (Syntax.value v)

as_place_ok : {vars : ℕ} {tr : Tree} → TreeOk vars place tr → PlaceOk vars (as_place tr)
as_place_ok (place_tree h) = h

as_value_ok : {vars : ℕ} {tr : Tree} → TreeOk vars value tr → ValueOk vars (as_value tr)
as_value_ok (value_tree h) = h

pub trees_at : (t : Words) (n i : ℕ) → i < n → get_or (trees_below t n) i senseless ≡ tree_of t i
unfolding trees_below tree_of
trees_at t n i h = get_d_grow (tree_rule t) senseless n i h

module _ {t : Words} (ok : Passed t) (n : ℕ) (inside : n < count t nodes)
    (below : (i : ℕ) → i < n → TreeOk (count t variables) (sort_of (node_kind t i)) (tree_of t i)) where
  child_tree : (s : Sort) (x p : ℕ) → require (is_child t s n x) 7 p ≡ passes → TreeOk (count t variables) s (get_or (trees_below t n) x senseless)
  child_tree s x p e =
      let c = is_child_true t s n x (require_passes (is_child t s n x) 7 p e) in
      rw (trees_at t n x c.0, c.1) (below x c.0)

  child_value : (x p : ℕ) → require (is_child t value n x) 7 p ≡ passes → ValueOk (count t variables) (as_value (get_or (trees_below t n) x senseless))
  child_value x p e = as_value_ok (child_tree value x p e)

  child_place : (x p : ℕ) → require (is_child t place n x) 7 p ≡ passes → PlaceOk (count t variables) (as_place (get_or (trees_below t n) x senseless))
  child_place x p e = as_place_ok (child_tree place x p e)

  tree_by_kind_ok : (k : Kind) (a b : ℕ) → NodeOk t n k a b → TreeOk (count t variables) (sort_of k) (tree_by_kind t n k a b (λ x. get_or (trees_below t n) x senseless))
  unfolding field_count
  tree_by_kind_ok variable a b g = place_tree (variable_ok (ltb-true a _ (require_passes (ltb a (count t variables)) _ _ g.a_ok)))
  tree_by_kind_ok deref a b g = place_tree (deref_ok (child_value a _ g.a_ok))
  tree_by_kind_ok field a b g =
      let c = is_child_true t value n a (require_passes (is_child t value n a) 7 _ g.a_ok) in
      let f = and_true (points_to_record t (node_type t a)) _ g.fit in
      let r = record_known ok.types (node_type t a) (types_known ok.types n (λ i less. ok.node_passes i (omega arith)) a c.0) f.0 in
      place_tree (field_place_ok (field_ok ok.types _ (field_in ok.types _ b r (ltb-true b _ f.1))).some (child_value a _ g.a_ok))
  tree_by_kind_ok constant a b g = value_tree number_ok
  tree_by_kind_ok sum a b g = value_tree (sum_ok (child_value a _ g.a_ok) (child_value b _ g.b_ok))
  tree_by_kind_ok read a b g = value_tree (read_ok (child_place a _ g.a_ok))
  tree_by_kind_ok address a b g = value_tree (address_ok (child_place a _ g.a_ok))
  tree_by_kind_ok cast a b g = value_tree (cast_ok (child_value a _ g.a_ok))
  tree_by_kind_ok size a b g = value_tree number_ok
  tree_by_kind_ok malloc a b g = value_tree (malloc_ok (child_value a _ g.a_ok))
  tree_by_kind_ok copy a b g =
      let c = is_child_true t value n a (require_passes (is_child t value n a) 7 _ g.a_ok) in
      let f = and_true (points_to_record t (node_type t a)) _ g.fit in
      let known = types_known ok.types n (λ i less. ok.node_passes i (omega arith)) a c.0 in
      value_tree (copy_ok (copied_some ok.types (node_type t a) known f.0) (child_value a _ g.a_ok) (child_value b _ g.b_ok))
  tree_by_kind_ok unknown a b g = absurd (mathlib.Core.Bool.false≢true g.kind_ok)

pub trees_ok : {t : Words} → Passed t → (n : ℕ) → n ≤ count t nodes → (i : ℕ) → i < n → TreeOk (count t variables) (sort_of (node_kind t i)) (tree_of t i)
unfolding tree_of tree_rule
trees_ok ok zero h i less = absurd (not-suc-le-zero less)
trees_ok {t} ok (suc n) h i less = go (ℕ_discrete i n) (trees_ok ok n (omega arith))
  where
    go : Dec (i ≡ n) → ((j : ℕ) → j < n → TreeOk (count t variables) (sort_of (node_kind t j)) (tree_of t j)) → TreeOk (count t variables) (sort_of (node_kind t i)) (tree_of t i)
    go (yes e) below = rw e (tree_by_kind_ok ok n h below (node_kind t n) (node_a t n) (node_b t n) (node_ok t n (ok.node_passes n h)))
    go (no e) below = below i (omega arith)

-- ---- a command's two nodes

pub record CommandOk (t : Words) (c : ℕ) : Type 0 where
  pub place_node : command_place t c < count t nodes
  pub value_node : command_value t c < count t nodes
  pub place_tree : PlaceOk (count t variables) (place_of t (command_place t c))
  pub value_tree : ValueOk (count t variables) (value_of t (command_value t c))
  pub value_sort : sort_of (node_kind t (command_value t c)) ≡ value
  pub same_type : node_type t (command_place t c) ≡ node_type t (command_value t c)

pub command_ok : {t : Words} → Passed t → (c : ℕ) → c < count t commands → CommandOk t c
unfolding command_fault place_of value_of
command_ok {t} ok c h =
    let p0 = or_else_passes (require (is_child t place (count t nodes) (command_place t c)) 7 _) _ (ok.command_passes c h) in
    let p1 = or_else_passes (require (is_child t value (count t nodes) (command_value t c)) 7 _) _ p0.1 in
    let l = is_child_true t place (count t nodes) (command_place t c) (require_passes _ 7 _ p0.0) in
    let r = is_child_true t value (count t nodes) (command_value t c) (require_passes _ 7 _ p1.0) in
    record {
      place_node = l.0;
      value_node = r.0;
      place_tree = as_place_ok {tr = tree_of t (command_place t c)} (rw l.1 (trees_ok ok (count t nodes) (omega arith) (command_place t c) l.0));
      value_tree = as_value_ok {tr = tree_of t (command_value t c)} (rw r.1 (trees_ok ok (count t nodes) (omega arith) (command_value t c) r.0));
      value_sort = sym r.1;
      same_type = eqb-true (node_type t (command_place t c)) (node_type t (command_value t c)) (require_passes (eqb (node_type t (command_place t c)) (node_type t (command_value t c))) 8 _ p1.1);
    }
