-- A node that makes sense: its kind, its children, and its tree.
use Prim.Native.Nat.{ℕ, zero, suc, ◌≤◌, ◌<◌}
use mathlib.Core.Bool.{Bool, true}
use mathlib.Core.Path.{◌≡◌, refl, ap, ap₂, ◌∙◌}
use native.Mathlib.Omega.{arith}
use native.Mathlib.Decide.{dec_lt}
use borrow.Author.Tests.{eqb-true}
use lib.ListN.{get_or, get_or-eq_default}
use Rattle.semantics.specs.Words.{Words, grow}
use Rattle.semantics.specs.Table.{edition, nodes, item, count, target, points_to_record, pointed_record, field_offset, field_count, size_of, Kind, variable, deref, field, constant, sum, read, address, cast, size, malloc, copy, unknown, kind_of, Sort, sort_of, node_kind, node_a, node_b, node_type}
use Rattle.semantics.specs.Table as Table
use Rattle.semantics.specs.Syntax.{Place, Variable, Deref, Field, Value, Number, Sum, Read, Address, Cast, Malloc, Copy, Tree, senseless, as_place, as_value, step_of, moves_bounds, keeps_bounds, either_bounds, tree_by_kind, tree_rule, trees_below, tree_of, place_of, value_of}
use Rattle.semantics.proofs.Tests.{and_true}
use Rattle.semantics.proofs.Passed.{Passed}
use Rattle.semantics.proofs.Lists.{length_grow}
use Rattle.semantics.proofs.Trees.{NodeOk, node_ok, trees_at}
use Rattle.semantics.proofs.Steps.{PlaceOk, variable_ok, deref_ok, field_ok, ValueOk, sum_ok, read_ok, address_ok, cast_ok, malloc_ok, copy_ok}

-- ---- kinds

abbrev Range : Sort → ℕ → Type 0
Range Table.place k = (1 ≤ k) × (k ≤ 3)
Range Table.value k = (4 ≤ k) × (k ≤ 11)
Range Table.neither k = Unit {0}

kind_range : (k : ℕ) → Range (sort_of (kind_of k)) k
unfolding kind_of
kind_range zero = tt
kind_range (suc zero) = omega arith
kind_range (suc (suc zero)) = omega arith
kind_range (suc (suc (suc zero))) = omega arith
kind_range (suc (suc (suc (suc zero)))) = omega arith
kind_range (suc (suc (suc (suc (suc zero))))) = omega arith
kind_range (suc (suc (suc (suc (suc (suc zero)))))) = omega arith
kind_range (suc (suc (suc (suc (suc (suc (suc zero))))))) = omega arith
kind_range (suc (suc (suc (suc (suc (suc (suc (suc zero)))))))) = omega arith
kind_range (suc (suc (suc (suc (suc (suc (suc (suc (suc zero))))))))) = omega arith
kind_range (suc (suc (suc (suc (suc (suc (suc (suc (suc (suc zero)))))))))) = omega arith
kind_range (suc (suc (suc (suc (suc (suc (suc (suc (suc (suc (suc zero))))))))))) = omega arith
kind_range (suc (suc (suc (suc (suc (suc (suc (suc (suc (suc (suc (suc n)))))))))))) = tt

-- A tree that is a place comes of a place's kind, one that is a value of a value's.
module _ {vars : ℕ} (t : Words) (n a b : ℕ) (tree : ℕ → Tree) where
  place_sort : (k : Kind) → PlaceOk vars (as_place (tree_by_kind t n k a b tree)) → sort_of k ≡ Table.place
  place_sort variable h = refl
  place_sort deref h = refl
  place_sort field h = refl
  place_sort constant h = elim h [ ]
  place_sort sum h = elim h [ ]
  place_sort read h = elim h [ ]
  place_sort address h = elim h [ ]
  place_sort cast h = elim h [ ]
  place_sort size h = elim h [ ]
  place_sort malloc h = elim h [ ]
  place_sort copy h = elim h [ ]
  place_sort unknown h = elim h [ ]

  value_sort : (k : Kind) → ValueOk vars (as_value (tree_by_kind t n k a b tree)) → sort_of k ≡ Table.value
  value_sort variable h = elim h [ ]
  value_sort deref h = elim h [ ]
  value_sort field h = elim h [ ]
  value_sort constant h = refl
  value_sort sum h = refl
  value_sort read h = refl
  value_sort address h = refl
  value_sort cast h = refl
  value_sort size h = refl
  value_sort malloc h = refl
  value_sort copy h = refl
  value_sort unknown h = elim h [ ]

pub place_kind : {vars : ℕ} (t : Words) (n : ℕ) → PlaceOk vars (place_of t n) → (1 ≤ item t nodes n 0) × (item t nodes n 0 ≤ 3)
unfolding place_of tree_of tree_rule node_kind
place_kind t n h = rw (place_sort t n _ _ (λ x. get_or (trees_below t n) x senseless) (kind_of (item t nodes n 0)) h) at (kind_range (item t nodes n 0))

pub value_kind : {vars : ℕ} (t : Words) (n : ℕ) → ValueOk vars (value_of t n) → (4 ≤ item t nodes n 0) × (item t nodes n 0 ≤ 11)
unfolding value_of tree_of tree_rule node_kind
value_kind t n h = rw (value_sort t n _ _ (λ x. get_or (trees_below t n) x senseless) (kind_of (item t nodes n 0)) h) at (kind_range (item t nodes n 0))

pub place_node : {vars : ℕ} (t : Words) (n : ℕ) → PlaceOk vars (place_of t n) → sort_of (node_kind t n) ≡ Table.place
unfolding place_of tree_of tree_rule
place_node t n h = place_sort t n _ _ (λ x. get_or (trees_below t n) x senseless) (node_kind t n) h

pub value_node : {vars : ℕ} (t : Words) (n : ℕ) → ValueOk vars (value_of t n) → sort_of (node_kind t n) ≡ Table.value
unfolding value_of tree_of tree_rule
value_node t n h = value_sort t n _ _ (λ x. get_or (trees_below t n) x senseless) (node_kind t n) h

-- A kind by its number.
pub kind_number : (t : Words) (n : ℕ) {x : ℕ} → item t nodes n 0 ≡ x → node_kind t n ≡ kind_of x
unfolding node_kind
kind_number t n e = ap kind_of e

-- ---- children

no_tree : (t : Words) (n x : ℕ) → n ≤ x → get_or (trees_below t n) x senseless ≡ senseless
unfolding trees_below
no_tree t n x h = get_or-eq_default (grow (tree_rule t) n) senseless (omega (arith, length_grow (tree_rule t) n))

-- A child of node n: a node before it, whose tree, read as a value or as a place, makes sense.
pub record Child {A : Type 0} (reads : Tree → A) (of : Words → ℕ → A) (Ok : A → Type 0) (t : Words) (n x : ℕ) : Type 0 where
  pub less : x < n
  pub tree : Ok (of t x)
  pub same : reads (get_or (trees_below t n) x senseless) ≡ of t x

module _ {A : Type 0} (reads : Tree → A) (of : Words → ℕ → A) (Ok : A → Type 0) (read_so : (t : Words) (x : ℕ) → reads (tree_of t x) ≡ of t x) (none : Ok (reads senseless) → ⊥) where
  child : (t : Words) (n x : ℕ) → Ok (reads (get_or (trees_below t n) x senseless)) → Child reads of Ok t n x
  child t n x h = go (dec_lt x n)
    where
      go : Dec (x < n) → Child reads of Ok t n x
      go (yes l) = let e = ap reads (trees_at t n x l) ∙ read_so t x in record { less = l; tree = rw e at h; same = e }
      go (no l) = absurd (none (rw (no_tree t n x (omega (arith, l))) at h))

  -- A tree that is F of its child: where it makes sense, so does the child.
  with_child : {B : Type 0} (Whole : B → Type 0) (F : A → B) (t : Words) (n x : ℕ) {b : B} → b ≡ F (reads (get_or (trees_below t n) x senseless))
      → ((v : A) → Whole (F v) → Ok v) → Whole b → Child reads of Ok t n x × (b ≡ F (of t x))
  with_child Whole F t n x e inner h = let ch = child t n x (inner _ (rw e at h)) in (ch, e ∙ ap F ch.same)

abbrev pub ValueChild : ℕ → Words → ℕ → ℕ → Type 0
ValueChild vars = Child as_value value_of (ValueOk vars)

abbrev pub PlaceChild : ℕ → Words → ℕ → ℕ → Type 0
PlaceChild vars = Child as_place place_of (PlaceOk vars)

-- ---- nodes by kind: the tree, and the children

no_value : {vars : ℕ} → ValueOk vars (as_value senseless) → ⊥
no_value h = elim h [ ]

no_place : {vars : ℕ} → PlaceOk vars (as_place senseless) → ⊥
no_place h = elim h [ ]

value_read : (t : Words) (x : ℕ) → as_value (tree_of t x) ≡ value_of t x
unfolding value_of
value_read t x = refl

place_read : (t : Words) (x : ℕ) → as_place (tree_of t x) ≡ place_of t x
unfolding place_of
place_read t x = refl

pub constant_node : (t : Words) (n : ℕ) → node_kind t n ≡ constant → value_of t n ≡ Number n (node_a t n)
unfolding value_of tree_of tree_rule
constant_node t n k = rw k

pub size_node : (t : Words) (n : ℕ) → node_kind t n ≡ size → value_of t n ≡ Number n (size_of t (node_a t n))
unfolding value_of tree_of tree_rule
size_node t n k = rw k

-- A field's offset and its words, a sum's step, a copy's words, whether a read has bounds, and whether a cast keeps them.
abbrev pub offset_of : Words → ℕ → ℕ
offset_of t n = field_offset t (pointed_record t (node_type t (node_a t n))) (node_b t n)

abbrev pub count_of : Words → ℕ → ℕ
count_of t n = field_count t (pointed_record t (node_type t (node_a t n))) (node_b t n)

abbrev pub moves_by : Words → ℕ → ℕ
moves_by t n = step_of t (node_type t (node_a t n))

abbrev pub copies_words : Words → ℕ → ℕ
copies_words t n = size_of t (target t (node_type t (node_a t n)))

abbrev pub read_bounds : Words → ℕ → Bool
read_bounds t n = moves_bounds (edition t) (node_type t n)

abbrev pub cast_keeps : Words → ℕ → Bool
cast_keeps t n = keeps_bounds (edition t) (node_type t (node_a t n)) (node_b t n)

abbrev pub sum_either : Words → Bool
sum_either t = either_bounds (edition t)

module _ {vars : ℕ} (t : Words) (n : ℕ) where
  pub variable_node : node_kind t n ≡ variable → PlaceOk vars (place_of t n) → (node_a t n < vars) × (place_of t n ≡ Variable n (node_a t n))
  unfolding place_of tree_of tree_rule
  variable_node k h = let e : place_of t n ≡ Variable n (node_a t n) = rw k in (number (rw e at h), e)
    where
      number : {i : ℕ} → PlaceOk vars (Variable n i) → i < vars
      number (variable_ok l) = l

  pub deref_node : node_kind t n ≡ deref → PlaceOk vars (place_of t n) → ValueChild vars t n (node_a t n) × (place_of t n ≡ Deref n (value_of t (node_a t n)))
  unfolding place_of tree_of tree_rule
  deref_node k h = with_child as_value value_of (ValueOk vars) value_read no_value (PlaceOk vars) (Deref n) t n (node_a t n) (rw k) inner h
    where
      inner : (v : Value) → PlaceOk vars (Deref n v) → ValueOk vars v
      inner v (deref_ok ok) = ok

  pub field_node : node_kind t n ≡ field → PlaceOk vars (place_of t n)
      → ValueChild vars t n (node_a t n) × (place_of t n ≡ Field n (offset_of t n) (count_of t n) (value_of t (node_a t n)))
  unfolding place_of tree_of tree_rule
  field_node k h = with_child as_value value_of (ValueOk vars) value_read no_value (PlaceOk vars) (Field n (offset_of t n) (count_of t n)) t n (node_a t n) (rw k) inner h
    where
      inner : (v : Value) → PlaceOk vars (Field n (offset_of t n) (count_of t n) v) → ValueOk vars v
      inner v (field_ok some ok) = ok

  -- A tree that is F of two values: where it makes sense, so do both.
  with_both : (F : Value → Value → Value) {b : Value} → b ≡ F (as_value (get_or (trees_below t n) (node_a t n) senseless)) (as_value (get_or (trees_below t n) (node_b t n) senseless))
      → ((v w : Value) → ValueOk vars (F v w) → ValueOk vars v × ValueOk vars w) → ValueOk vars b
      → ValueChild vars t n (node_a t n) × ValueChild vars t n (node_b t n) × (b ≡ F (value_of t (node_a t n)) (value_of t (node_b t n)))
  with_both F e inner h =
      let both = inner _ _ (rw e at h) in
      let l = child as_value value_of (ValueOk vars) value_read no_value t n (node_a t n) both.0 in
      let r = child as_value value_of (ValueOk vars) value_read no_value t n (node_b t n) both.1 in
      (l, r, e ∙ ap₂ F l.same r.same)

  sum_node : node_kind t n ≡ sum → ValueOk vars (value_of t n)
      → ValueChild vars t n (node_a t n) × ValueChild vars t n (node_b t n)
      × (value_of t n ≡ Sum n (sum_either t) (moves_by t n) (value_of t (node_a t n)) (value_of t (node_b t n)))
  unfolding value_of tree_of tree_rule
  sum_node k h = with_both (Sum n (sum_either t) (moves_by t n)) (rw k) inner h
    where
      inner : (v w : Value) → ValueOk vars (Sum n (sum_either t) (moves_by t n) v w) → ValueOk vars v × ValueOk vars w
      inner v w (sum_ok a b) = (a, b)

  copy_node : node_kind t n ≡ copy → ValueOk vars (value_of t n)
      → ValueChild vars t n (node_a t n) × ValueChild vars t n (node_b t n)
      × (value_of t n ≡ Copy n (copies_words t n) (value_of t (node_a t n)) (value_of t (node_b t n)))
  unfolding value_of tree_of tree_rule
  copy_node k h = with_both (Copy n (copies_words t n)) (rw k) inner h
    where
      inner : (v w : Value) → ValueOk vars (Copy n (copies_words t n) v w) → ValueOk vars v × ValueOk vars w
      inner v w (copy_ok some a b) = (a, b)

  pub read_node : node_kind t n ≡ read → ValueOk vars (value_of t n)
      → PlaceChild vars t n (node_a t n) × (value_of t n ≡ Read n (read_bounds t n) (place_of t (node_a t n)))
  unfolding value_of tree_of tree_rule
  read_node k h = with_child as_place place_of (PlaceOk vars) place_read no_place (ValueOk vars) (Read n (read_bounds t n)) t n (node_a t n) (rw k) inner h
    where
      inner : (p : Place) → ValueOk vars (Read n (read_bounds t n) p) → PlaceOk vars p
      inner p (read_ok ok) = ok

  pub address_node : node_kind t n ≡ address → ValueOk vars (value_of t n) → PlaceChild vars t n (node_a t n) × (value_of t n ≡ Address n (place_of t (node_a t n)))
  unfolding value_of tree_of tree_rule
  address_node k h = with_child as_place place_of (PlaceOk vars) place_read no_place (ValueOk vars) (Address n) t n (node_a t n) (rw k) inner h
    where
      inner : (p : Place) → ValueOk vars (Address n p) → PlaceOk vars p
      inner p (address_ok ok) = ok

  pub cast_node : node_kind t n ≡ cast → ValueOk vars (value_of t n)
      → ValueChild vars t n (node_a t n) × (value_of t n ≡ Cast n (cast_keeps t n) (value_of t (node_a t n)))
  unfolding value_of tree_of tree_rule
  cast_node k h = with_child as_value value_of (ValueOk vars) value_read no_value (ValueOk vars) (Cast n (cast_keeps t n)) t n (node_a t n) (rw k) inner h
    where
      inner : (v : Value) → ValueOk vars (Cast n (cast_keeps t n) v) → ValueOk vars v
      inner v (cast_ok ok) = ok

  pub malloc_node : node_kind t n ≡ malloc → ValueOk vars (value_of t n) → ValueChild vars t n (node_a t n) × (value_of t n ≡ Malloc n (value_of t (node_a t n)))
  unfolding value_of tree_of tree_rule
  malloc_node k h = with_child as_value value_of (ValueOk vars) value_read no_value (ValueOk vars) (Malloc n) t n (node_a t n) (rw k) inner h
    where
      inner : (v : Value) → ValueOk vars (Malloc n v) → ValueOk vars v
      inner v (malloc_ok ok) = ok

-- ---- sums and copies: two values, a before b

-- The kinds of these nodes.
pub data Binary : ℕ → Type 0 where
  sums : Binary 5
  copies : Binary 11

-- The tree of node n, from those of both values. The number is the words by which 1 moves the left one: those of the record, for a copy.
abbrev pub operation : {x : ℕ} → Binary x → (t : Words) (n words : ℕ) → Value → Value → Value
operation sums t n words = Sum n (sum_either t) words
operation copies t n words = Copy n words

pub record Operands (vars : ℕ) (t : Words) (n : ℕ) {x : ℕ} (b : Binary x) : Type 0 where
  pub left : ValueChild vars t n (node_a t n)
  pub right : ValueChild vars t n (node_b t n)
  pub tree : value_of t n ≡ operation b t n (moves_by t n) (value_of t (node_a t n)) (value_of t (node_b t n))

-- A copy's left operand points to a record.
pub copy_points : (t : Words) (n : ℕ) → Passed t → n < count t nodes → node_kind t n ≡ copy → points_to_record t (node_type t (node_a t n)) ≡ true
copy_points t n passed node k =
    let g : NodeOk t n copy (node_a t n) (node_b t n) = rw k at (node_ok t n (passed.node_passes n node)) in
    (and_true (points_to_record t (node_type t (node_a t n))) _ g.fit).0

copies_step : (t : Words) (n : ℕ) → Passed t → n < count t nodes → node_kind t n ≡ copy → copies_words t n ≡ moves_by t n
unfolding step_of
copies_step t n passed node k = rw (copy_points t n passed node k)

pub binary_node : {vars x : ℕ} (b : Binary x) (t : Words) (n : ℕ) → Passed t → n < count t nodes → node_kind t n ≡ kind_of x → ValueOk vars (value_of t n) → Operands vars t n b
unfolding kind_of
binary_node sums t n passed node k h = let nd = sum_node t n k h in record { left = nd.0; right = nd.1; tree = nd.2 }
binary_node copies t n passed node k h =
    let nd = copy_node t n k h in
    record { left = nd.0; right = nd.1; tree = rw (← (copies_step t n passed node k)) nd.2 }

-- A sum's right operand is an int.
pub sum_adds_int : (t : Words) (n : ℕ) → Passed t → n < count t nodes → node_kind t n ≡ sum → node_type t (node_b t n) ≡ 0
sum_adds_int t n passed node k =
    let g : NodeOk t n sum (node_a t n) (node_b t n) = rw k at (node_ok t n (passed.node_passes n node)) in
    eqb-true (node_type t (node_b t n)) 0 g.fit

-- A copy has at least one word.
pub copy_some : {vars : ℕ} (t : Words) (n : ℕ) → Passed t → n < count t nodes → node_kind t n ≡ copy → ValueOk vars (value_of t n) → 1 ≤ moves_by t n
copy_some {vars} t n passed node k h = rw (← (copies_step t n passed node k)) (some (rw (copy_node t n k h).2 at h))
  where
    some : {words : ℕ} {v w : Value} → ValueOk vars (Copy n words v w) → 1 ≤ words
    some (copy_ok more a b) = more
