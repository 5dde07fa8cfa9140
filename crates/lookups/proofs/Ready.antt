-- What a call for a node requires: a child of a node that is ready is ready, and smaller.
use Prim.Native.Nat.{ℕ, ◌+◌, ◌*◌, ◌%◌, ◌≤◌, ◌<◌}
use mathlib.Core.Bool.{true}
use mathlib.Core.Path.{◌≡◌, refl, sym, ◌∙◌}
use native.Mathlib.Omega.{arith}
use native.Mathlib.Nat.{le_antisymm}
use native.Mathlib.Decide.{ℕ_discrete}
use lib.ListN.{length}
use Rattle.semantics.specs.Words.{Words, word}
use Rattle.semantics.specs.Table.{nodes, count, known_type, known_target, points_to_record, constant, read, size, kind_of, type_rule, node_kind, node_a, node_b, node_type}
use Rattle.semantics.specs.Syntax.{Value, Field, step_of}
use Rattle.semantics.proofs.Tests.{past}
use Rattle.semantics.proofs.Passed.{require_passes}
use Rattle.semantics.proofs.Trees.{NodeOk, node_ok, types_at}
use Rattle.semantics.proofs.Steps.{PlaceOk, field_ok}
use Rattle.lookups.specs.declared.Lists.{Lists}
use Rattle.lookups.specs.Lists.{part, ListsOf, FieldNode, FieldReady, KnownWord, KnownReady}
use Rattle.lookups.specs.Nodes.{NodeReady, PlaceTree, ValueTree}
use Rattle.lookups.proofs.Lookups.{item_inside, note_inside, item_is, noted_type}
use Rattle.lookups.proofs.Nodes.{place_kind, value_kind, kind_number, count_of, ValueChild, PlaceChild, deref_node, field_node, read_node, address_node, cast_node, malloc_node, Binary, copies, binary_node, copy_points, copy_some}

-- ---- a node's words, as the lists have them

module _ {t : Words} {l : Lists} (lists : ListsOf t l) {n : ℕ} (node : n < count t nodes) where
  pub kind_is : {k x : ℕ} → k ≡ part l n 0 → k ≡ x → node_kind t n ≡ kind_of x
  kind_is e q = kind_number t n (sym (item_is lists node 0 (omega arith) e) ∙ q)

  pub a_is : {a : ℕ} → a ≡ part l n 1 → a ≡ node_a t n
  a_is p = item_is lists node 1 (omega arith) p

  pub b_is : {a : ℕ} → a ≡ part l n 2 → a ≡ node_b t n
  b_is p = item_is lists node 2 (omega arith) p

pub constant_kind : {t : Words} {l : Lists} {n k : ℕ} → ListsOf t l → n < count t nodes → k ≡ part l n 0 → k ≡ 4 → node_kind t n ≡ constant
unfolding kind_of
constant_kind lists node e q = kind_is lists node e q

-- A size's target is known.
pub size_known : (t : Words) (n : ℕ) {l : Lists} → node_kind t n ≡ size → ListsOf t l → n < count t nodes → known_target t (node_a t n) ≡ true
size_known t n i lists node =
    let g : NodeOk t n size (node_a t n) (node_b t n) = rw i at (node_ok t n (lists.passed.node_passes n node)) in
    require_passes (known_target t (node_a t n)) _ _ g.a_ok

-- A constant is an int, which points to no record.
constant_int : (t : Words) (n : ℕ) → node_kind t n ≡ constant → node_type t n ≡ 0
unfolding node_type type_rule
constant_int t n k = rw k

int_no_record : (t : Words) → points_to_record t 0 ≡ true → ⊥
unfolding points_to_record
int_no_record t e = mathlib.Core.Bool.false≢true e

-- A read has the type of its place.
pub read_type : (t : Words) (n : ℕ) → node_kind t n ≡ read → node_a t n < n → node_type t n ≡ node_type t (node_a t n)
unfolding node_type type_rule
read_type t n k less = rw k (types_at t n (node_a t n) less)

-- ---- what a call requires: a child of a node that is ready is ready, and smaller

-- The measure is the node number.
pub falls_to : {a n t : ℕ} {R : Type 0} → n ≡ t → (a < n) × R → (a < t) × R
falls_to e h = (omega (arith, h.0), h.1)

module _ {S : Type 0} {vars_of : S → ℕ} {Room : Type 0} {Tree : ℕ → Words → Type 0} {l : Lists} {n : ℕ} (h : NodeReady vars_of Room Tree l n) where
  pub item_at : (j : ℕ) → j < 3 → (n < 512) × (j < 3) × (n * 3 + j < length l.nodes.now)
  item_at j less = item_inside h.lists h.node j less

  pub note_at : (n < 512) × (n < length l.notes.now)
  note_at = note_inside h.lists h.node

  -- A node before it has words and a note too.
  pub item_of : {a : ℕ} {R : Type 0} → (a < n) × R → (j : ℕ) → j < 3 → (a < 512) × (j < 3) × (a * 3 + j < length l.nodes.now)
  item_of less j h₃ = item_inside h.lists (omega (arith, less.0, h.node)) j h₃

  pub note_of : {a : ℕ} {R : Type 0} → (a < n) × R → (a < 512) × (a < length l.notes.now)
  note_of less = note_inside h.lists (omega (arith, less.0, h.node))

  value_ready : {x a : ℕ} → ValueChild (vars_of h.state) h.table n x → a ≡ x → (a < n) × NodeReady vars_of Room (ValueTree a) l a
  value_ready ch e =
      (rw e ch.less, record { table = h.table; lists = h.lists; node = omega (arith, ch.less, h.node); room = h.room; state = h.state; tree = rw e ch.tree })

  place_ready : {x a : ℕ} → PlaceChild (vars_of h.state) h.table n x → a ≡ x → (a < n) × NodeReady vars_of Room (PlaceTree a) l a
  place_ready ch e =
      (rw e ch.less, record { table = h.table; lists = h.lists; node = omega (arith, ch.less, h.node); room = h.room; state = h.state; tree = rw e ch.tree })

module _ {S : Type 0} {vars_of : S → ℕ} {Room : Type 0} {l : Lists} {n : ℕ} (h : NodeReady vars_of Room (PlaceTree n) l n) {k : ℕ} (e : k ≡ part l n 0) where
  pub deref_ready : {a : ℕ} → k ≡ 2 → a ≡ part l n 1 → (a < n) × NodeReady vars_of Room (ValueTree a) l a
  unfolding kind_of
  deref_ready q p = value_ready h (deref_node h.table n (kind_is h.lists h.node e q) h.tree).0 (a_is h.lists h.node p)

  -- A place of no other kind is a field.
  pub is_field : (k ≡ 1 → ⊥) → (k ≡ 2 → ⊥) → k ≡ 3
  is_field q r = omega (arith, place_kind h.table n h.tree, item_is h.lists h.node 0 (omega arith) e, q, r)

  pub field_child : {a : ℕ} → k ≡ 3 → a ≡ part l n 1 → (a < n) × NodeReady vars_of Room (ValueTree a) l a
  unfolding kind_of
  field_child q p = value_ready h (field_node h.table n (kind_is h.lists h.node e q) h.tree).0 (a_is h.lists h.node p)

  pub field_ready : k ≡ 3 → FieldReady l n
  unfolding kind_of
  field_ready q = record { table = h.table; is_field = record { lists = h.lists; node = h.node; kind = kind_is h.lists h.node e q } }

  -- A field has at least one word.
  pub field_asks : {z : ℕ} → k ≡ 3 → ((t : Words) → FieldNode t l n → z ≡ count_of t n) → 1 ≤ z
  unfolding kind_of field_ready
  field_asks q hz =
      let nd = field_node h.table n (kind_is h.lists h.node e q) h.tree in
      rw (hz h.table (field_ready q).is_field) (some (rw nd.1 at h.tree))
    where
      some : {vars o words : ℕ} {v : Value} → PlaceOk vars (Field n o words v) → 1 ≤ words
      some (field_ok less v) = less

module _ {S : Type 0} {vars_of : S → ℕ} {Room : Type 0} {l : Lists} {n : ℕ} (h : NodeReady vars_of Room (ValueTree n) l n) {k : ℕ} (e : k ≡ part l n 0) where
  is : {x : ℕ} → k ≡ x → node_kind h.table n ≡ kind_of x
  is q = kind_is h.lists h.node e q

  pub size_ready : k ≡ 9 → ((n < 512) × (n * 3 + 1 < length l.nodes.now) × Room) × KnownReady known_target l (part l n 1)
  unfolding kind_of
  size_ready q =
      let t = h.table in
      let i = item_at h 1 (omega arith) in
      ((i.0, i.2, h.room), record { table = t; is_known = record { lists = h.lists; known = rw (h.lists.node_is n 1 h.node (omega arith)) (size_known t n (is q) h.lists h.node) } })

  -- A value of no other kind is a malloc or a copy.
  pub last_kinds : (k ≡ 4 → ⊥) → (k ≡ 5 → ⊥) → (k ≡ 6 → ⊥) → (k ≡ 7 → ⊥) → (k ≡ 8 → ⊥) → (k ≡ 9 → ⊥) → (10 ≤ k) × (k ≤ 11)
  last_kinds n₄ n₅ n₆ n₇ n₈ n₉ =
      let range = value_kind h.table n h.tree in
      let e' = item_is h.lists h.node 0 (omega arith) e in
      (past (past (past (past (past (past (rw e' range.0) n₄) n₅) n₆) n₇) n₈) n₉, rw e' range.1)

  -- The kind is read again: what is no malloc is a copy.
  pub is_copy : {k' : ℕ} → (10 ≤ k) × (k ≤ 11) → k' ≡ part l n 0 → (k' ≡ 10 → ⊥) → k ≡ 11
  is_copy last e' other = le_antisymm last.1 (past last.0 (λ q. other (e' ∙ sym e ∙ q)))

  module _ {a : ℕ} (p : a ≡ part l n 1) where
    p' : a ≡ node_a h.table n
    p' = a_is h.lists h.node p

    -- The left operand of a sum or a copy, and the words that go by its type.
    pub left_ready : {x : ℕ} → Binary x → k ≡ x → (a < n) × NodeReady vars_of Room (ValueTree a) l a
    left_ready b q = value_ready h (binary_node b h.table n h.lists.passed h.node (is q) h.tree).left p'

    pub step_ready : {x y : ℕ} → Binary x → k ≡ x → y ≡ word l.notes.now a % 128 → KnownReady known_type l y
    step_ready b q e = record { table = h.table; is_known = (noted_type h.lists (omega (arith, (left_ready b q).0, h.node)) e).1 }

    pub copy_asks : {y z : ℕ} → k ≡ 11 → y ≡ word l.notes.now a % 128 → ((t : Words) → KnownWord known_type t l y → z ≡ step_of t y) → 1 ≤ z
    unfolding kind_of
    copy_asks q hy hz =
        let noted = noted_type h.lists (omega (arith, (left_ready copies q).0, h.node)) hy in
        rw (hz h.table noted.1, noted.0, p') (copy_some h.table n h.lists.passed h.node (is q) h.tree)

    pub read_ready : k ≡ 6 → (a < n) × NodeReady vars_of Room (PlaceTree a) l a
    unfolding kind_of
    read_ready q = place_ready h (read_node h.table n (is q) h.tree).0 p'

    pub address_ready : k ≡ 7 → (a < n) × NodeReady vars_of Room (PlaceTree a) l a
    unfolding kind_of
    address_ready q = place_ready h (address_node h.table n (is q) h.tree).0 p'

    pub cast_ready : k ≡ 8 → (a < n) × NodeReady vars_of Room (ValueTree a) l a
    unfolding kind_of
    cast_ready q = value_ready h (cast_node h.table n (is q) h.tree).0 p'

    pub malloc_ready : k ≡ 10 → (a < n) × NodeReady vars_of Room (ValueTree a) l a
    unfolding kind_of
    malloc_ready q = value_ready h (malloc_node h.table n (is q) h.tree).0 p'

    -- The first child of one of the last two kinds, and which of both it is.
    pub first_ready : (10 ≤ k) × (k ≤ 11) → (a < n) × NodeReady vars_of Room (ValueTree a) l a
    first_ready last = go (ℕ_discrete k 10)
      where
        go : Dec (k ≡ 10) → (a < n) × NodeReady vars_of Room (ValueTree a) l a
        go (yes q) = malloc_ready q
        go (no q) = left_ready copies (le_antisymm last.1 (past last.0 q))

    -- A malloc, if its first child is a constant: the left operand of a copy is a pointer.
    pub constant_malloc : (10 ≤ k) × (k ≤ 11) → ((t : Words) → ListsOf t l → a < count t nodes → node_kind t a ≡ constant) → k ≡ 10
    unfolding kind_of
    constant_malloc last four = go (ℕ_discrete k 10)
      where
        go : Dec (k ≡ 10) → k ≡ 10
        go (yes q) = q
        go (no q) =
            let t = h.table in
            let less = (first_ready last).0 in
            let int = constant_int t a (four t h.lists (omega (arith, less, h.node))) in
            absurd (int_no_record t (rw (← p', int) at (copy_points t n h.lists.passed h.node (is (le_antisymm last.1 (past last.0 q))))))

  pub drops_ready : k ≡ 8 → (n < 512) × (n * 3 + 2 < length l.nodes.now) × (part l n 1 < 512) × (part l n 1 < length l.notes.now)
  drops_ready q =
      let i = item_at h 2 (omega arith) in
      let c = note_of h (cast_ready refl q) in
      (i.0, i.2, c.0, c.1)
