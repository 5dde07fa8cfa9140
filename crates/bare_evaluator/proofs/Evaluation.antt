-- What a node answers without bounds, from what its children answered, and what a call for a child requires.
use Prim.Native.Nat.{ℕ, ◌+◌, ◌*◌, ◌%◌, ◌≤◌, ◌<◌}
use mathlib.Core.Path.{◌≡◌, refl, sym, ap, ◌∙◌}
use native.Mathlib.Omega.{arith}
use native.Mathlib.Nat.{one-mul}
use lib.ListN.{length}
use Rattle.semantics.specs.Words.{Words, word}
use Rattle.semantics.specs.Table.{nodes, count, known_type, known_target, size_of, constant, kind_of, variable, sort_of, node_kind, node_a, node_b, node_type}
use Rattle.semantics.specs.Table as Table
use Rattle.semantics.specs.Syntax.{value_of, step_of}
use Rattle.semantics.specs.Bare.{State, Outcome, bind, deref_step, field_step, read_step, sum_step, malloc_step, copy_step, place_at, value_at}
use Rattle.lookups.specs.declared.Lists.{Lists}
use Rattle.lookups.specs.Lists.{part, ListsOf, FieldNode, KnownWord}
use Rattle.lookups.specs.Nodes.{ReadsVariable}
use Rattle.lookups.proofs.Lookups.{noted_type}
use Rattle.lookups.proofs.Nodes.{place_node, value_node, offset_of, moves_by, constant_node, size_node, variable_node, deref_node, field_node, read_node, address_node, cast_node, malloc_node, Binary, sums, copies, Operands, binary_node}
use Rattle.lookups.proofs.Ready.{kind_is, a_is, b_is, size_known}
use Rattle.bare_steps.specs.Answers.{full, Answers, answers_ok, answers_full, answers_stuck, Finishes}
use Rattle.bare_steps.proofs.Steps.{passed_on, goes_on, word_read}
use Rattle.bare_evaluator.specs.Result.{Ready, PlaceReady, ValueReady, NodeAnswered, PlaceAnswered, ValueAnswered}

-- ---- what a call requires

-- The memory after a child is as long as before.
unfoldable pub ready_after : {s s' : State} → Ready s → length s'.values ≡ length s.values → Ready s'
ready_after h long = record { vars = h.vars; room = omega (arith, h.room); most = omega (arith, h.most) }

-- The right operand of a sum or a copy, after the left one.
pub right_ready : {l : Lists} {s s' : State} {n k a d v x : ℕ} (b : Binary x) (h : ValueReady l s n) → k ≡ part l n 0 → k ≡ x → d ≡ part l n 2
    → ValueAnswered l s a v s' → (d < n) × ValueReady l s' d
unfolding ready_after
right_ready {n = n} b h e q g answer =
    let nd = binary_node b h.table n h.lists.passed h.node (kind_is h.lists h.node e q) h.tree in
    let d' = b_is h.lists h.node g in
    (rw d' nd.right.less, record { table = h.table; lists = h.lists; node = omega (arith, nd.right.less, h.node, d'); room = tt; state = ready_after h.state answer.long; tree = rw d' nd.right.tree })

-- A variable that node n reads lies in the memory.
pub variable_inside : {l : Lists} {s : State} {n a i : ℕ} → ValueReady l s n → ReadsVariable l n → a ≡ part l n 1 → i ≡ part l a 1 → (1 + i < length s.values) × (length s.values ≤ 65536)
variable_inside {n = n} {a = a} h reads p g =
    let t = h.table in
    let k = reads.each t h.lists h.node (value_node t n h.tree) in
    let nd = read_node t n k.0 h.tree in
    let p' = a_is h.lists h.node p in
    let inside : a < count t nodes = omega (arith, nd.0.less, p', h.node) in
    let v = variable_node t a (rw p' k.1) (rw (← p') at nd.0.tree) in
    (omega (arith, v.0, a_is h.lists inside g, h.state.room), h.state.most)

-- Kind 1 is a variable's.
pub variable_kind : {l : Lists} {n k : ℕ} → k ≡ part l n 0 → k ≡ 1 → (t : Words) → ListsOf t l → n < count t nodes → sort_of (node_kind t n) ≡ Table.place → node_kind t n ≡ variable
unfolding kind_of
variable_kind e q t lists node sort = kind_is lists node e q

-- A variable that is a place is one of few.
pub variable_small : {l : Lists} {s : State} {n a : ℕ} → PlaceReady l s n → ((t : Words) → ListsOf t l → n < count t nodes → sort_of (node_kind t n) ≡ Table.place → node_kind t n ≡ variable) → a ≡ part l n 1 → a < 65536
variable_small {n = n} h q p =
    let t = h.table in
    let v = variable_node t n (q t h.lists h.node (place_node t n h.tree)) h.tree in
    omega (arith, v.0, a_is h.lists h.node p, h.state.room, h.state.most)

-- ---- a node that is a step from its child

module _ {TreeA Tree : ℕ → Words → Type 0} {child_outcome outcome : Words → State → Outcome ℕ} {l : Lists} {s s₁ : State} {n a v : ℕ} where
  from : {s₂ : State} {r : ℕ} (f : ℕ → State → Outcome ℕ)
      → ((t : Words) → ListsOf t l → n < count t nodes → (vars : ℕ) → Tree vars t → (a < n) × TreeA vars t × ((st : State) → outcome t st ≡ bind (child_outcome t st) f))
      → NodeAnswered TreeA child_outcome l s a v s₁ → Finishes f s₁ v s₂ r → NodeAnswered Tree outcome l s n r s₂
  from f made child finish =
      record {
        long = finish.long ∙ child.long;
        meets = λ t lists node vars room tree.
            let q = made t lists node vars tree in
            rw (q.2 _) (finish.meets (child.meets t lists (omega (arith, q.0)) vars room q.1));
      }

  -- The child's evaluation ended, whatever the step.
  from_ended : (f : Words → ℕ → State → Outcome ℕ)
      → ((t : Words) → ListsOf t l → n < count t nodes → (vars : ℕ) → Tree vars t → (a < n) × TreeA vars t × ((st : State) → outcome t st ≡ bind (child_outcome t st) (f t)))
      → NodeAnswered TreeA child_outcome l s a v s₁ → full ≤ v → NodeAnswered Tree outcome l s n v s₁
  from_ended f made child over =
      record {
        long = child.long;
        meets = λ t lists node vars room tree.
            let q = made t lists node vars tree in
            rw (q.2 _) ((passed_on (f t) over).meets (child.meets t lists (omega (arith, q.0)) vars room q.1));
      }

-- A step that changes nothing: of a follow, an address and a cast.
stays : {s : State} {v : ℕ} → Finishes deref_step s v s v
stays {s} {v} = record { long = refl; meets = go }
  where
    go : {o : Outcome ℕ} → Answers s v o → Answers s v (bind o deref_step)
    go (answers_ok x e small) = answers_ok x e small
    go (answers_full e) = answers_full e
    go (answers_stuck e) = answers_stuck e

-- A number plus another, modulo 2^32.
pub sum_done : {s : State} {w r : ℕ} (z v : ℕ) → w < full → r ≡ (v + z * w) % 4294967296 → r < full → Finishes (sum_step z v) s w s r
sum_done {s} z v under e small = goes_on (sum_step z v) s refl under (answers_ok _ (sym e) small)

pub sum_ended : {s : State} {w : ℕ} (z v : ℕ) → full ≤ w → Finishes (sum_step z v) s w s w
sum_ended z v over = passed_on (sum_step z v) over

field_done : {s : State} {v r : ℕ} (y : ℕ) → v < full → r ≡ (v + 1 * y) % 4294967296 → r < full → Finishes (field_step y) s v s r
field_done {s} {v} y under e small = goes_on (field_step y) s refl under (answers_ok _ (sym (e ∙ ap (λ x. (v + x) % 4294967296) (one-mul y))) small)

module _ {l : Lists} {s : State} {n k a : ℕ} (e : k ≡ part l n 0) (p : a ≡ part l n 1) where
  pub deref_answer : {v : ℕ} {s' : State} → k ≡ 2 → ValueAnswered l s a v s' → PlaceAnswered l s n v s'
  unfolding place_at kind_of
  deref_answer q child =
      from deref_step
      (λ t lists node vars h.
      let nd = deref_node t n (kind_is lists node e q) h in
      let p' = a_is lists node p in
      (rw p' nd.0.less, rw p' nd.0.tree, λ st. rw (nd.1, p')))
      child stays

  module _ (q : k ≡ 3) {v : ℕ} {s' : State} (child : ValueAnswered l s a v s') where
    pub field_answer : {y z r : ℕ} → ((t : Words) → FieldNode t l n → y ≡ offset_of t n) → z ≡ y → v < full → r ≡ (v + 1 * z) % 4294967296 → r < full → PlaceAnswered l s n r s'
    unfolding place_at kind_of
    field_answer {y} hy hz under hr small =
        from (field_step y)
        (λ t lists node vars h.
        let i = kind_is lists node e q in
        let nd = field_node t n i h in
        let p' = a_is lists node p in
        (rw p' nd.0.less, rw p' nd.0.tree, λ st. rw (nd.1, hy t (record { lists = lists; node = node; kind = i }), p')))
        child (field_done y under (rw hz at hr) small)

    pub field_ended : full ≤ v → PlaceAnswered l s n v s'
    unfolding place_at kind_of
    field_ended over =
        from_ended (λ t. field_step (offset_of t n))
        (λ t lists node vars h.
        let nd = field_node t n (kind_is lists node e q) h in
        let p' = a_is lists node p in
        (rw p' nd.0.less, rw p' nd.0.tree, λ st. rw (nd.1, p')))
        child over

  pub read_answer : {at r : ℕ} {s' : State} → k ≡ 6 → PlaceAnswered l s a at s' → Finishes read_step s' at s' r → ValueAnswered l s n r s'
  unfolding place_at kind_of
  read_answer q child finish =
      from read_step
      (λ t lists node vars h.
      let nd = read_node t n (kind_is lists node e q) h in
      let p' = a_is lists node p in
      (rw p' nd.0.less, rw p' nd.0.tree, λ st. rw (nd.1, p')))
      child finish

  pub address_answer : {v : ℕ} {s' : State} → k ≡ 7 → PlaceAnswered l s a v s' → ValueAnswered l s n v s'
  unfolding place_at kind_of
  address_answer q child =
      from deref_step
      (λ t lists node vars h.
      let nd = address_node t n (kind_is lists node e q) h in
      let p' = a_is lists node p in
      (rw p' nd.0.less, rw p' nd.0.tree, λ st. rw (nd.1, p')))
      child stays

  pub cast_answer : {v : ℕ} {s' : State} → k ≡ 8 → ValueAnswered l s a v s' → ValueAnswered l s n v s'
  unfolding place_at kind_of
  cast_answer q child =
      from deref_step
      (λ t lists node vars h.
      let nd = cast_node t n (kind_is lists node e q) h in
      let p' = a_is lists node p in
      (rw p' nd.0.less, rw p' nd.0.tree, λ st. rw (nd.1, p')))
      child stays

  pub malloc_answer : {v r : ℕ} {s₁ s' : State} → k ≡ 10 → ValueAnswered l s a v s₁ → Finishes malloc_step s₁ v s' r → ValueAnswered l s n r s'
  unfolding place_at kind_of
  malloc_answer q child finish =
      from malloc_step
      (λ t lists node vars h.
      let nd = malloc_node t n (kind_is lists node e q) h in
      let p' = a_is lists node p in
      (rw p' nd.0.less, rw p' nd.0.tree, λ st. rw (nd.1, p')))
      child finish

  pub size_answer : {r : ℕ} → k ≡ 9 → ((t : Words) → KnownWord known_target t l a → r ≡ size_of t a) → r < full → ValueAnswered l s n r s
  unfolding place_at kind_of
  size_answer {r} q is small =
      record {
        long = refl;
        meets = λ t lists node vars room h.
            let i = kind_is lists node e q in
            let p' = a_is lists node p in
            rw (size_node t n i, ← p') (answers_ok _ (sym (is t (record { lists = lists; known = rw p' (size_known t n i lists node) }))) small);
      }

-- ---- a node that is worked out without a call

module _ {l : Lists} {s : State} {n a : ℕ} (p : a ≡ part l n 1) where
  pub constant_answer : {r : ℕ} → ((t : Words) → ListsOf t l → n < count t nodes → node_kind t n ≡ constant) → r ≡ a → r < full → ValueAnswered l s n r s
  unfolding place_at
  constant_answer q is small =
      record { long = refl; meets = λ t lists node vars room h. rw (constant_node t n (q t lists node), ← a_is lists node p) (answers_ok a (sym is) small) }

  pub variable_answer : {r : ℕ} → ((t : Words) → ListsOf t l → n < count t nodes → sort_of (node_kind t n) ≡ Table.place → node_kind t n ≡ variable) → r ≡ a + 1 → r < full → PlaceAnswered l s n r s
  unfolding place_at
  variable_answer q is small =
      record {
        long = refl;
        meets = λ t lists node vars room h.
            rw ((variable_node t n (q t lists node (place_node t n h)) h).1, ← a_is lists node p) (answers_ok (1 + a) (omega arith) small);
      }

  -- A variable's word is read.
  pub variable_read : {i r : ℕ} → ReadsVariable l n → i ≡ part l a 1 → r ≡ word s.values (1 + i) → r < full → ValueAnswered l s n r s
  unfolding place_at
  variable_read {i} reads g is small =
      record {
        long = refl;
        meets = λ t lists node vars room h.
            let k = reads.each t lists node (value_node t n h) in
            let nd = read_node t n k.0 h in
            let p' = a_is lists node p in
            let inside : a < count t nodes = omega (arith, nd.0.less, p') in
            let v = variable_node t a (rw p' k.1) (rw (← p') at nd.0.tree) in
            let i' = a_is lists inside g in
            rw (nd.1, ← p', v.1, ← i') (word_read s (1 + i) (omega arith) (omega (arith, v.0, i')) is small);
      }

-- ---- a sum or a copy: the left operand, then the right one

abbrev operates : {x : ℕ} → Binary x → ℕ → ℕ → ℕ → State → Outcome ℕ
operates sums words v = sum_step words v
operates copies words v = copy_step words v

operated : {vars x : ℕ} (b : Binary x) {t : Words} {n : ℕ} → Operands vars t n b → (st : State)
    → value_at (value_of t n) st ≡ bind (value_at (value_of t (node_a t n)) st) (λ v s. bind (value_at (value_of t (node_b t n)) s) (operates b (moves_by t n) v))
unfolding value_at
operated sums nd st = rw nd.tree
operated copies nd st = rw nd.tree

module _ {l : Lists} {s s₁ : State} {n k a v x : ℕ} (b : Binary x) (e : k ≡ part l n 0) (p : a ≡ part l n 1) (q : k ≡ x) (left : ValueAnswered l s a v s₁) where
  pub left_ended : full ≤ v → ValueAnswered l s n v s₁
  left_ended over =
      from_ended (λ t v s. bind (value_at (value_of t (node_b t n)) s) (operates b (moves_by t n) v))
      (λ t lists node vars h.
      let nd = binary_node b t n lists.passed node (kind_is lists node e q) h in
      let p' = a_is lists node p in
      (rw p' nd.left.less, rw p' nd.left.tree, λ st. rw (operated b nd st, p')))
      left over

  -- The child's number is read again for its type, a₂.
  pub both_answer : {d a₂ y z w r : ℕ} {s₂ s₃ : State} → d ≡ part l n 2 → v < full → a₂ ≡ part l n 1 → y ≡ word l.notes.now a₂ % 128 → ((t : Words) → KnownWord known_type t l y → z ≡ step_of t y)
      → ValueAnswered l s₁ d w s₂ → Finishes (operates b z v) s₂ w s₃ r → ValueAnswered l s n r s₃
  both_answer {d = d} {a₂} {y} {z} {w} {r} g under p₂ hy hz right finish =
      record {
        long = finish.long ∙ right.long ∙ left.long;
        meets = λ t lists node vars room h.
            let nd = binary_node b t n lists.passed node (kind_is lists node e q) h in
            let p' = a_is lists node p in
            let d' = b_is lists node g in
            let inside : a < count t nodes = omega (arith, nd.left.less, p') in
            let noted = noted_type lists inside (rw (p₂, ← p) at hy) in
            let step : step_of t (node_type t a) ≡ z = ap (step_of t) (sym noted.0) ∙ sym (hz t noted.1) in
            rw (operated b nd _, ← p', step, ← d')
            ((goes_on (λ x s. bind (value_at (value_of t d) s) (operates b z x)) s₁ (finish.long ∙ right.long) under
            (finish.meets (right.meets t lists (omega (arith, nd.right.less, d')) vars (omega (arith, left.long)) (rw d' nd.right.tree)))).meets
            (left.meets t lists inside vars room (rw p' nd.left.tree)));
      }
