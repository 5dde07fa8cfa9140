-- What a node answers, from what its children answered.
use Prim.Native.Nat.{ℕ, ◌+◌, ◌*◌, ◌%◌, ◌≤◌, ◌<◌}
use mathlib.Core.Bool.{Bool, true, false, not, ◌&&◌, false≢true}
use mathlib.Core.Path.{◌≡◌, refl, sym, ap, ap₂, ◌∙◌}
use mathlib.Core.List.{List}
use native.Mathlib.Omega.{arith}
use borrow.Author.Tests.{leb-false}
use Rattle.semantics.specs.Words.{Words, word}
use Rattle.semantics.specs.Table.{Edition, edition_1, edition_2, edition, nodes, count, is_pointer, known_type, known_target, size_of, constant, kind_of, node_kind, node_a, node_b, node_type}
use Rattle.semantics.specs.Syntax.{value_of, step_of, moves_bounds, keeps_bounds, either_bounds}
use Rattle.semantics.specs.Rules.{Datum, Location, Event, State, Outcome, ok, fails, no_room, no_rule, unbounded, bind, variable_location, deref_step, field_step, read_step, address_step, takes_right, sum_step, cast_step, copy_step, malloc_step, place_at, value_at}
use Rattle.semantics.specs.Safety.{Sound, absent, held}
use Rattle.semantics.proofs.Ints.{cast_of_int, sum_of_int, sum_of_number}
use Rattle.semantics.proofs.Invariant.{Inv, sound_later, DatumOk, Good, good_ok, good_fails, good_no_room}
use Rattle.semantics.proofs.Steps.{ValueOk, place_good, value_good}
use Rattle.lookups.specs.declared.Lists.{Lists}
use Rattle.lookups.specs.Lists.{part, drops_bounds, tracked_by_type, ListsOf, FieldNode, KnownWord}
use Rattle.steps.specs.declared.Memory.{Memory}
use Rattle.steps.specs.declared.Slots.{Slots}
use Rattle.steps.specs.Answers.{failed, state_of, DatumIs, LocationIs, Stands, Answers, answers_ok, answers_failed, answers_full, Given, Finishes, DerefFinishes, FieldFinishes, SumFinishes, LoadFinishes, CastFinishes, MallocFinishes, BothOk, CopyFinishes}
use Rattle.evaluator.specs.Result.{NodeAnswered, PlaceAnswered, ValueAnswered}
use Rattle.steps.proofs.Finish.{passed_on, given_ok, watches_on}
use Rattle.lookups.proofs.Lookups.{noted_type, noted_bounds, noted_by_type}
use Rattle.lookups.proofs.Nodes.{value_node, offset_of, count_of, constant_node, size_node, variable_node, deref_node, field_node, read_node, address_node, cast_node, malloc_node, sum_either, moves_by, Binary, sums, copies, Operands, binary_node, sum_adds_int}
use Rattle.evaluator.proofs.Outcomes.{worked_out, weakened, number_of, place_only}
use Rattle.lookups.proofs.Ready.{kind_is, a_is, b_is, size_known, read_type}

all_kept : (o : Outcome Datum) → bind o (cast_step true) ≡ o
all_kept (ok x s) = refl
all_kept (fails x s) = refl
all_kept (no_room s) = refl
all_kept (no_rule s) = refl

-- Bounds that are absent or held have no base where they have no end.
no_base : {vars : ℕ} {x : Datum} {st : State} → DatumOk vars x st → x.end ≡ 0 → x.base ≡ 0
no_base {x = x} fine none = go fine.sound
  where
    go : {vars : ℕ} {log : List Event} → Sound vars log x.base x.end → x.base ≡ 0
    go (absent b e) = b
    go (held h) = absurd (omega (arith, h.proper))

-- A node that is a step from its child a, a value or a place: good says that the child's outcome is.
from : {A B : Type 0} {IsA Child : A → ℕ → Slots → Type 0} {Is : B → ℕ → Slots → Type 0} {Ok : ℕ → A → State → Type 0} {TreeA Tree : ℕ → Words → Type 0} {child_outcome : Words → State → Outcome A}
    {outcome : Words → State → Outcome B} {l : Lists} {m m' : Memory} {n a v r : ℕ} {s s₁ s₂ : Slots} (f : A → State → Outcome B)
    → ((vars len : ℕ) (t : Words) (st : State) → TreeA vars t → Inv vars len st → Good vars len st (Ok vars) (child_outcome t st)) → ((x : A) → IsA x v s₁ → Child x v s₁)
    → ((t : Words) → ListsOf t l → n < count t nodes → (vars : ℕ) → Tree vars t → (a < n) × TreeA vars t × ((st : State) → outcome t st ≡ bind (child_outcome t st) f))
    → NodeAnswered IsA TreeA child_outcome l m a s v m' s₁ → Finishes Child Ok Is f m' v s₁ r m' s₂ → NodeAnswered Is Tree outcome l m n s r m' s₂
from f good less made child finish =
    record {
      meets = λ t lists node vars w log st tree.
          let q = made t lists node vars tree in
          rw (q.2 _) (finish.meets vars _ w _ _ (weakened less (child.meets t lists (omega (arith, q.0)) vars w log st q.1)) (good vars _ t _ q.1 st.inv));
    }

-- A node that is a result without a step.
pub from_none : {B : Type 0} {Is : B → ℕ → Slots → Type 0} {Tree : ℕ → Words → Type 0} {outcome : Words → State → Outcome B} {l : Lists} {m : Memory} {n r : ℕ} {s s' : Slots}
    → ((t : Words) → ListsOf t l → n < count t nodes → (vars : ℕ) → Tree vars t → (x : B) × ((st : State) → outcome t st ≡ ok x st) × Given Is x s r s')
    → NodeAnswered Is Tree outcome l m n s r m s'
from_none made =
    record {
      meets = λ t lists node vars w log st tree.
          let q = made t lists node vars tree in
          rw (q.1 _) (given_ok q.0 log q.2.is q.2.small q.2.kept.unused (watches_on q.2.kept refl st.watches));
    }

-- ---- what a cast does, by the table's types

-- A cast to int, of a pointer whose bounds go by its type.
to_int : (e : Edition) (from to : ℕ) → not (is_pointer to) && tracked_by_type e from ≡ true → keeps_bounds e from to ≡ false
to_int edition_1 from to h = go (is_pointer from) (is_pointer to) h
  where
    go : (from to : Bool) → not to && from ≡ true → from && to ≡ false
    go true true h = absurd (false≢true h)
    go true false h = refl
    go false true h = refl
    go false false h = refl
to_int edition_2 from to h = go (is_pointer to) h
  where
    go : (to : Bool) → not to && false ≡ true → true ≡ false
    go true h = absurd (false≢true h)
    go false h = absurd (false≢true h)

-- Any other: an int has no bounds to drop.
kept : (e : Edition) (from to : ℕ) {o : Outcome Datum} → not (is_pointer to) && tracked_by_type e from ≡ false
    → (e ≡ edition_1 → is_pointer from ≡ false → bind o (cast_step false) ≡ o) → bind o (cast_step (keeps_bounds e from to)) ≡ o
kept edition_1 from to {o} h int = go (is_pointer from) (is_pointer to) h (int refl)
  where
    go : (from to : Bool) → not to && from ≡ false → (from ≡ false → bind o (cast_step false) ≡ o) → bind o (cast_step (from && to)) ≡ o
    go true true h int = all_kept o
    go true false h int = absurd (false≢true (sym h))
    go false true h int = int refl
    go false false h int = int refl
kept edition_2 from to {o} h int = all_kept o

by_types : {t : Words} {l : Lists} {n : ℕ} {f : Bool} → ListsOf t l → n < count t nodes → node_a t n < n → f ≡ drops_bounds l n
    → f ≡ not (is_pointer (node_b t n)) && tracked_by_type (edition t) (node_type t (node_a t n))
by_types {t} lists node less hf =
    let p' = a_is lists node refl in
    hf ∙ ap₂ (λ b y. not (is_pointer b) && y) (b_is lists node refl) (noted_by_type lists (omega (arith, less, p')) refl ∙ ap (λ x. tracked_by_type (edition t) (node_type t x)) p')

no_pointer : {y : ℕ} → is_pointer y ≡ false → y ≡ 0
unfolding is_pointer
no_pointer {y} h = omega (arith, leb-false 1 y h)

module _ {l : Lists} {m : Memory} {n : ℕ} {s : Slots} {k a : ℕ} (e : k ≡ part l n 0) (p : a ≡ part l n 1) where
  pub variable_answer : {r : ℕ} {s' : Slots} → k ≡ 1 → Given LocationIs (variable_location a) s r s' → PlaceAnswered l m n s r m s'
  unfolding place_at kind_of
  variable_answer q given =
      from_none
      (λ t lists node vars h. (variable_location a, (λ st. rw ((variable_node t n (kind_is lists node e q) h).1, ← a_is lists node p)), given))

  pub deref_answer : {v r : ℕ} {m' : Memory} {s₁ s₂ : Slots} → k ≡ 2 → DerefFinishes n m' v s₁ r s₂ → ValueAnswered l m a s v m' s₁ → PlaceAnswered l m n s r m' s₂
  unfolding place_at kind_of
  deref_answer q finish child =
      from (deref_step n) (λ vars len t st tree inv. value_good tree st inv) (λ x h. h)
      (λ t lists node vars h.
      let nd = deref_node t n (kind_is lists node e q) h in
      let p' = a_is lists node p in
      (rw p' nd.0.less, rw p' nd.0.tree, λ st. rw (nd.1, p')))
      child finish

  pub field_answer : {y z v r : ℕ} {m' : Memory} {s₁ s₂ : Slots} → k ≡ 3 → ((t : Words) → FieldNode t l n → y ≡ offset_of t n) → ((t : Words) → FieldNode t l n → z ≡ count_of t n)
      → FieldFinishes n y z m' v s₁ r s₂ → ValueAnswered l m a s v m' s₁ → PlaceAnswered l m n s r m' s₂
  unfolding place_at kind_of
  field_answer {y} {z} q hy hz finish child =
      from (field_step n y z) (λ vars len t st tree inv. value_good tree st inv) (λ x h. h)
      (λ t lists node vars h.
      let i = kind_is lists node e q in
      let nd = field_node t n i h in
      let f : FieldNode t l n = record { lists = lists; node = node; kind = i } in
      let p' = a_is lists node p in
      (rw p' nd.0.less, rw p' nd.0.tree, λ st. rw (nd.1, hy t f, hz t f, p')))
      child finish

  pub size_answer : {r : ℕ} {s' : Slots} → k ≡ 9 → ((t : Words) → KnownWord known_target t l a → Given DatumIs (unbounded (size_of t a)) s r s') → ValueAnswered l m n s r m s'
  unfolding place_at kind_of
  size_answer q given =
      from_none
      (λ t lists node vars h.
      let i = kind_is lists node e q in
      let p' = a_is lists node p in
      (unbounded (size_of t a), (λ st. rw (size_node t n i, ← p')), given t (record { lists = lists; known = rw p' (size_known t n i lists node) })))

  pub read_answer : {y at r : ℕ} {m' : Memory} {s₁ s₂ : Slots} → k ≡ 6 → y ≡ word l.notes.now a % 256 → PlaceAnswered l m a s at m' s₁ → LoadFinishes y m' at s₁ r s₂ → ValueAnswered l m n s r m' s₂
  unfolding place_at kind_of
  read_answer {y} q hy child finish =
      from (read_step (is_pointer y)) (λ vars len t st tree inv. place_good tree st inv) place_only
      (λ t lists node vars h.
      let i = kind_is lists node e q in
      let nd = read_node t n i h in
      let p' = a_is lists node p in
      let less = nd.0.less in
      let y' : is_pointer y ≡ moves_bounds (edition t) (node_type t n) = noted_bounds lists (omega (arith, less, p')) hy ∙ ap (moves_bounds (edition t)) (rw p' (sym (read_type t n i less))) in
      (rw p' less, rw p' nd.0.tree, λ st. rw (nd.1, y', p')))
      child finish

  pub address_answer : {r : ℕ} {m' : Memory} {s' : Slots} → k ≡ 7 → PlaceAnswered l m a s r m' s' → ValueAnswered l m n s r m' s'
  unfolding place_at kind_of
  address_answer q child =
      record {
        meets = λ t lists node vars w log st h.
            let nd = address_node t n (kind_is lists node e q) h in
            let p' = a_is lists node p in
            rw (nd.1, ← p') (handed (child.meets t lists (omega (arith, nd.0.less, p')) vars w log st (rw p' nd.0.tree)));
      }
    where
      handed : {w r : ℕ} {m' : Memory} {s' : Slots} {o : Outcome Location} → Answers LocationIs w m' r s' o → Answers DatumIs w m' r s' (bind o address_step)
      handed (answers_ok x log i small watch) = answers_ok _ log (record { value = i.at; base = i.base; end = i.end }) small watch
      handed (answers_failed log i watch) = answers_failed log i watch
      handed (answers_full log i) = answers_full log i

  module _ {f : Bool} (q : k ≡ 8) (hf : f ≡ drops_bounds l n) where
    -- In edition 1 a cast from pointer to int drops bounds.
    pub drop_answer : {v r : ℕ} {m' : Memory} {s₁ s₂ : Slots} → f ≡ true → ValueAnswered l m a s v m' s₁ → CastFinishes m' v s₁ r s₂ → ValueAnswered l m n s r m' s₂
    unfolding place_at kind_of
    drop_answer taken child finish =
        from (cast_step false) (λ vars len t st tree inv. value_good tree st inv) number_of
        (λ t lists node vars h.
        let nd = cast_node t n (kind_is lists node e q) h in
        let p' = a_is lists node p in
        let drops = to_int (edition t) (node_type t (node_a t n)) (node_b t n) (sym (by_types lists node nd.0.less hf) ∙ taken) in
        (rw p' nd.0.less, rw p' nd.0.tree, λ st. rw (nd.1, drops, p')))
        child finish

    -- Another keeps all.
    pub keep_answer : {v : ℕ} {m' : Memory} {s₁ : Slots} → f ≡ false → ValueAnswered l m a s v m' s₁ → ValueAnswered l m n s v m' s₁
    unfolding place_at kind_of
    keep_answer taken child =
        record {
          meets = λ t lists node vars w log stands h.
              let nd = cast_node t n (kind_is lists node e q) h in
              let p' = a_is lists node p in
              let inside : node_a t n < count t nodes = omega (arith, nd.0.less) in
              let st = state_of m s.unused log in
              let same : value_at (value_of t n) st ≡ value_at (value_of t a) st =
              ap (λ x. value_at x st) nd.1
              ∙ kept (edition t) (node_type t (node_a t n)) (node_b t n) (sym (by_types lists node nd.0.less hf) ∙ taken)
              (λ first int. cast_of_int lists.passed (node_a t n) inside (value_node t (node_a t n) nd.0.tree) (no_pointer int) first st)
              ∙ ap (λ x. value_at (value_of t x) st) (sym p') in
              rw same (child.meets t lists (omega (arith, nd.0.less, p')) vars w log stands (rw p' nd.0.tree));
        }

  pub malloc_answer : {v r : ℕ} {m' : Memory} {s₁ s₂ : Slots} → k ≡ 10 → ValueAnswered l m a s v m' s₁ → MallocFinishes m' v s₁ r s₂ → ValueAnswered l m n s r m' s₂
  unfolding place_at kind_of
  malloc_answer q child finish =
      from malloc_step (λ vars len t st tree inv. value_good tree st inv) number_of
      (λ t lists node vars h.
      let nd = malloc_node t n (kind_is lists node e q) h in
      let p' = a_is lists node p in
      (rw p' nd.0.less, rw p' nd.0.tree, λ st. rw (nd.1, p')))
      child finish

-- ---- a sum or a copy: the left operand, then the right one

-- What node n does with both values. The number is the words by which 1 moves the left one: those of the record, for a copy.
abbrev operates : {x : ℕ} → Binary x → (t : Words) (n words : ℕ) → Datum → Datum → State → Outcome Datum
operates sums t n words = sum_step (sum_either t) words
operates copies t n words = copy_step n words

operated : {vars x : ℕ} (b : Binary x) {t : Words} {n : ℕ} → Operands vars t n b → (st : State)
    → value_at (value_of t n) st ≡ bind (value_at (value_of t (node_a t n)) st) (λ p s. bind (value_at (value_of t (node_b t n)) s) (operates b t n (moves_by t n) p))
unfolding value_at
operated sums nd st = rw nd.tree
operated copies nd st = rw nd.tree

-- The left operand of node n was worked out, v with the slots s₁: what is answered for it and the right operand d, with the number of words z, is
-- answered for the node.
record LeftDone (l : Lists) (m : Memory) (n : ℕ) (s : Slots) {k : ℕ} (b : Binary k) (d v z : ℕ) (m₁ : Memory) (s₁ : Slots) : Type 0 where
  then : {r : ℕ} {m₂ : Memory} {s₂ : Slots} (t : Words) → ListsOf t l → n < count t nodes → (vars w : ℕ) (log : List Event)
      → Stands vars w m s log → ValueOk vars (value_of t n)
      → ((x : Datum) (log₁ : List Event) → d < count t nodes → ValueOk vars (value_of t d) → DatumIs x v s₁ → Stands vars w m₁ s₁ log₁ → DatumOk vars x (state_of m₁ s₁.unused log₁)
      → Answers DatumIs w m₂ r s₂ (bind (value_at (value_of t d) (state_of m₁ s₁.unused log₁)) (operates b t n z x)))
      → Answers DatumIs w m₂ r s₂ (value_at (value_of t n) (state_of m s.unused log))

module _ {l : Lists} {m m₁ : Memory} {n k a v x : ℕ} {s s₁ : Slots} (b : Binary x) (e : k ≡ part l n 0) (p : a ≡ part l n 1) (q : k ≡ x) (child : ValueAnswered l m a s v m₁ s₁) where
  pub ended_answer : failed ≤ v → ValueAnswered l m n s v m₁ s₁
  ended_answer over =
      record {
        meets = λ t lists node vars w log st h.
            let nd = binary_node b t n lists.passed node (kind_is lists node e q) h in
            let p' = a_is lists node p in
            let tree = rw (← p') at nd.left.tree in
            rw (operated b nd _, ← p') ((passed_on {Ok = DatumOk} _ over).meets vars _ w _ _ (child.meets t lists (omega (arith, nd.left.less, p')) vars w log st tree) (value_good tree _ st.inv));
      }

  -- The child's number is read again for its type, a₂.
  module _ {d a₂ y z : ℕ} (g : d ≡ part l n 2) (under : v < failed) (p₂ : a₂ ≡ part l n 1) (hy : y ≡ word l.notes.now a₂ % 128) (hz : (t : Words) → KnownWord known_type t l y → z ≡ step_of t y) where
    left_done : LeftDone l m n s b d v z m₁ s₁
    left_done =
        record {
          then = λ t lists node vars w log st h goes.
              let nd = binary_node b t n lists.passed node (kind_is lists node e q) h in
              let p' = a_is lists node p in
              let d' = b_is lists node g in
              let tree = rw (← p') at nd.left.tree in
              let inside : a < count t nodes = omega (arith, nd.left.less, p') in
              let noted = noted_type lists inside (rw (p₂, ← p) at hy) in
              let step : step_of t (node_type t a) ≡ z = ap (step_of t) (sym noted.0) ∙ sym (hz t noted.1) in
              rw (operated b nd _, ← p', step, ← d')
              (let left = worked_out (child.meets t lists inside vars w log st tree) (value_good tree _ st.inv) under in
              rw left.outcome (goes left.result left.log (omega (arith, nd.right.less, d')) (rw d' nd.right.tree) left.is left.stands left.fine));
        }

module _ {l : Lists} {m m₁ : Memory} {n k a v : ℕ} {s s₁ : Slots} (e : k ≡ part l n 0) (p : a ≡ part l n 1) (child : ValueAnswered l m a s v m₁ s₁) {d a₂ y z : ℕ} (g : d ≡ part l n 2) (under : v < failed)
    (p₂ : a₂ ≡ part l n 1) (hy : y ≡ word l.notes.now a₂ % 128) (hz : (t : Words) → KnownWord known_type t l y → z ≡ step_of t y) where
  module _ (q : k ≡ 5) where
    pub sum_answer : {w r : ℕ} {m₂ : Memory} {s₂ s₃ : Slots} → ValueAnswered l m₁ d s₁ w m₂ s₂
        → ((x : Datum) → x.value ≡ v → x.base ≡ s₁.base → x.end ≡ s₁.end → SumFinishes z x m₂ w s₂ r s₃) → ValueAnswered l m n s r m₂ s₃
    unfolding kind_of
    sum_answer right finish =
        record {
          meets = λ t lists node vars watched log st h.
              let int = rw (← b_is lists node g) at (sum_adds_int t n lists.passed node (kind_is lists node e q)) in
              (left_done sums e p q child g under p₂ hy hz).then t lists node vars watched log st h
              (λ x log₁ inside tree hx st₁ fine.
              rw (sum_of_int lists.passed d inside (value_node t d tree) int z x (no_base fine) (state_of m₁ s₁.unused log₁))
              ((finish x hx.value hx.base hx.end).meets vars _ watched _ _ (right.meets t lists inside vars watched log₁ st₁ tree) (value_good tree _ st₁.inv)));
        }

    -- The right operand is a constant: its number is added, and the slots stay.
    pub sum_constant_answer : {i w r : ℕ} → ((t : Words) → ListsOf t l → d < count t nodes → node_kind t d ≡ constant) → i ≡ part l d 1 → w ≡ i → r ≡ (v + z * w) % 4294967296 → r < failed
        → ValueAnswered l m n s r m₁ s₁
    unfolding place_at takes_right
    sum_constant_answer {i} four x hw hr small =
        record {
          meets = λ t lists node vars watched log st h.
              (left_done sums e p q child g under p₂ hy hz).then t lists node vars watched log st h
              (λ y log₁ inside tree hx st₁ fine.
              rw (constant_node t d (four t lists inside), ← a_is lists inside x, sum_of_number (either_bounds (edition t)) z y (no_base fine) i (state_of m₁ s₁.unused log₁))
              (answers_ok _ log₁ (record { value = ap₂ (λ p x. (p + z * x) % 4294967296) hx.value (sym hw) ∙ sym hr; base = hx.base; end = hx.end }) small st₁.watches));
        }

  -- The bounds of the left operand are absent or held when the right one has been worked out too.
  pub copy_answer : {w r n' : ℕ} {m₂ m₃ : Memory} {s₂ s₃ : Slots} → k ≡ 11 → n' ≡ n → ValueAnswered l m₁ d s₁ w m₂ s₂
      → ((x : Datum) → x.value ≡ v → x.base ≡ s₁.base → x.end ≡ s₁.end → CopyFinishes n' z x m₂ w s₂ r m₃ s₃) → ValueAnswered l m n s r m₃ s₃
  copy_answer q same right finish =
      record {
        meets = λ t lists node vars watched log st h.
            (left_done copies e p q child g under p₂ hy hz).then t lists node vars watched log st h
            (λ x log₁ inside tree hx st₁ fine.
            (rw same at (finish x hx.value hx.base hx.end)).meets vars _ watched _ _ (right.meets t lists inside vars watched log₁ st₁ tree) (both fine (value_good tree _ st₁.inv)));
      }
    where
      both : {vars len : ℕ} {x : Datum} {st : State} {o : Outcome Datum} → DatumOk vars x st → Good vars len st (DatumOk vars) o → Good vars len st (BothOk x vars) o
      both fine (good_ok inv later right) = good_ok inv later (record { left = record { sound = sound_later later.more fine.sound }; right = right })
      both fine (good_fails inv later sound) = good_fails inv later sound
      both fine (good_no_room inv later) = good_no_room inv later
