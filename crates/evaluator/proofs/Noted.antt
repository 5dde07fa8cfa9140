-- Nodes that are worked out without a call, by what is noted of them.
use Prim.Native.Nat.{ℕ, ◌+◌, ◌%◌, ◌<◌}
use mathlib.Core.Path.{◌≡◌, sym, ap, ◌∙◌}
use native.Mathlib.Omega.{arith}
use Rattle.semantics.specs.Words.{Words, word}
use Rattle.semantics.specs.Table.{edition, nodes, count, is_pointer, variable, constant, kind_of, sort_of, node_kind, node_type}
use Rattle.semantics.specs.Table as Table
use Rattle.semantics.specs.Syntax.{moves_bounds}
use Rattle.semantics.specs.Rules.{unbounded, variable_location, place_at}
use Rattle.semantics.proofs.Steps.{place_good, value_good}
use Rattle.lookups.specs.declared.Lists.{Lists}
use Rattle.lookups.specs.Lists.{part, ListsOf}
use Rattle.steps.specs.declared.Memory.{Memory}
use Rattle.steps.specs.declared.Slots.{Slots}
use Rattle.steps.specs.Answers.{failed, DatumIs, answers_ok, Given, Inside, LoadFinishes, MallocFinishes}
use Rattle.evaluator.specs.Result.{PlaceReady, ValueReady, PlaceAnswered, ValueAnswered, AssignedAnswered}
use Rattle.lookups.specs.Nodes.{ReadsVariable}
use Rattle.lookups.proofs.Lookups.{noted_bounds}
use Rattle.lookups.proofs.Nodes.{place_node, value_node, constant_node, variable_node, read_node, malloc_node}
use Rattle.lookups.proofs.Ready.{kind_is, a_is, read_type}
use Rattle.evaluator.proofs.Outcomes.{weakened, place_only}
use Rattle.evaluator.proofs.Evaluation.{from_none}

module _ {l : Lists} {m : Memory} {n : ℕ} {s : Slots} {a : ℕ} (p : a ≡ part l n 1) where
  pub constant_answer : {r : ℕ} {s' : Slots} → ((t : Words) → ListsOf t l → n < count t nodes → node_kind t n ≡ constant) → Given DatumIs (unbounded a) s r s' → ValueAnswered l m n s r m s'
  unfolding place_at
  constant_answer q given =
      from_none (λ t lists node vars h. (unbounded a, (λ st. rw (constant_node t n (q t lists node), ← a_is lists node p)), given))

  -- A variable's word is read.
  module _ {i w : ℕ} (reads : ReadsVariable l n) (g : i ≡ part l a 1) (hw : w ≡ i + 1) where
    pub variable_read : {y r : ℕ} {s' : Slots} → w < failed → y ≡ word l.notes.now a % 256 → LoadFinishes y m w s r s' → ValueAnswered l m n s r m s'
    unfolding place_at
    variable_read {y} under hy finish =
        record {
          meets = λ t lists node vars watched log st h.
              let k = reads.each t lists node (value_node t n h) in
              let nd = read_node t n k.0 h in
              let p' = a_is lists node p in
              let less = nd.0.less in
              let tree = rw (← p') at nd.0.tree in
              let inside : a < count t nodes = omega (arith, less, p') in
              let v = variable_node t a (rw p' k.1) tree in
              let i' = a_is lists inside g in
              let y' : is_pointer y ≡ moves_bounds (edition t) (node_type t n) = noted_bounds lists inside hy ∙ ap (moves_bounds (edition t)) (rw p' (sym (read_type t n k.0 less))) in
              rw (nd.1, ← y', ← p', v.1, ← i')
              (finish.meets vars _ watched _ _ (answers_ok (variable_location i) log (record { at = omega arith }) under st.watches) (rw (v.1, ← i') at (place_good tree _ st.inv)));
        }

    -- It lies in all three lists.
    pub variable_inside : ValueReady l m n s → (w < 65536) × Inside (w + 1) m
    variable_inside h =
        let t = h.table in
        let k = reads.each t h.lists h.node (value_node t n h.tree) in
        let nd = read_node t n k.0 h.tree in
        let p' = a_is h.lists h.node p in
        let inside : a < count t nodes = omega (arith, nd.0.less, p', h.node) in
        let v = variable_node t a (rw p' k.1) (rw (← p') at nd.0.tree) in
        let less : i < h.state.vars = omega (arith, v.0, a_is h.lists inside g) in
        let inv = h.state.stands.inv in
        (omega (arith, inv.low, inv.high, h.state.most), record { values = omega (arith, inv.low, inv.high); bases = omega (arith, inv.low, inv.high, inv.bases_length); ends = omega (arith, inv.low, inv.high, inv.ends_length) })

  -- The number of words is a constant: no slots are set for it.
  pub malloc_constant_answer : {k i v r : ℕ} {s₂ : Slots} → k ≡ part l n 0 → k ≡ 10 → ((t : Words) → ListsOf t l → a < count t nodes → node_kind t a ≡ constant) → i ≡ part l a 1 → v ≡ i → v < failed
      → MallocFinishes m v s r s₂ → ValueAnswered l m n s r m s₂
  unfolding place_at kind_of
  malloc_constant_answer {i = i} e q four x hv small finish =
      record {
        meets = λ t lists node vars watched log st h.
            let nd = malloc_node t n (kind_is lists node e q) h in
            let p' = a_is lists node p in
            let inside : a < count t nodes = omega (arith, nd.0.less, p') in
            let c = constant_node t a (four t lists inside) in
            let i' = a_is lists inside x in
            rw (nd.1, ← p', c, ← i')
            (finish.meets vars _ watched _ _ (answers_ok (unbounded i) log (record { value = sym hv }) small st.watches) (rw (c, ← i') at (value_good (rw (← p') at nd.0.tree) _ st.inv)));
      }

  -- ---- a command's place

  pub assigned_variable : {x r : ℕ} → PlaceReady l m n s → ((t : Words) → ListsOf t l → n < count t nodes → sort_of (node_kind t n) ≡ Table.place → node_kind t n ≡ variable) → x ≡ a → r ≡ x + 1
      → AssignedAnswered l m n s r m s
  unfolding place_at
  assigned_variable {r = r} ready q hx hr =
      let t = ready.table in
      let v = variable_node t n (q t ready.lists ready.node (place_node t n ready.tree)) ready.tree in
      let small : r < failed = omega (arith, v.0, a_is ready.lists ready.node p, ready.state.stands.inv.low, ready.state.stands.inv.high, ready.state.most) in
      record {
        meets = λ t lists node vars watched log st h.
            rw ((variable_node t n (q t lists node (place_node t n h)) h).1, ← a_is lists node p) (answers_ok (variable_location a) log (record { at = omega arith }) small st.watches);
      }

-- Of a place that was worked out, the bounds are not asked.
pub assigned_place : {l : Lists} {m m' : Memory} {n r : ℕ} {s s' : Slots} → PlaceAnswered l m n s r m' s' → AssignedAnswered l m n s r m' s'
assigned_place h = record { meets = λ t lists node vars watched log st tree. weakened place_only (h.meets t lists node vars watched log st tree) }
