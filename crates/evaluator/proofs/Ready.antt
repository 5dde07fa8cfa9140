-- What the evaluator's calls require of the state, before and after a child.
use Prim.Native.Nat.{ℕ, ◌+◌, ◌≤◌, ◌<◌}
use mathlib.Core.Path.{◌≡◌}
use native.Mathlib.Omega.{arith}
use lib.ListN.{length}
use Rattle.semantics.specs.Table.{nodes, count, kind_of}
use Rattle.semantics.specs.Syntax.{value_of}
use Rattle.semantics.specs.Rules.{State}
use Rattle.semantics.specs.Safety.{Sound, absent, held}
use Rattle.semantics.proofs.Blocks.{region_used}
use Rattle.semantics.proofs.Invariant.{Inv}
use Rattle.semantics.proofs.Steps.{ValueOk, place_good, value_good}
use Rattle.lookups.specs.declared.Lists.{Lists}
use Rattle.lookups.specs.Lists.{part}
use Rattle.lookups.proofs.Nodes.{variable_node, Binary, copies, binary_node}
use Rattle.lookups.proofs.Ready.{kind_is, a_is, b_is}
use Rattle.steps.specs.declared.Memory.{Memory}
use Rattle.steps.specs.declared.Slots.{Slots}
use Rattle.steps.specs.Answers.{failed, state_of, Inside}
use Rattle.evaluator.specs.Result.{PlaceReady, ValueReady, PlaceAnswered, ValueAnswered}
use Rattle.steps.proofs.Finish.{touched}
use Rattle.evaluator.proofs.Outcomes.{lengths_after, worked_out}

module _ {l : Lists} {m : Memory} {n : ℕ} {s : Slots} (h : PlaceReady l m n s) {k : ℕ} (e : k ≡ part l n 0) where
  pub variable_small : {a : ℕ} → k ≡ 1 → a ≡ part l n 1 → a < 65536
  unfolding kind_of
  variable_small q p =
      let v = variable_node h.table n (kind_is h.lists h.node e q) h.tree in
      omega (arith, v.0, a_is h.lists h.node p, h.state.stands.inv.low, h.state.stands.inv.high, h.state.most)

module _ {l : Lists} {m : Memory} {a : ℕ} {s : Slots} where
  -- After a value was worked out, memory has room for as many words as before.
  pub room_after : {v : ℕ} {m' : Memory} {s' : Slots} → ValueReady l m a s → ValueAnswered l m a s v m' s' → length m'.values.now ≤ 65536
  room_after h answer =
      let same = lengths_after (answer.meets h.table h.lists h.node h.state.vars h.state.watched h.state.log h.state.stands h.tree) (value_good h.tree _ h.state.stands.inv) in
      omega (arith, same.0, h.state.most)

  pub inside_after : {at : ℕ} {m' : Memory} {s' : Slots} → PlaceReady l m a s → PlaceAnswered l m a s at m' s' → at < failed
      → Inside (at + 1) m'
  inside_after h answer under =
      let w = worked_out (answer.meets h.table h.lists h.node h.state.vars h.state.watched h.state.log h.state.stands h.tree) (place_good h.tree _ h.state.stands.inv) under in
      let t = touched w.stands.inv w.fine w.is.at in
      record { values = omega (arith, t); bases = omega (arith, t); ends = omega (arith, t) }

-- Bounds that are absent or held end within the memory.
bounds_inside : {vars len b e : ℕ} {st : State} → Inv vars len st → Sound vars st.log b e → e ≤ len
bounds_inside inv (absent p q) = omega arith
bounds_inside inv (held x) = omega (arith, region_used inv.blocks x.region, x.upto, inv.high)

-- The left operand of a sum or a copy: a node of the table, which makes sense.
left_operand : {l : Lists} {m : Memory} {n k a x : ℕ} {s : Slots} (b : Binary x) (h : ValueReady l m n s) → k ≡ part l n 0 → k ≡ x → a ≡ part l n 1 → (a < count h.table nodes) × ValueOk h.state.vars (value_of h.table a)
left_operand {n = n} b h e q p =
    let nd = binary_node b h.table n h.lists.passed h.node (kind_is h.lists h.node e q) h.tree in
    let p' = a_is h.lists h.node p in
    (omega (arith, nd.left.less, p', h.node), rw p' nd.left.tree)

-- The right operand of a sum or a copy, after the left one.
pub right_ready : {l : Lists} {m m' : Memory} {n k a d v x : ℕ} {s s' : Slots} (b : Binary x) (h : ValueReady l m n s) → k ≡ part l n 0 → k ≡ x → a ≡ part l n 1 → d ≡ part l n 2
    → ValueAnswered l m a s v m' s' → v < failed → (d < n) × ValueReady l m' d s'
right_ready {n = n} b h e q p g answer under =
    let t = h.table in
    let nd = binary_node b t n h.lists.passed h.node (kind_is h.lists h.node e q) h.tree in
    let c = left_operand b h e q p in
    let w = worked_out (answer.meets t h.lists c.0 h.state.vars h.state.watched h.state.log h.state.stands c.1) (value_good c.1 _ h.state.stands.inv) under in
    let d' = b_is h.lists h.node g in
    (rw d' nd.right.less, record { table = t; lists = h.lists; node = omega (arith, nd.right.less, h.node, d'); room = tt; state = record { vars = h.state.vars; watched = h.state.watched; log = w.log; stands = w.stands; most = omega (arith, w.long, h.state.most) }; tree = rw d' nd.right.tree })

-- After both operands of a copy, the memory has all words within the bounds of either.
pub copy_inside : {l : Lists} {m m₁ m₂ : Memory} {n k a d v w : ℕ} {s s₁ s₂ : Slots} (h : ValueReady l m n s) → k ≡ part l n 0 → k ≡ 11 → a ≡ part l n 1 → d ≡ part l n 2
    → ValueAnswered l m a s v m₁ s₁ → v < failed → ValueAnswered l m₁ d s₁ w m₂ s₂ → Inside s₁.end m₂ × (w < failed → Inside s₂.end m₂)
unfolding right_ready
copy_inside {m₁ = m₁} {m₂ = m₂} {w = w} {s₁ = s₁} {s₂ = s₂} h e q p g left under right =
    let c = left_operand copies h e q p in
    let d = (right_ready copies h e q p g left under).1 in
    let first = worked_out (left.meets h.table h.lists c.0 h.state.vars h.state.watched h.state.log h.state.stands c.1) (value_good c.1 _ h.state.stands.inv) under in
    let answer = right.meets h.table h.lists d.node h.state.vars h.state.watched first.log first.stands d.tree in
    let good = value_good d.tree _ first.stands.inv in
    let all = lengths_after answer good in
    let to = bounds_inside {b = first.result.base} {e = first.result.end} {st = state_of m₁ s₁.unused first.log} first.stands.inv first.fine.sound in (
      record { values = omega (arith, all.0, to, first.is.end); bases = omega (arith, all.1, to, first.is.end); ends = omega (arith, all.2, to, first.is.end) },
      (λ small.
          let second = worked_out answer good small in
          let from = bounds_inside {b = second.result.base} {e = second.result.end} {st = state_of m₂ s₂.unused second.log} second.stands.inv second.fine.sound in
          record { values = omega (arith, from, second.is.end); bases = omega (arith, all.0, all.1, from, second.is.end); ends = omega (arith, all.0, all.2, from, second.is.end) }),
    )
