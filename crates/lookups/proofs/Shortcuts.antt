-- Nodes that are worked out without a call, by what is noted of them.
use Prim.Native.Nat.{ℕ, ◌/◌, ◌%◌, ◌<◌}
use mathlib.Core.Bool.{Bool, true}
use mathlib.Core.Path.{◌≡◌, sym}
use native.Mathlib.Omega.{arith}
use lib.Dec.{eqb}
use Rattle.semantics.specs.Words.{Words, word}
use Rattle.semantics.specs.Table.{nodes, count, variable, constant, read, kind_of, sort_of, node_kind, node_a, node_b}
use Rattle.semantics.specs.Table as Table
use Rattle.semantics.specs.Check.{is_child}
use Rattle.semantics.proofs.Passed.{require_passes}
use Rattle.semantics.proofs.Trees.{NodeOk, node_ok, is_child_true}
use Rattle.lookups.specs.declared.Lists.{Lists}
use Rattle.lookups.specs.Lists.{part, ListsOf}
use Rattle.lookups.specs.Nodes.{NodeReady, ValueTree, ReadsVariable}
use Rattle.lookups.proofs.Lookups.{constant_bit, variable_bit, read_bit}
use Rattle.lookups.proofs.Nodes.{kind_number, value_node, read_node}
use Rattle.lookups.proofs.Ready.{kind_is, a_is}

module _ {l : Lists} {n x : ℕ} {f : Bool} (e : x ≡ word l.notes.now n) (taken : f ≡ true) where
  pub is_constant : f ≡ eqb (x / 256 % 2) 1 → (t : Words) → ListsOf t l → n < count t nodes → node_kind t n ≡ constant
  is_constant h t lists node = constant_bit lists node e taken h

  pub is_variable : f ≡ eqb (x / 512 % 2) 1 → (t : Words) → ListsOf t l → n < count t nodes → sort_of (node_kind t n) ≡ Table.place → node_kind t n ≡ variable
  is_variable h t lists node sort = variable_bit lists node e taken h sort

  pub reads_variable : f ≡ eqb (x / 512 % 2) 1 → ReadsVariable l n
  unfolding kind_of
  reads_variable h =
      record {
        each = λ t lists node sort.
            let b = read_bit lists node e taken h sort in
            (b.0, kind_number t (node_a t n) b.1);
      }

-- A read whose child is noted so.
pub reads_noted : {l : Lists} {n k a x : ℕ} {f : Bool} → k ≡ part l n 0 → k ≡ 6 → a ≡ part l n 1 → x ≡ word l.notes.now a → f ≡ true → f ≡ eqb (x / 512 % 2) 1 → ReadsVariable l n
unfolding kind_of
reads_noted {n = n} e q p hx taken h =
    record {
      each = λ t lists node sort.
          let i = kind_is lists node e q in
          let g : NodeOk t n read (node_a t n) (node_b t n) = rw i at (node_ok t n (lists.passed.node_passes n node)) in
          let ch = is_child_true t Table.place n (node_a t n) (require_passes (is_child t Table.place n (node_a t n)) 7 _ g.a_ok) in
          (i, variable_bit lists (omega (arith, ch.0)) (rw (a_is lists node p) at hx) taken h (sym ch.1));
    }

-- The node that it reads stands before it.
pub variable_below : {S : Type 0} {vars_of : S → ℕ} {Room : Type 0} {l : Lists} {n a : ℕ} → a ≡ part l n 1 → NodeReady vars_of Room (ValueTree n) l n → ReadsVariable l n → (a < n) × Unit {0}
variable_below {n = n} p h reads =
    let t = h.table in
    let k = reads.each t h.lists h.node (value_node t n h.tree) in
    (rw (a_is h.lists h.node p) (read_node t n k.0 h.tree).0.less, tt)
