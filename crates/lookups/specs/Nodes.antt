-- A node that can be worked out.
use Rattle.std.specs.Prelude.{ℕ, ◌<◌, ◌≡◌}
use Rattle.semantics.specs.Words.{Words}
use Rattle.semantics.specs.Table.{nodes, count, variable, read, value, sort_of, node_kind, node_a}
use Rattle.semantics.specs.Syntax.{place_of, value_of}
use Rattle.semantics.proofs.Steps.{PlaceOk, ValueOk}
use Rattle.lookups.specs.declared.Lists.{Lists}
use Rattle.lookups.specs.Lists.{ListsOf}

-- Node n is one of some table with the lists l, makes sense as Tree says, and can be worked out in a state S of a run, which has this many variables,
-- with Room for what is answered.
pub record NodeReady {S : Type 0} (vars_of : S → ℕ) (Room : Type 0) (Tree : ℕ → Words → Type 0) (l : Lists) (n : ℕ) : Type 0 where
  pub table : Words
  pub lists : ListsOf table l
  pub node : n < count table nodes
  pub room : Room
  pub state : S
  pub tree : Tree (vars_of state) table

-- Places and values.
abbrev pub PlaceTree : ℕ → ℕ → Words → Type 0
PlaceTree n vars t = PlaceOk vars (place_of t n)

abbrev pub ValueTree : ℕ → ℕ → Words → Type 0
ValueTree n vars t = ValueOk vars (value_of t n)

-- Node n, if it is a value, reads a variable, in each table with these lists.
pub record ReadsVariable (l : Lists) (n : ℕ) : Type 0 where
  pub each : (t : Words) → ListsOf t l → n < count t nodes → sort_of (node_kind t n) ≡ value → (node_kind t n ≡ read) × (node_kind t (node_a t n) ≡ variable)

-- Nodes p and v, a place and a value, of the table t that has the lists l.
pub record CommandNodes (t : Words) (l : Lists) (p v vars : ℕ) : Type 0 where
  pub lists_of : ListsOf t l
  pub place_node : p < count t nodes
  pub value_node : v < count t nodes
  pub place_tree : PlaceOk vars (place_of t p)
  pub value_tree : ValueOk vars (value_of t v)
