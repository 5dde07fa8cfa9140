-- What evaluation without bounds requires, and what it answers for a node.
use Rattle.std.specs.Prelude.{ℕ, ◌≤◌, ◌<◌, ◌≡◌, length}
use Rattle.semantics.specs.Words.{Words}
use Rattle.semantics.specs.Table.{nodes, count}
use Rattle.semantics.specs.Syntax.{place_of, value_of}
use Rattle.semantics.specs.Bare.{State, Outcome, place_at, value_at}
use Rattle.lookups.specs.declared.Lists.{Lists}
use Rattle.lookups.specs.Lists.{ListsOf}
use Rattle.lookups.specs.Nodes.{NodeReady, PlaceTree, ValueTree}
use Rattle.bare_steps.specs.Answers.{Answers}

-- The memory has a word for each of these variables.
pub record Ready (s : State) : Type 0 where
  pub vars : ℕ
  pub room : vars < length s.values
  pub most : length s.values ≤ 65536

abbrev pub PlaceReady : Lists → State → ℕ → Type 0
PlaceReady l s n = NodeReady {S = Ready s} (λ x. x.vars) (Unit {0}) (PlaceTree n) l n

abbrev pub ValueReady : Lists → State → ℕ → Type 0
ValueReady l s n = NodeReady {S = Ready s} (λ x. x.vars) (Unit {0}) (ValueTree n) l n

-- The outcome of node n from the state s is what was answered, r with the state s', whose memory is as long; whatever the table with these lists.
pub record NodeAnswered (Tree : ℕ → Words → Type 0) (outcome : Words → State → Outcome ℕ) (l : Lists) (s : State) (n r : ℕ) (s' : State) : Type 0 where
  pub long : length s'.values ≡ length s.values
  pub meets : (t : Words) → ListsOf t l → n < count t nodes → (vars : ℕ) → vars < length s.values → Tree vars t → Answers s' r (outcome t s)

abbrev pub PlaceAnswered : Lists → State → ℕ → ℕ → State → Type 0
PlaceAnswered l s n r s' = NodeAnswered (PlaceTree n) (λ t. place_at (place_of t n)) l s n r s'

abbrev pub ValueAnswered : Lists → State → ℕ → ℕ → State → Type 0
ValueAnswered l s n r s' = NodeAnswered (ValueTree n) (λ t. value_at (value_of t n)) l s n r s'
