-- What evaluation requires, and what it answers for a node.
use Rattle.std.specs.Prelude.{ℕ, ◌<◌, ◌≤◌, List, length}
use Rattle.semantics.specs.Words.{Words}
use Rattle.semantics.specs.Table.{nodes, count}
use Rattle.semantics.specs.Syntax.{place_of, value_of}
use Rattle.semantics.specs.Rules.{Event, State, Outcome, place_at, value_at}
use Rattle.lookups.specs.declared.Lists.{Lists}
use Rattle.lookups.specs.Lists.{ListsOf}
use Rattle.lookups.specs.Nodes.{NodeReady, PlaceTree, ValueTree}
use Rattle.steps.specs.declared.Memory.{Memory}
use Rattle.steps.specs.declared.Slots.{Slots}
use Rattle.steps.specs.Answers.{state_of, DatumIs, LocationIs, PlaceIs, Stands, Answers}

-- A state of a begun run, with the log that the rules have there, and some word that is watched for.
pub record Ready (m : Memory) (s : Slots) : Type 0 where
  pub vars : ℕ
  pub watched : ℕ
  pub log : List Event
  pub stands : Stands vars watched m s log
  pub most : length m.values.now ≤ 65536

-- The outcome of node n from that state is what was answered, r with the slots s' and the memory m', whatever the table with these lists,
-- the log and the word that is watched for.
pub record NodeAnswered {A : Type 0} (Is : A → ℕ → Slots → Type 0) (Tree : ℕ → Words → Type 0) (outcome : Words → State → Outcome A)
    (l : Lists) (m : Memory) (n : ℕ) (s : Slots) (r : ℕ) (m' : Memory) (s' : Slots) : Type 0 where
  pub meets : (t : Words) → ListsOf t l → n < count t nodes → (vars w : ℕ) (log : List Event) → Stands vars w m s log
      → Tree vars t → Answers Is w m' r s' (outcome t (state_of m s.unused log))

-- Places and values.
abbrev pub PlaceReady : Lists → Memory → ℕ → Slots → Type 0
PlaceReady l m n s = NodeReady {S = Ready m s} (λ x. x.vars) (Unit {0}) (PlaceTree n) l n

abbrev pub ValueReady : Lists → Memory → ℕ → Slots → Type 0
ValueReady l m n s = NodeReady {S = Ready m s} (λ x. x.vars) (Unit {0}) (ValueTree n) l n

abbrev pub PlaceAnswered : Lists → Memory → ℕ → Slots → ℕ → Memory → Slots → Type 0
PlaceAnswered l m n s r m' s' = NodeAnswered LocationIs (PlaceTree n) (λ t. place_at (place_of t n)) l m n s r m' s'

abbrev pub ValueAnswered : Lists → Memory → ℕ → Slots → ℕ → Memory → Slots → Type 0
ValueAnswered l m n s r m' s' = NodeAnswered DatumIs (ValueTree n) (λ t. value_at (value_of t n)) l m n s r m' s'

-- A place that is assigned to: its bounds are not asked.
abbrev pub AssignedAnswered : Lists → Memory → ℕ → Slots → ℕ → Memory → Slots → Type 0
AssignedAnswered l m n s r m' s' = NodeAnswered PlaceIs (PlaceTree n) (λ t. place_at (place_of t n)) l m n s r m' s'
