-- One command over the memory: its place, its value, and the store.
use Rattle.std.specs.Prelude.{ℕ, ◌≡◌, List, set, if◌then◌else◌, Result, Ok, Err, ⊤}
use Rattle.semantics.specs.Words.{Words}
use Rattle.semantics.specs.Table.{edition, is_pointer, node_type}
use Rattle.semantics.specs.Syntax.{moves_bounds, place_of, value_of}
use Rattle.semantics.specs.Rules.{Event, assign}
use Rattle.lookups.specs.declared.Lists.{Lists}
use Rattle.lookups.specs.Nodes.{CommandNodes}
use Rattle.steps.specs.declared.Halt.{Halt}
use Rattle.steps.specs.declared.Halt.TheVariants.{Failed, NoRoom}
use Rattle.steps.specs.declared.Memory.{Memory}
use Rattle.steps.specs.declared.Slots.{Slots}
use Rattle.steps.specs.Answers.{failed, full, state_of, Stands, Answers}
use Rattle.evaluator.specs.Result.{Ready}

-- A command of place node p and value node v can be run from the state with U in s.
pub record CommandReady (l : Lists) (m : Memory) (p v : ℕ) (s : Slots) : Type 0 where
  pub table : Words
  pub state : Ready m s
  pub nodes_are : CommandNodes table l p v state.vars

-- The lists after a store at word w: base and end only where `bounds` is not 0.
pub record Stored (bounds w v b e : ℕ) (m m' : Memory) : Type 0 where
  pub values : m'.values.now ≡ set m.values.now w v
  pub bases : m'.bases.now ≡ (if is_pointer bounds then set m.bases.now w b else m.bases.now)
  pub ends : m'.ends.now ≡ (if is_pointer bounds then set m.ends.now w e else m.ends.now)

-- The number for what a command answers: 0 where it is done, else how evaluation ended.
abbrev pub number_of : Result ⊤ Halt → ℕ
number_of (Ok x) = 0
number_of (Err Failed) = failed
number_of (Err NoRoom) = full

pub record DoneIs (x : Unit {0}) (r : ℕ) (s : Slots) : Type 0 where
  pub zero : r ≡ 0

-- What a command answers: the lists m' and the slots s' are those that the rules leave.
pub record CommandAnswered (l : Lists) (m : Memory) (p v : ℕ) (s : Slots) (r : Result ⊤ Halt) (m' : Memory) (s' : Slots) : Type 0 where
  pub meets : (t : Words) (vars w : ℕ) (log : List Event) → Stands vars w m s log → CommandNodes t l p v vars
      → Answers DoneIs w m' (number_of r) s' (assign (moves_bounds (edition t) (node_type t v)) (place_of t p) (value_of t v) (state_of m s.unused log))
