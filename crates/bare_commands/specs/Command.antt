-- One command without bounds: its place, its value, and the store.
use Rattle.std.specs.Prelude.{ℕ, ◌<◌, ◌≡◌, length, Result, ⊤}
use Rattle.semantics.specs.Words.{Words}
use Rattle.semantics.specs.Syntax.{place_of, value_of}
use Rattle.semantics.specs.Bare.{State, assign}
use Rattle.lookups.specs.declared.Lists.{Lists}
use Rattle.lookups.specs.Nodes.{CommandNodes}
use Rattle.bare_steps.specs.declared.Halt.{Halt}
use Rattle.bare_steps.specs.Answers.{outcome_of}
use Rattle.bare_evaluator.specs.Result.{Ready}

-- A command of place node p and value node v can be run in this state.
pub record CommandReady (l : Lists) (s : State) (p v : ℕ) : Type 0 where
  pub table : Words
  pub state : Ready s
  pub nodes_are : CommandNodes table l p v state.vars

-- What a command answers: r, with the state s', whose memory is as long, as the rules say.
pub record CommandAnswered (l : Lists) (s : State) (p v : ℕ) (r : Result ⊤ Halt) (s' : State) : Type 0 where
  pub long : length s'.values ≡ length s.values
  pub meets : (t : Words) (vars : ℕ) → vars < length s.values → CommandNodes t l p v vars → assign (place_of t p) (value_of t v) s ≡ outcome_of r s'
