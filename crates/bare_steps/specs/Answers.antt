-- How a step of the bare run answers: one number for the value or the place, or for how evaluation ended.
use Rattle.std.specs.Prelude.{ℕ, ◌<◌, ◌≡◌, length, Result, Ok, Err, ⊤}
use Rattle.semantics.specs.Bare.{State, Outcome, ok, no_room, no_word, bind, assign_step}
use Rattle.bare_steps.specs.declared.Memory.{Memory}
use Rattle.bare_steps.specs.declared.Halt.{Halt}
use Rattle.bare_steps.specs.declared.Halt.TheVariants.{NoRoom, Stuck}

-- No room, and a word that can't be read or assigned.
abbrev pub full : ℕ
full = 4294967296

abbrev pub stuck : ℕ
stuck = 4294967297

-- The memory as a state: its values, and U.
abbrev pub state_of : Memory → State
state_of m = record { values = m.values.now; unused = m.unused }

-- An outcome is what was answered, r with the state s: a result, which is the number itself, no room, or stuck.
pub data Answers (s : State) (r : ℕ) : Outcome ℕ → Type 0 where
  answers_ok : (x : ℕ) → x ≡ r → r < full → Answers s r (ok x s)
  answers_full : r ≡ full → Answers s r (no_room s)
  answers_stuck : r ≡ stuck → Answers s r (no_word s)

-- The step f, from a child that answered v with the state s, answers r with the state s', whose memory is as long. Where the child's evaluation ended,
-- that is passed on.
pub record Finishes (f : ℕ → State → Outcome ℕ) (s : State) (v : ℕ) (s' : State) (r : ℕ) : Type 0 where
  pub long : length s'.values ≡ length s.values
  pub meets : {o : Outcome ℕ} → Answers s v o → Answers s' r (bind o f)

-- What an answer says, with the state that it leaves: done with x, or how evaluation ended.
abbrev pub outcome_of : {A : Type 0} → Result A Halt → State → Outcome A
outcome_of (Ok x) s = ok x s
outcome_of (Err NoRoom) s = no_room s
outcome_of (Err Stuck) s = no_word s

-- The answer x says what the number r does.
pub record Tells (r : ℕ) (x : Result ℕ Halt) : Type 0 where
  pub each : (s : State) (o : Outcome ℕ) → Answers s r o → o ≡ outcome_of x s

-- An assignment of x to word w answers r, and leaves the state s', whose memory is as long.
pub record Assigns (w x : ℕ) (s : State) (r : Result ⊤ Halt) (s' : State) : Type 0 where
  pub long : length s'.values ≡ length s.values
  pub meets : assign_step w x s ≡ outcome_of r s'
