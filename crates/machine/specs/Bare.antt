-- A whole bare call: the answer as request 9's values, and what the list holds afterwards.
use Rattle.std.specs.Prelude.{ℕ, ◌≤◌, ◌<◌, ◌≡◌, Result, Ok, Err, length}
use Rattle.semantics.specs.Words.{Words}
use Rattle.semantics.specs.Table.{variables, commands, count}
use Rattle.semantics.specs.Bare as Bare
use Rattle.semantics.specs.Bare.{refusal, begin, commands_below, result_of, call}
use Rattle.layout.specs.declared.Refusal.{Refusal}
use Rattle.layout.specs.Refusals.{number_of}
use Rattle.registers.specs.Blocks.{bare_memory}
use Rattle.bare_commands.specs.declared.Ended.{Ended}
use Rattle.bare_commands.specs.Execution.{ended_of}

-- "Every run answers its ending and U"; no room and stuck add the command number. "A refusal answers number and place".
abbrev pub bare_answer_of : Result Ended Refusal → Bare.Answer
bare_answer_of (Ok e) = ended_of e
bare_answer_of (Err r) = refusal (number_of r.fault) r.place

-- An answer and a list are the result of a bare call.
abbrev pub bare_result : Result Ended Refusal → Words → Bare.Result
bare_result r vs = record { answer = bare_answer_of r; values = vs }

-- A list and a first unused word are those that a bare run of a table with this many variables begins with, in a list as long as vs.
pub record HasBegunBare (vars : ℕ) (inputs registers vs vs' : Words) (u : ℕ) : Type 0 where
  pub begins : (t : Words) → vars ≡ count t variables → bare_memory vs' u ≡ begin t inputs registers (length vs)

-- A list that has a word for each variable.
pub record StartableBare (t vs : Words) : Type 0 where
  pub room : count t variables < length vs
  pub most : length vs ≤ 65536

-- The commands were run from this list and this first unused word, and ended so.
pub record ExecutedBare (t vs : Words) (u : ℕ) (r : Ended) (vs' : Words) : Type 0 where
  pub is : bare_result (Ok r) vs' ≡ result_of (commands_below t (count t commands) (bare_memory vs u))

-- A bare call was made.
pub record CalledBare (t inputs registers vs : Words) (r : Result Ended Refusal) (vs' : Words) : Type 0 where
  pub is : bare_result r vs' ≡ call t inputs registers vs
