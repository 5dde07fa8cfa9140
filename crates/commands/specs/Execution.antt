-- All commands of a table: what they are run from, and how they end.
use Rattle.std.specs.Prelude.{ℕ, ◌≤◌, ◌≡◌, List, length}
use Rattle.semantics.specs.Words.{Words}
use Rattle.semantics.specs.Table.{variables, commands, count}
use Rattle.semantics.specs.Rules.{Event, State, fails}
use Rattle.semantics.specs.Run as semantics
use Rattle.semantics.specs.Run.{command, ending, done, abort, out_of_memory, Run, result_of, commands_below}
use Rattle.semantics.specs.Explain.{block_start}
use Rattle.semantics.proofs.Invariant.{Inv}
use Rattle.layout.specs.Layout.{Stands}
use Rattle.layout.specs.declared.Section.{Section}
use Rattle.lookups.specs.declared.Lists.{Lists}
use Rattle.lookups.specs.Lists.{ListsOf}
use Rattle.steps.specs.Answers.{check_told}
use Rattle.steps.specs.declared.FailedCheck.{FailedCheck}
use Rattle.commands.specs.declared.Ending.{Ending}
use Rattle.commands.specs.declared.Ending.TheVariants.{Done, Abort, NoRoom}

-- "Every run answers its ending and U; abort and no room add the command number."
abbrev pub ending_of : {C : Type 0} → Ending C → semantics.Answer
ending_of (Done u) = ending done u
ending_of (Abort c u x) = ending (abort c) u
ending_of (NoRoom c u) = ending (out_of_memory c) u

-- What the memory holds: values, bases and ends.
pub record Content : Type 0 where
  pub values : Words
  pub bases : Words
  pub ends : Words

abbrev pub lists : Words → Words → Words → Content
lists vs bs es = record { values = vs; bases = bs; ends = es }

abbrev pub state_with : Content → ℕ → List Event → State
state_with m u log = record { values = m.values; bases = m.bases; ends = m.ends; unused = u; log = log }

-- The memory and U are a state that a run of the table can begin with, if the rules have this log there.
abbrev pub Starts : Words → Content → ℕ → List Event → Type 0
Starts t m u log = Inv (count t variables) (length m.values) (state_with m u log)

-- s is the section of the commands, l are the table's lists, and the memory holds a state that a run of the table can begin with. Word w, which no block
-- has yet, is watched for; it is the memory's length where nothing is to be found.
pub record Executable (t : Words) (l : Lists) (s : Section) (u w : ℕ) (m : Content) : Type 0 where
  pub lists_of : ListsOf t l
  pub stands : Stands t commands s
  pub log : List Event
  pub inv : Starts t m u log
  pub most : length m.values ≤ 65536
  pub from : u ≤ w
  pub upto : w ≤ length m.values

-- An abort tells the check by which its command failed, and the start of the block that has word w, or 0: s is the state that the run r began in.
pub data Tells (t : Words) (w : ℕ) (s : State) (r : Run) : Ending FailedCheck → Type 0 where
  tells_done : {u : ℕ} → Tells t w s r (Done u)
  tells_abort : {c u : ℕ} {x : FailedCheck} → command t c (commands_below t c s).state ≡ fails (check_told x) r.state → x.block ≡ block_start r.state.log w → Tells t w s r (Abort c u x)
  tells_no_room : {c u : ℕ} → Tells t w s r (NoRoom c u)

-- An ending and the memory are those of a run, which began in state s.
pub record Ends (t : Words) (w : ℕ) (s : State) (o : Run) (r : Ending FailedCheck) (m : Content) : Type 0 where
  pub answer : ending_of r ≡ (result_of o).answer
  pub values : m.values ≡ o.state.values
  pub bases : m.bases ≡ o.state.bases
  pub ends : m.ends ≡ o.state.ends
  pub tells : Tells t w s o r

-- The commands were run from this memory and this U, with w watched for, and ended so, whatever the log at the start.
pub record Executed (t : Words) (m : Content) (u w : ℕ) (r : Ending FailedCheck) (m' : Content) : Type 0 where
  pub meets : (log : List Event) → Starts t m u log → Ends t w (state_with m u log) (commands_below t (count t commands) (state_with m u log)) r m'
