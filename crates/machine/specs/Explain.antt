-- A whole call whose abort is explained: the answer as the numbers and values of request 4. Beside it a word may be watched for, to find the
-- block that has it.
use Rattle.std.specs.Prelude.{ℕ, ◌+◌, ◌≤◌, ◌<◌, ◌≡◌, List, Option, Some, Result, Ok, Err, length}
use Rattle.semantics.specs.Words.{Words}
use Rattle.semantics.specs.Table.{variables, commands, count}
use Rattle.semantics.specs.Check.{passes, call_fault}
use Rattle.semantics.specs.Rules.{Event}
use Rattle.semantics.specs.Run as semantics
use Rattle.semantics.specs.Run.{Run, begin, commands_below, run, result_of}
use Rattle.semantics.specs.Explain as semantics_explain
use Rattle.semantics.specs.Explain.{reason_of, block_start, Explanation, not_aborted, because, explanation, explain}
use Rattle.steps.specs.Answers.{check_told}
use Rattle.layout.specs.declared.Refusal.{Refusal}
use Rattle.commands.specs.Execution.{ending_of, lists, state_with, Starts}
use Rattle.commands.specs.declared.Ending.{Ending}
use Rattle.commands.specs.declared.Ending.TheVariants.{Done, Abort, NoRoom}
use Rattle.steps.specs.declared.FailedCheck.{FailedCheck}
use Rattle.registers.specs.Blocks.{RegisterOf}
use Rattle.machine.specs.Run.{answer_of}
use Rattle.machine.specs.declared.Reason.{Reason}
use Rattle.machine.specs.declared.Reason.TheVariants.{NoBounds, BeforeBase, PastEnd}
use Rattle.machine.specs.declared.Cause.{Cause}

-- "Reasons: 1 no bounds, 2 before the base, 3 past the end."
abbrev pub reason_number : Reason → ℕ
reason_number NoBounds = 1
reason_number BeforeBase = 2
reason_number PastEnd = 3

-- The cause of an abort.
abbrev pub cause_told : Cause → semantics_explain.Cause
cause_told x =
    record { check = record { node = x.node; at = x.place; words = x.words; base = x.base; end = x.end }; reason = reason_number x.reason; first = x.first }

-- The explanation of an ending, and of an answer.
abbrev pub explanation_of : Ending Cause → Explanation
explanation_of (Done u) = not_aborted
explanation_of (Abort c u x) = because (cause_told x)
explanation_of (NoRoom c u) = not_aborted

abbrev pub explanation_told : Result (Ending Cause) Refusal → Explanation
explanation_told (Ok e) = explanation_of e
explanation_told (Err r) = not_aborted

-- An answer and three lists, as what the tool is to answer and to leave. No two answers say the same.
abbrev pub explained_of : Result (Ending Cause) Refusal → Words → Words → Words → semantics_explain.Explained
explained_of r vs bs es = record { result = record { answer = answer_of r; values = vs; bases = bs; ends = es }; explanation = explanation_told r }

-- The reason of a check with this place wanted and these bounds.
abbrev pub reason_by : ℕ → ℕ → ℕ → ℕ
reason_by place base end = reason_of (record { node = 0; at = place; words = 0; base = base; end = end })

-- ---- With a word that is watched for

-- Another first word is told: that of the block which has the word watched for.
abbrev pub starting_at : ℕ → semantics_explain.Cause → semantics_explain.Cause
starting_at n x = record { check = x.check; reason = x.reason; first = n }

abbrev pub started : ℕ → Explanation → Explanation
started n not_aborted = not_aborted
started n (because x) = because (starting_at n x)

-- Word w is a variable's, with this many, or a register's, and this is the first word of the one that has it; or it is past all of them, and there is none.
pub data Declared (vars : ℕ) (l : Words) (w : ℕ) : Option ℕ → Type 0 where
  of_variable : w ≤ vars → Declared vars l w (Some w)
  of_register : {first : Option ℕ} → vars < w → RegisterOf l (vars + 1) w first → Declared vars l w first

-- What a run's ending says.
abbrev pub ended_because : Ending FailedCheck → Explanation
ended_because (Done u) = not_aborted
ended_because (Abort c u x) = because (record { check = check_told x; reason = reason_of (check_told x); first = x.block })
ended_because (NoRoom c u) = not_aborted

pub record TellsEnded (e : Ending FailedCheck) (r : Ending Cause) : Type 0 where
  pub answer : ending_of r ≡ ending_of e
  pub explanation : explanation_of r ≡ ended_because e

-- Lists that hold a state which a run of the table can begin with; no block has word w yet.
pub record Startable (t : Words) (u w : ℕ) (vs bs es : Words) : Type 0 where
  pub log : List Event
  pub inv : Starts t (lists vs bs es) u log
  pub most : length vs ≤ 65536
  pub from : u ≤ w
  pub upto : w ≤ length vs

-- What is answered of a run, where word w was watched for.
abbrev pub seen_at : ℕ → ℕ → Run → semantics_explain.Explained
seen_at vars w o = record { result = result_of o; explanation = started (block_start o.state.log w) (explanation vars o.ending o.state.log) }

-- The commands were run from these lists and this first unused word, and ended so, whatever the log at the start.
pub record Executed (t vs bs es : Words) (u w : ℕ) (r : Ending Cause) (vs' bs' es' : Words) : Type 0 where
  pub meets : (log : List Event) → Starts t (lists vs bs es) u log
      → explained_of (Ok r) vs' bs' es' ≡ seen_at (count t variables) w (commands_below t (count t commands) (state_with (lists vs bs es) u log))

-- If the run is begun, no block has word w at its beginning, and w is within the memory or its end.
pub record Watchable (w : ℕ) (t inputs registers vs bs es : Words) : Type 0 where
  pub room : call_fault t inputs registers (length vs) (length bs) (length es) ≡ passes → ((begin t inputs registers (length vs)).unused ≤ w) × (w ≤ length vs)

-- A call was made, and word w was watched for.
pub record Called (w : ℕ) (t inputs registers vs bs es : Words) (r : Result (Ending Cause) Refusal) (vs' bs' es' : Words) : Type 0 where
  pub is : explained_of r vs' bs' es'
      ≡ record {
        result = semantics.call t inputs registers vs bs es;
        explanation = started (block_start (run t inputs registers (length vs)).state.log w) (explain t inputs registers vs bs es).explanation;
      }
