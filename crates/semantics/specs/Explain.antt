-- Request 4, "A reason for every abort": a tool that "takes what the run takes, leaves what it leaves and, for a run that aborts, tells the node,
-- the place wanted, the number of words wanted, the base and end, and one reason". Then, what is claimed of it.
use Rattle.std.specs.Prelude.{ℕ, ◌+◌, ◌≤◌, ◌<◌, Bool, ◌&&◌, ◌≡◌, leb, ltb, eqb, length, if◌then◌else◌}
use mathlib.Core.List.{List, [], ◌∷◌, Memᴰ}
use Rattle.semantics.specs.Words.{Words}
use Rattle.semantics.specs.Table.{variables, count}
use Rattle.semantics.specs.Check.{Verdict, passes, refused, call_fault}
use Rattle.semantics.specs.Rules.{BoundsCheck, Event, loaded, stored, allocated, tested, State, fails}
use Rattle.semantics.specs.Run.{begin, command, Ending, done, abort, out_of_memory, stuck, Run, commands_below, run, Result, call}
use Rattle.semantics.specs.Safety.{Held}

-- "A word with base 0 and end 0 has no bounds."
unfoldable pub without_bounds : BoundsCheck → Bool
without_bounds x = eqb x.base 0 && eqb x.end 0

-- "one reason: 1 no bounds, 2 before the base, 3 past the end, the lowest that applies", of a check that was not passed.
unfoldable pub reason_of : BoundsCheck → ℕ
reason_of x = if without_bounds x then 1 else if ltb x.at x.base then 2 else 3

-- The first word of the block that has word w, or 0: the newest such block of the log, and there is no other.
unfoldable pub block_start : List Event → ℕ → ℕ
block_start [] w = 0
block_start (loaded at a ∷ log) w = block_start log w
block_start (stored at a ∷ log) w = block_start log w
block_start (tested x ∷ log) w = block_start log w
block_start (allocated s n ∷ log) w = if leb s w && ltb w (s + n) then s else block_start log w

-- "the first word of the variable or block in which the bounds lie, or 0 for reason 1". Of so many variables, "number i is word 1 + i"; a
-- register is a block of the log.
unfoldable pub first_word : ℕ → List Event → BoundsCheck → ℕ
first_word vars log x =
    if without_bounds x then 0 else
    if leb x.base vars then x.base else
    block_start log x.base

-- What is told of an abort.
pub record Cause : Type 0 where
  pub check : BoundsCheck
  pub reason : ℕ
  pub first : ℕ

-- "For a run that doesn't abort it says so."
pub data Explanation : Type 0 where
  not_aborted : Explanation
  because : Cause → Explanation

abbrev pub cause_of : ℕ → List Event → BoundsCheck → Cause
cause_of vars log x = record { check = x; reason = reason_of x; first = first_word vars log x }

-- By the newest check of a part of the log. An abort has one: it is the newest event.
unfoldable pub newest_cause : ℕ → List Event → List Event → Explanation
newest_cause vars log [] = not_aborted
newest_cause vars log (tested x ∷ part) = because (cause_of vars log x)
newest_cause vars log (loaded at a ∷ part) = newest_cause vars log part
newest_cause vars log (stored at a ∷ part) = newest_cause vars log part
newest_cause vars log (allocated s n ∷ part) = newest_cause vars log part

abbrev pub explanation : ℕ → Ending → List Event → Explanation
explanation vars done log = not_aborted
explanation vars (abort c) log = newest_cause vars log log
explanation vars (out_of_memory c) log = not_aborted
explanation vars (stuck c) log = not_aborted

-- The run's own answer and lists, refused or not, and the explanation beside them.
pub record Explained : Type 0 where
  pub result : Result
  pub explanation : Explanation

abbrev pub explain_by : Verdict → Words → Words → Words → ℕ → Explanation
explain_by passes t inputs registers len =
    let r = run t inputs registers len in explanation (count t variables) r.ending r.state.log
explain_by (refused n p) t inputs registers len = not_aborted

unfoldable pub explain : Words → Words → Words → Words → Words → Words → Explained
explain t inputs registers values bases ends =
    record {
      result = call t inputs registers values bases ends;
      explanation = explain_by (call_fault t inputs registers (length values) (length bases) (length ends)) t inputs registers (length values);
    }

-- ---- What is claimed

-- "it passes when b ≤ w and w + k ≤ e"
pub record Passed (x : BoundsCheck) : Type 0 where
  pub from : x.base ≤ x.at
  pub upto : x.at + x.words ≤ x.end

-- Every check of a log is passed.
abbrev pub AllPassed : List Event → Type 0
AllPassed log = (x : BoundsCheck) → Memᴰ (tested x) log → Passed x

-- "this is the first check not passed in that very run": of the log, newest first, it is the newest event; it is not passed, and every one before
-- it is. It is the check by which command c, after all commands before it were done, failed.
pub record FirstNotPassed (t : Words) (s : State) (r : Run) (c : ℕ) (x : BoundsCheck) : Type 0 where
  pub earlier : List Event
  pub newest : r.state.log ≡ tested x ∷ earlier
  pub not_passed : Passed x → ⊥
  pub before : AllPassed earlier
  pub done_before : (commands_below t c s).ending ≡ done
  pub failed : command t c (commands_below t c s).state ≡ fails x r.state

-- The facts about the numbers shown that the reasons are.
pub data Applies (x : BoundsCheck) : ℕ → Type 0 where
  no_bounds : x.base ≡ 0 → x.end ≡ 0 → Applies x 1
  before_base : x.at < x.base → Applies x 2
  past_end : x.end < x.at + x.words → Applies x 3

-- "the lowest that applies"
pub record Lowest (x : BoundsCheck) (reason : ℕ) : Type 0 where
  pub applies : Applies x reason
  pub lowest : (n : ℕ) → Applies x n → reason ≤ n

-- The bounds [b, e) lie in one variable or block, and in no other; it starts at this word, and none does for bounds that are absent.
pub data StartsAt (vars : ℕ) (log : List Event) (b e : ℕ) : ℕ → Type 0 where
  nowhere : b ≡ 0 → e ≡ 0 → StartsAt vars log b e 0
  somewhere : (h : Held vars log b e) → ((k : Held vars log b e) → (k.s ≡ h.s) × (k.t ≡ h.t)) → StartsAt vars log b e h.s

-- The explanation of a run from state s of a table's commands, with this many variables.
pub data Explains (t : Words) (s : State) (r : Run) : Ending → Explanation → Type 0 where
  aborted : {c : ℕ} {x : Cause} → FirstNotPassed t s r c x.check → Lowest x.check x.reason
      → StartsAt (count t variables) r.state.log x.check.base x.check.end x.first → Explains t s r (abort c) (because x)
  all_done : AllPassed r.state.log → Explains t s r done not_aborted
  no_room_left : {c : ℕ} → AllPassed r.state.log → Explains t s r (out_of_memory c) not_aborted

-- Of every call whose run is begun.
abbrev pub TrulyExplained : Words → Words → Words → Words → Words → Words → Type 0
TrulyExplained t inputs registers values bases ends =
    call_fault t inputs registers (length values) (length bases) (length ends) ≡ passes
    → Explains t (begin t inputs registers (length values)) (run t inputs registers (length values)) (run t inputs registers (length values)).ending
    (explain t inputs registers values bases ends).explanation
