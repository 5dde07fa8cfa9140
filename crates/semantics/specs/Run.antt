-- A whole call: what is answered, and what every lent word holds afterwards.
use Rattle.std.specs.Prelude.{ℕ, zero, suc, ◌+◌, true, [], ◌∷◌, length, replicate, set}
use Rattle.std.proofs.lemmas.List.Edits.{sets}
use Rattle.semantics.specs.Words.{Words, zeroed}
use Rattle.semantics.specs.Table.{edition, variables, commands, count, node_type}
use Rattle.semantics.specs.Registers.{register_count, register_variable, register_length, register_words}
use Rattle.semantics.specs.Check.{Verdict, passes, refused, command_place, command_value, call_fault}
use Rattle.semantics.specs.Syntax.{moves_bounds, place_of, value_of}
use Rattle.semantics.specs.Rules.{unbounded, allocated, State, Outcome, ok, fails, no_room, no_rule, with_datum, assign}

-- "U, the first unused word, starts at 1 + the number of variables." "A begun run first clears all three lists, then
-- sets each variable's value from the input list, one input a variable."
unfoldable pub cleared : Words → Words → ℕ → State
cleared t inputs len =
    record { values = sets (replicate len 0) 1 inputs; bases = replicate len 0; ends = replicate len 0; unused = 1 + count t variables; log = [] }

-- Request 1: a register of n words ws becomes a block at U, its words without bounds, and variable v starts at it with its bounds. "With n = 0
-- it starts as 0 without bounds." The log has the block: "The fence rule now counts a register as a block obtained before the first command."
abbrev pub with_register : (v n : ℕ) → Words → State → State
with_register v zero ws s = with_datum true (1 + v) (unbounded 0) s
with_register v (suc n) ws s =
    record {
      values = set (sets s.values s.unused ws) (1 + v) s.unused;
      bases = set (zeroed s.bases s.unused (suc n)) (1 + v) s.unused;
      ends = set (zeroed s.ends s.unused (suc n)) (1 + v) (s.unused + suc n);
      unused = s.unused + suc n;
      log = allocated s.unused (suc n) ∷ s.log;
    }

-- The registers below i in order; "U starts after the last register".
unfoldable pub registers_below : Words → ℕ → State → State
registers_below l zero s = s
registers_below l (suc i) s = with_register (register_variable l i) (register_length l i) (register_words l i) (registers_below l i s)

unfoldable pub begin : Words → Words → Words → ℕ → State
begin t inputs registers len = registers_below registers (register_count registers) (cleared t inputs len)

unfoldable pub command : Words → ℕ → State → Outcome (Unit {0})
command t c =
    assign (moves_bounds (edition t) (node_type t (command_place t c))) (place_of t (command_place t c)) (value_of t (command_value t c))

-- done, abort and no room; stuck is "touching a word with no rule".
pub data Ending : Type 0 where
  done : Ending
  abort : (command : ℕ) → Ending
  out_of_memory : (command : ℕ) → Ending
  stuck : (command : ℕ) → Ending

pub record Run : Type 0 where
  pub ending : Ending
  pub state : State

abbrev pub ended : Ending → State → Run
ended e s = record { ending = e; state = s }

-- How command c's outcome ends the run, if it does.
abbrev pub after_command : ℕ → Outcome (Unit {0}) → Run
after_command c (ok x s) = ended done s
after_command c (fails x s) = ended (abort c) s
after_command c (no_room s) = ended (out_of_memory c) s
after_command c (no_rule s) = ended (stuck c) s

-- "The first abort or no room ends the run at that command": command c is run only where all before it were done.
abbrev pub then_command : Words → ℕ → Ending → State → Run
then_command t c done s = after_command c (command t c s)
then_command t c (abort d) s = ended (abort d) s
then_command t c (out_of_memory d) s = ended (out_of_memory d) s
then_command t c (stuck d) s = ended (stuck d) s

-- The commands below c in order, from any state.
unfoldable pub commands_below : Words → ℕ → State → Run
commands_below t zero s = ended done s
commands_below t (suc c) s = then_command t c (commands_below t c s).ending (commands_below t c s).state

unfoldable pub run : Words → Words → Words → ℕ → Run
run t inputs registers len = commands_below t (count t commands) (begin t inputs registers len)

-- "Every run answers its ending and U; abort and no room add the command number."
pub data Answer : Type 0 where
  refusal : (number at : ℕ) → Answer
  ending : Ending → (unused : ℕ) → Answer

pub record Result : Type 0 where
  pub answer : Answer
  pub values : Words
  pub bases : Words
  pub ends : Words

abbrev pub result_of : Run → Result
result_of r =
    record { answer = ending r.ending r.state.unused; values = r.state.values; bases = r.state.bases; ends = r.state.ends }

-- "A refusal answers number and place and writes nowhere."
abbrev pub call_by : Verdict → Words → Words → Words → Words → Words → Words → Result
call_by passes t inputs registers values bases ends = result_of (run t inputs registers (length values))
call_by (refused n p) t inputs registers values bases ends = record { answer = refusal n p; values = values; bases = bases; ends = ends }

unfoldable pub call : Words → Words → Words → Words → Words → Words → Result
call t inputs registers values bases ends =
    call_by (call_fault t inputs registers (length values) (length bases) (length ends)) t inputs registers values bases ends
