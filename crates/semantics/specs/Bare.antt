-- Request 9, the bare run: "the same steps without checks and without the two bounds lists". It goes over the same trees. Its definitions stand in
-- the order of those in specs/Rules.antt and specs/Run.antt, each under the name of the one that it takes the place of; what bounds alone need is
-- left out. A place and a value are a word's number and its value. "Its sums are all modulo 4,294,967,296, except U + n, which stays exact."
use Rattle.std.specs.Prelude.{ℕ, zero, suc, ◌+◌, ◌*◌, ◌%◌, Bool, ◌&&◌, length, replicate, set, leb, ltb, eqb, if◌then◌else◌}
use Rattle.std.proofs.lemmas.List.Edits.{sets}
use Rattle.semantics.specs.Words.{Words, word, zeroed, moved, all_below}
use Rattle.semantics.specs.Table.{variables, commands, count}
use Rattle.semantics.specs.Registers.{register_count, register_variable, register_length, register_words}
use Rattle.semantics.specs.Check.{Verdict, passes, refused, command_place, command_value}
use Rattle.semantics.specs.Check as Check
use Rattle.semantics.specs.Syntax.{Place, Variable, Deref, Field, NoPlace, Value, Number, Sum, Read, Address, Cast, Malloc, Copy, NoValue, place_of, value_of}

-- The memory, which is one list, and U. There is no log: "the fence rule speak[s] of the fenced run only".
pub record State : Type 0 where
  pub values : Words
  pub unused : ℕ

abbrev pub with_values : Words → State → State
with_values values s = record { values = values; unused = s.unused }

-- No check is made, so none fails. What has no rule in the fenced run is "stuck when it reads or assigns outside the lent memory or at word 0".
pub data Outcome (A : Type 0) : Type 0 where
  ok : A → State → Outcome A
  no_room : State → Outcome A
  no_word : State → Outcome A

abbrev pub bind : {A B : Type 0} → Outcome A → (A → State → Outcome B) → Outcome B
bind (ok a s) f = f a s
bind (no_room s) f = no_room s
bind (no_word s) f = no_word s

-- "Variable number i is word 1 + i."
abbrev pub variable_location : ℕ → ℕ
variable_location i = 1 + i

-- "The place is v".
abbrev pub deref_step : ℕ → State → Outcome ℕ
deref_step v s = ok v s

-- "w = v + offset": modulo 4,294,967,296.
abbrev pub field_step : ℕ → ℕ → State → Outcome ℕ
field_step offset v s = ok ((v + offset) % 4294967296) s

-- Whether a word can be read and assigned: it is neither "outside the lent memory" nor "word 0". U is not asked.
unfoldable pub touchable : State → ℕ → Bool
touchable s w = ltb 0 w && ltb w (length s.values)

unfoldable pub read_step : ℕ → State → Outcome ℕ
read_step w s = if touchable s w then ok (word s.values w) s else no_word s

-- "Address: the place's word"
abbrev pub address_step : ℕ → State → Outcome ℕ
address_step w s = ok w s

-- "Sum: modulo 4,294,967,296." Request 2: by "that number times the record's size, modulo 4,294,967,296"
abbrev pub sum_step : ℕ → ℕ → ℕ → State → Outcome ℕ
sum_step step v x s = ok ((v + step * x) % 4294967296) s

-- "Cast: .. the value is kept"
abbrev pub cast_step : ℕ → State → Outcome ℕ
cast_step v s = ok v s

-- "An obtain sets its new words to 0, as a bare run may have written there."
abbrev pub with_block : ℕ → State → State
with_block n s = record { values = zeroed s.values s.unused n; unused = s.unused + n }

-- "Obtain n: for n = 0, value 0 .. Else no room exactly when U + n exceeds the length; otherwise value U .. and U rises by n."
unfoldable pub malloc_step : ℕ → State → Outcome ℕ
malloc_step n s =
    if eqb n 0 then ok 0 s else
    if leb (s.unused + n) (length s.values) then ok s.unused (with_block n s) else
    no_room s

-- "The words at b go to a .. as they were before the copy, even where the two overlap. .. The result is the number of words". "a copy with word 0 or a
-- word outside is stuck and writes nothing": k words from a place on that go past 4,294,967,295 are outside before they would be modulo that.
unfoldable pub copy_step : ℕ → ℕ → ℕ → State → Outcome ℕ
copy_step k a b s =
    if all_below k (λ i. touchable s (b + i) && touchable s (a + i)) then ok k (with_values (moved s.values a b k) s) else no_word s

-- "Child a goes before child b"
unfoldable mutual
  pub place_at : Place → State → Outcome ℕ
  place_at (Variable n i) s = ok (variable_location i) s
  place_at (Deref n v) s = bind (value_at v s) deref_step
  place_at (Field n offset k v) s = bind (value_at v s) (field_step offset)
  place_at NoPlace s = no_word s

  pub value_at : Value → State → Outcome ℕ
  value_at (Number n x) s = ok x s
  value_at (Sum n either step a b) s = bind (value_at a s) (λ v s'. bind (value_at b s') (sum_step step v))
  value_at (Read n bounds p) s = bind (place_at p s) read_step
  value_at (Address n p) s = bind (place_at p s) address_step
  value_at (Cast n keeps v) s = bind (value_at v s) cast_step
  value_at (Malloc n v) s = bind (value_at v s) malloc_step
  value_at (Copy n k a b) s = bind (value_at a s) (λ v s'. bind (value_at b s') (copy_step k v))
  value_at NoValue s = no_word s

-- "Assign: .. stores the value". The value is worked out first: "A stuck bare run stops there".
unfoldable pub assign_step : ℕ → ℕ → State → Outcome (Unit {0})
assign_step w x s = if touchable s w then ok tt (with_values (set s.values w x) s) else no_word s

-- "a command's place before its value"
unfoldable pub assign : Place → Value → State → Outcome (Unit {0})
assign p v s = bind (place_at p s) (λ w s'. bind (value_at v s') (assign_step w))

-- ---- a whole run

-- "U, the first unused word, starts at 1 + the number of variables." "A begun run first clears" the list, "then sets each variable's value from the
-- input list, one input a variable."
unfoldable pub cleared : Words → Words → ℕ → State
cleared t inputs len = record { values = sets (replicate len 0) 1 inputs; unused = 1 + count t variables }

-- Request 1: a register of n words ws becomes a block at U, and variable v starts at it. "With n = 0 it starts as 0".
abbrev pub with_register : (v n : ℕ) → Words → State → State
with_register v zero ws s = with_values (set s.values (1 + v) 0) s
with_register v (suc n) ws s = record { values = set (sets s.values s.unused ws) (1 + v) s.unused; unused = s.unused + suc n }

-- The registers below i in order; "U starts after the last register".
unfoldable pub registers_below : Words → ℕ → State → State
registers_below l zero s = s
registers_below l (suc i) s = with_register (register_variable l i) (register_length l i) (register_words l i) (registers_below l i s)

unfoldable pub begin : Words → Words → Words → ℕ → State
begin t inputs registers len = registers_below registers (register_count registers) (cleared t inputs len)

unfoldable pub command : Words → ℕ → State → Outcome (Unit {0})
command t c = assign (place_of t (command_place t c)) (value_of t (command_value t c))

-- done, no room and stuck.
pub data Ending : Type 0 where
  done : Ending
  out_of_memory : (command : ℕ) → Ending
  stuck : (command : ℕ) → Ending

pub record Run : Type 0 where
  pub ending : Ending
  pub state : State

abbrev pub ended : Ending → State → Run
ended e s = record { ending = e; state = s }

abbrev pub after_command : ℕ → Outcome (Unit {0}) → Run
after_command c (ok x s) = ended done s
after_command c (no_room s) = ended (out_of_memory c) s
after_command c (no_word s) = ended (stuck c) s

-- "A stuck bare run stops there, answers the command and U, and leaves its writes so far"
abbrev pub then_command : Words → ℕ → Ending → State → Run
then_command t c done s = after_command c (command t c s)
then_command t c (out_of_memory d) s = ended (out_of_memory d) s
then_command t c (stuck d) s = ended (stuck d) s

unfoldable pub commands_below : Words → ℕ → State → Run
commands_below t zero s = ended done s
commands_below t (suc c) s = then_command t c (commands_below t c s).ending (commands_below t c s).state

unfoldable pub run : Words → Words → Words → ℕ → Run
run t inputs registers len = commands_below t (count t commands) (begin t inputs registers len)

-- "Every run answers its ending and U"; no room and stuck "add the command number".
pub data Answer : Type 0 where
  refusal : (number at : ℕ) → Answer
  ending : Ending → (unused : ℕ) → Answer

pub record Result : Type 0 where
  pub answer : Answer
  pub values : Words

abbrev pub result_of : Run → Result
result_of r = record { answer = ending r.ending r.state.unused; values = r.state.values }

-- "Refused: the run's numbers, with 10 speaking of one list." That the lists differ in length can't be, and its own length is asked.
unfoldable pub call_fault : Words → Words → Words → ℕ → Verdict
call_fault t inputs registers len = Check.call_fault t inputs registers len len len

-- "A refusal answers number and place and writes nowhere."
abbrev pub call_by : Verdict → Words → Words → Words → Words → Result
call_by passes t inputs registers values = result_of (run t inputs registers (length values))
call_by (refused n p) t inputs registers values = record { answer = refusal n p; values = values }

unfoldable pub call : Words → Words → Words → Words → Result
call t inputs registers values = call_by (call_fault t inputs registers (length values)) t inputs registers values
