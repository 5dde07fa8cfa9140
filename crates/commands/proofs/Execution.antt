-- The commands in turn: what the loop has done is what the rules say.
use Prim.Native.Nat.{ℕ, zero, suc, ◌+◌, ◌*◌, ◌≤◌, ◌<◌}
use mathlib.Core.Path.{◌≡◌, refl, sym, ◌∙◌}
use mathlib.Core.Logic.{inr}
use mathlib.Core.List.{List}
use native.Mathlib.Omega.{arith}
use native.Mathlib.Numerals.{add-one}
use native.Mathlib.Decide.{ℕ_discrete}
use lib.ListN.{length}
use Rattle.std.specs.Prelude.{Result, ⊤}
use Rattle.semantics.specs.Words.{Words, word}
use Rattle.semantics.specs.Table.{edition, variables, commands, count, node_type}
use Rattle.semantics.specs.Check.{command_place, command_value}
use Rattle.semantics.specs.Syntax.{moves_bounds, place_of, value_of}
use Rattle.semantics.specs.Rules.{Event, State, Outcome, assign}
use Rattle.semantics.specs.Run as semantics
use Rattle.semantics.specs.Run.{command, done, abort, out_of_memory, stuck, ended, after_command, then_command, commands_below, ending}
use Rattle.semantics.specs.Explain.{block_start}
use Rattle.semantics.proofs.Invariant.{Inv}
use Rattle.semantics.proofs.Passed.{Passed}
use Rattle.semantics.proofs.Trees.{command_ok}
use Rattle.semantics.proofs.Safety.{commands_ok}
use Rattle.semantics.proofs.Starts.{block_start_none}
use Rattle.evaluator.proofs.Outcomes.{own_length}
use Rattle.steps.specs.Answers.{failed, state_of, Watches, waiting, seen, Stands, Answers, answers_ok, answers_failed, answers_full}
use Rattle.steps.specs.Answers as steps
use Rattle.steps.specs.declared.FailedCheck.{FailedCheck}
use Rattle.steps.specs.declared.Halt.{Halt}
use Rattle.steps.specs.declared.Memory.{Memory}
use Rattle.steps.specs.declared.Slots.{Slots}
use Rattle.layout.specs.declared.Section.{Section}
use Rattle.lookups.specs.declared.Lists.{Lists}
use Rattle.lookups.specs.Nodes.{CommandNodes}
use Rattle.lookups.proofs.Commands.{place_named, value_named, nodes_named}
use Rattle.commands.specs.Command.{CommandReady, CommandAnswered, number_of, DoneIs}
use Rattle.commands.specs.Execution.{ending_of, Content, lists, state_with, Starts, Executable, Tells, tells_done, tells_abort, tells_no_room, Ends, Executed}
use Rattle.commands.specs.declared.Ending.{Ending}
use Rattle.commands.specs.declared.Ending.TheVariants.{Done, Abort, NoRoom}

-- The commands below c, run from s, are done and leave these lists and this U.
pub record Reached (t : Words) (w : ℕ) (st : State) (m : Memory) (s : Slots) (c : ℕ) : Type 0 where
  pub log : List Event
  pub runs : commands_below t c st ≡ ended done (state_of m s.unused log)
  pub watches : Watches w (length m.values.now) s log

-- The same of the state that a run begins with, whatever its log.
pub record SoFar (t : Words) (m₀ : Content) (u₀ w : ℕ) (m : Memory) (s : Slots) (c : ℕ) : Type 0 where
  pub reached : (log : List Event) → Starts t m₀ u₀ log → Reached t w (state_with m₀ u₀ log) m s c

-- The memory holds this.
pub record Holds (m : Memory) (o : Content) : Type 0 where
  pub values : o.values ≡ m.values.now
  pub bases : o.bases ≡ m.bases.now
  pub ends : o.ends ≡ m.ends.now

-- The slots at first: U, and the word that is watched for.
pub none_yet : (t : Words) {m : Memory} {s : Slots} → s.unused ≤ s.limit → s.limit ≤ length m.values.now → s.found ≡ 0 → SoFar t (lists m.values.now m.bases.now m.ends.now) s.unused s.limit m s 0
unfolding commands_below
none_yet t {s = s} from upto none =
    record { reached = λ log inv. record { log = log; runs = refl; watches = waiting refl from upto (none ∙ sym (block_start_none inv.blocks s.limit (inr from))) } }

-- A run that has ended stays so.
then_ended : (t : Words) (c : ℕ) (e : semantics.Ending) (s : State) → (e ≡ done → ⊥) → then_command t c e s ≡ ended e s
then_ended t c done s h = absurd (h refl)
then_ended t c (abort d) s h = refl
then_ended t c (out_of_memory d) s h = refl
then_ended t c (stuck d) s h = refl

ended_stays : (t : Words) (s : State) (c n : ℕ) (e : semantics.Ending) (s' : State) → commands_below t c s ≡ ended e s' → (e ≡ done → ⊥) → c ≤ n → commands_below t n s ≡ ended e s'
unfolding commands_below
ended_stays t s c zero e s' h other less = rw (c_zero) at h
  where
    c_zero : c ≡ 0
    c_zero = omega arith
ended_stays t s c (suc n) e s' h other less = go (ℕ_discrete c (suc n)) (ended_stays t s c n e s' h other)
  where
    go : Dec (c ≡ suc n) → (c ≤ n → commands_below t n s ≡ ended e s') → then_command t n (commands_below t n s).ending (commands_below t n s).state ≡ ended e s'
    go (yes q) below = rw q at h
    go (no q) below = rw (below (omega arith)) (then_ended t n e s' other)

-- A run that ended is what was answered.
executed : (t : Words) (w : ℕ) (s : State) {m : Memory} {o : Content} {u : ℕ} (e : semantics.Ending) (log : List Event) (r : Ending FailedCheck) → Holds m o → ending_of r ≡ ending e u → Tells t w s (ended e (state_of m u log)) r
    → commands_below t (count t commands) s ≡ ended e (state_of m u log) → Ends t w s (commands_below t (count t commands) s) r o
executed t w s e log r left h told runs = rw runs (record { answer = h; values = left.values; bases = left.bases; ends = left.ends; tells = told })

-- What was found is told.
watch_found : {w len : ℕ} {s : Slots} {log : List Event} → Watches w len s log → s.found ≡ block_start log w
watch_found (waiting l u fits f) = f
watch_found (seen l u f) = f

-- All commands are done.
pub all_done : {t : Words} {m₀ : Content} {u₀ w : ℕ} {m : Memory} {o : Content} {s : Slots} {c : ℕ} → SoFar t m₀ u₀ w m s c → c ≡ count t commands → Holds m o
    → Executed t m₀ u₀ w (Done s.unused) o
all_done far h left = record { meets = λ log inv. let here = far.reached log inv in executed _ _ _ done here.log (Done _) left refl tells_done (rw h at here.runs) }

module _ {t : Words} {l : Lists} {m₀ : Content} {k : Section} {u₀ w : ℕ} (x : Executable t l k u₀ w m₀) where
  ok : Passed t
  ok = x.lists_of.passed

  module _ {m : Memory} (s : Slots) {c : ℕ} (far : SoFar t m₀ u₀ w m s c) (less : c < k.count) where
    -- The state that command c is run from, after a begin with this log.
    module _ {log : List Event} (inv : Starts t m₀ u₀ log) where
      abbrev log_here : List Event
      log_here = (far.reached log inv).log

      state_inv : Inv (count t variables) (length m₀.values) (state_of m s.unused log_here)
      state_inv = (rw (far.reached log inv).runs at (commands_ok ok (state_with m₀ u₀ log) inv c (omega (arith, x.stands.total)))).inv

      stands_here : Stands (count t variables) w m s log_here
      stands_here = record { inv = own_length state_inv; watches = (far.reached log inv).watches }

    module _ (e : Words) (same : (j : ℕ) → j < 2 → word e j ≡ word t (k.at + 2 * c + j)) where
      place_is : word e 0 ≡ command_place t c
      place_is = place_named x.stands c e same

      value_is : word e 1 ≡ command_value t c
      value_is = value_named x.stands c e same

      command_nodes : CommandNodes t l (word e 0) (word e 1) (count t variables)
      command_nodes = nodes_named x.stands c e same x.lists_of less

      pub command_ready : CommandReady l m (word e 0) (word e 1) s
      command_ready =
          record {
            table = t;
            state = record { vars = count t variables; watched = w; log = log_here x.inv; stands = stands_here x.inv; most = omega (arith, (state_inv x.inv).values_length, x.most) };
            nodes_are = command_nodes;
          }

      module _ {r : Result ⊤ Halt} {m' : Memory} {s' : Slots} (answer : CommandAnswered l m (word e 0) (word e 1) s r m' s') where
        module _ {log : List Event} (inv : Starts t m₀ u₀ log) where
          -- The outcome of command c.
          abbrev result : Outcome (Unit {0})
          result = assign (moves_bounds (edition t) (node_type t (word e 1))) (place_of t (word e 0)) (value_of t (word e 1)) (state_of m s.unused (log_here inv))

          this_command : commands_below t (suc c) (state_with m₀ u₀ log) ≡ after_command c result
          unfolding commands_below command
          this_command = rw ((far.reached log inv).runs, (command_ok ok c (omega (arith, x.stands.total))).same_type, place_is, value_is)

          -- What was answered for it.
          outcome : Answers DoneIs w m' (number_of r) s' result
          outcome = answer.meets t (count t variables) w (log_here inv) (stands_here inv) command_nodes

          -- It is the rules' command, from the state that those before it left.
          same_command : command t c (commands_below t c (state_with m₀ u₀ log)).state ≡ result
          unfolding command
          same_command = rw ((far.reached log inv).runs, (command_ok ok c (omega (arith, x.stands.total))).same_type, place_is, value_is)

          -- The run has ended at this command.
          ended_here : {o : Content} → Holds m' o → (e : semantics.Ending) (a : Ending FailedCheck) (log' : List Event) → (e ≡ done → ⊥) → ending_of a ≡ ending e s'.unused → Tells t w (state_with m₀ u₀ log) (ended e (state_of m' s'.unused log')) a
              → commands_below t (suc c) (state_with m₀ u₀ log) ≡ ended e (state_of m' s'.unused log')
              → Ends t w (state_with m₀ u₀ log) (commands_below t (count t commands) (state_with m₀ u₀ log)) a o
          ended_here left e a log' other h told runs = executed t w _ e log' a left h told (ended_stays t _ (suc c) (count t commands) e _ runs other (omega (arith, x.stands.total)))

        pub command_goes_on : number_of r < failed → SoFar t m₀ u₀ w m' s' (c + 1)
        command_goes_on under = record { reached = λ log inv. go log (outcome inv) (this_command inv) }
          where
            go : (log : List Event) {y : Outcome (Unit {0})} → Answers DoneIs w m' (number_of r) s' y
                → commands_below t (suc c) (state_with m₀ u₀ log) ≡ after_command c y → Reached t w (state_with m₀ u₀ log) m' s' (c + 1)
            go log (answers_ok z log' i small watch) runs = record { log = log'; runs = rw (add-one c) runs; watches = watch }
            go log (answers_failed log' i watch) runs = absurd (omega arith)
            go log (answers_full log' i) runs = absurd (omega arith)

        pub command_aborts : {told : FailedCheck} {o : Content} → number_of r ≡ failed → steps.Tells s' told → Holds m' o → Executed t m₀ u₀ w (Abort c s'.unused told) o
        command_aborts {told} {o} h tells left = record { meets = λ log inv. go inv (outcome inv) (this_command inv) (same_command inv) }
          where
            go : {log : List Event} (inv : Starts t m₀ u₀ log) {y : Outcome (Unit {0})} → Answers DoneIs w m' (number_of r) s' y
                → commands_below t (suc c) (state_with m₀ u₀ log) ≡ after_command c y → command t c (commands_below t c (state_with m₀ u₀ log)).state ≡ y
                → Ends t w (state_with m₀ u₀ log) (commands_below t (count t commands) (state_with m₀ u₀ log)) (Abort c s'.unused told) o
            go inv (answers_ok z log' i small watch) runs same = absurd (omega arith)
            go inv (answers_failed log' i watch) runs same =
                ended_here inv left (abort c) (Abort c s'.unused told) log' (λ q. let z : ◌≡◌ {A = ℕ} 0 1 = cc in omega arith) refl
                (tells_abort (rw tells.check same) (tells.block ∙ watch_found watch)) runs
            go inv (answers_full log' i) runs same = absurd (omega arith)

        pub command_full : {o : Content} → failed < number_of r → Holds m' o → Executed t m₀ u₀ w (NoRoom c s'.unused) o
        command_full {o} h left = record { meets = λ log inv. go inv (outcome inv) (this_command inv) }
          where
            go : {log : List Event} (inv : Starts t m₀ u₀ log) {y : Outcome (Unit {0})} → Answers DoneIs w m' (number_of r) s' y
                → commands_below t (suc c) (state_with m₀ u₀ log) ≡ after_command c y
                → Ends t w (state_with m₀ u₀ log) (commands_below t (count t commands) (state_with m₀ u₀ log)) (NoRoom c s'.unused) o
            go inv (answers_ok z log' i small watch) runs = absurd (omega arith)
            go inv (answers_failed log' i watch) runs = absurd (omega arith)
            go inv (answers_full log' i) runs =
                ended_here inv left (out_of_memory c) (NoRoom c s'.unused) log' (λ q. let z : ◌≡◌ {A = ℕ} 0 1 = cc in omega arith) refl tells_no_room runs
