-- The commands in turn: what the loop has done is what the rules say.
use Prim.Native.Nat.{ℕ, zero, suc, ◌+◌, ◌*◌, ◌≤◌, ◌<◌}
use mathlib.Core.Path.{◌≡◌, refl, ◌∙◌}
use native.Mathlib.Omega.{arith}
use native.Mathlib.Numerals.{add-one}
use native.Mathlib.Decide.{ℕ_discrete}
use lib.ListN.{length}
use Rattle.std.specs.Prelude.{Result, Ok, Err, ⊤}
use Rattle.semantics.specs.Words.{Words, word}
use Rattle.semantics.specs.Table.{variables, commands, count}
use Rattle.semantics.specs.Bare.{State, command, Ending, done, out_of_memory, stuck, ended, after_command, then_command, commands_below, ending}
use Rattle.layout.specs.declared.Section.{Section}
use Rattle.lookups.specs.declared.Lists.{Lists}
use Rattle.lookups.proofs.Commands.{place_named, value_named, nodes_named}
use Rattle.bare_steps.specs.declared.Halt.{Halt}
use Rattle.bare_steps.specs.declared.Halt.TheVariants as halt
use Rattle.bare_steps.specs.Answers.{outcome_of}
use Rattle.bare_commands.specs.Command.{CommandReady, CommandAnswered}
use Rattle.bare_commands.specs.Execution.{ended_of, Executable, Executed}
use Rattle.bare_commands.specs.declared.Ended.{Ended}
use Rattle.bare_commands.specs.declared.Ended.TheVariants.{Done, NoRoom, Stuck}

-- The commands below c, run from s₀, are done, and leave this state, whose memory is as long.
pub record SoFar (t : Words) (s₀ s : State) (c : ℕ) : Type 0 where
  pub runs : commands_below t c s₀ ≡ ended done s
  pub long : length s.values ≡ length s₀.values

pub none_yet : (t : Words) (s : State) → SoFar t s s 0
unfolding commands_below
none_yet t s = record { runs = refl; long = refl }

-- A run that has ended stays so.
then_ended : (t : Words) (c : ℕ) (e : Ending) (s : State) → (e ≡ done → ⊥) → then_command t c e s ≡ ended e s
then_ended t c done s h = absurd (h refl)
then_ended t c (out_of_memory d) s h = refl
then_ended t c (stuck d) s h = refl

ended_stays : (t : Words) (s : State) (c n : ℕ) (e : Ending) (s' : State) → commands_below t c s ≡ ended e s' → (e ≡ done → ⊥) → c ≤ n → commands_below t n s ≡ ended e s'
unfolding commands_below
ended_stays t s c zero e s' h other less = rw c_zero at h
  where
    c_zero : c ≡ 0
    c_zero = omega arith
ended_stays t s c (suc n) e s' h other less = go (ℕ_discrete c (suc n)) (ended_stays t s c n e s' h other)
  where
    go : Dec (c ≡ suc n) → (c ≤ n → commands_below t n s ≡ ended e s') → then_command t n (commands_below t n s).ending (commands_below t n s).state ≡ ended e s'
    go (yes q) below = rw q at h
    go (no q) below = rw (below (omega arith)) (then_ended t n e s' other)

-- A run that ended is what was answered.
executed : (t : Words) (s₀ : State) {s : State} {m : Words} (e : Ending) (r : Ended) → m ≡ s.values → ended_of r ≡ ending e s.unused
    → commands_below t (count t commands) s₀ ≡ ended e s → Executed t s₀.values s₀.unused r m
executed t s₀ e r same h runs = record { is = rw (runs, h, same) }

-- All commands are done.
pub all_done : {t : Words} {s₀ s : State} {c : ℕ} {m : Words} → SoFar t s₀ s c → c ≡ count t commands → m ≡ s.values → Executed t s₀.values s₀.unused (Done s.unused) m
all_done {t} {s₀} far h same = executed t s₀ done (Done _) same refl (rw h at far.runs)

module _ {t : Words} {l : Lists} {k : Section} {s₀ s : State} {c : ℕ} (x : Executable t l k s₀.values) (far : SoFar t s₀ s c) (less : c < k.count) (e : Words) (same : (j : ℕ) → j < 2 → word e j ≡ word t (k.at + 2 * c + j)) where
  pub command_ready : CommandReady l s (word e 0) (word e 1)
  command_ready =
      record {
        table = t;
        state = record { vars = count t variables; room = omega (arith, x.room, far.long); most = omega (arith, x.most, far.long) };
        nodes_are = nodes_named x.stands c e same x.lists_of less;
      }

  module _ {r : Result ⊤ Halt} {s' : State} (answer : CommandAnswered l s (word e 0) (word e 1) r s') where
    outcome : command t c s ≡ outcome_of r s'
    unfolding command
    outcome =
        rw (← place_named x.stands c e same, ← value_named x.stands c e same)
        (answer.meets t (count t variables) (omega (arith, x.room, far.long)) (nodes_named x.stands c e same x.lists_of less))

    -- The run up to this command is what the command's outcome ends it as.
    this_command : commands_below t (suc c) s₀ ≡ after_command c (outcome_of r s')
    unfolding commands_below
    this_command = rw (far.runs, outcome)

    pub command_goes_on : r ≡ Ok tt → SoFar t s₀ s' (c + 1)
    command_goes_on is = record { runs = rw (add-one c) (rw is at this_command); long = answer.long ∙ far.long }

    ended_here : {m : Words} (e : Ending) (a : Ended) → m ≡ s'.values → (e ≡ done → ⊥) → ended_of a ≡ ending e s'.unused → after_command c (outcome_of r s') ≡ ended e s' → Executed t s₀.values s₀.unused a m
    ended_here e a same other told ends =
        executed t s₀ e a same told (ended_stays t s₀ (suc c) (count t commands) e s' (this_command ∙ ends) other (omega (arith, x.stands.total)))

    pub command_full : {m : Words} → r ≡ Err halt.NoRoom → m ≡ s'.values → Executed t s₀.values s₀.unused (NoRoom c s'.unused) m
    command_full is same = ended_here (out_of_memory c) (NoRoom c s'.unused) same (λ q. let z : ◌≡◌ {A = ℕ} 0 1 = cc in omega arith) refl (rw is)

    pub command_stuck : {m : Words} → r ≡ Err halt.Stuck → m ≡ s'.values → Executed t s₀.values s₀.unused (Stuck c s'.unused) m
    command_stuck is same = ended_here (stuck c) (Stuck c s'.unused) same (λ q. let z : ◌≡◌ {A = ℕ} 0 1 = cc in omega arith) refl (rw is)
