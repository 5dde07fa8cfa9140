-- Demand 3 of every begun run.
use Prim.Native.Nat.{ℕ, zero, suc, ◌≤◌, ◌<◌}
use mathlib.Core.Bool.{◌&&◌}
use mathlib.Core.Path.{◌≡◌, refl, ◌∙◌}
use native.Mathlib.Omega.{arith}
use borrow.Author.Tests.{ltb-true, leb-true, eqb-true}
use lib.Dec.{leb, ltb, eqb}
use lib.ListN.{length, replicate, length-replicate}
use lib.Seq.{length-sets}
use Rattle.semantics.specs.Words.{Words, word}
use Rattle.semantics.specs.Table.{variables, commands, count}
use Rattle.semantics.specs.Registers.{register_count}
use Rattle.semantics.specs.Check.{passes, require, check, lengths_fit, arguments_fault, call_fault}
use Rattle.semantics.specs.Rules.{State, Outcome}
use Rattle.semantics.specs.Run.{cleared, begin, command, Ending, done, abort, out_of_memory, stuck, Run, ended, after_command, then_command, commands_below, run}
use Rattle.semantics.specs.Safety.{absent, SpatiallySafe}
use Rattle.semantics.specs.Log.{LogBelievable}
use Rattle.semantics.proofs.Tests.{and_true}
use Rattle.semantics.proofs.Passed.{or_else_passes, require_passes, Passed, passed}
use Rattle.semantics.proofs.Blocks.{none, Asks, no_checks, none_allowed, blocks_apart}
use Rattle.semantics.proofs.Invariant.{Inv, Later, now, later_trans, Good, good_ok, good_fails, good_no_room}
use Rattle.semantics.proofs.Steps.{Any, assign_good}
use Rattle.semantics.proofs.Registers.{Listed, listed, sets_other, registers_inv}
use Rattle.semantics.proofs.Reading.{reads_are_logged, begin_unwritten}
use Rattle.semantics.proofs.Trees.{command_ok}

-- ---- a begun run's first state

-- What lists and inputs that aren't refused tell.
pub record Lent (t inputs : Words) (values bases ends : ℕ) : Type 0 where
  pub same_bases : values ≡ bases
  pub same_ends : values ≡ ends
  pub room : count t variables < values
  pub most : values ≤ 65536
  pub inputs_length : length inputs ≡ count t variables

pub lent : (t inputs : Words) (values bases ends : ℕ) → arguments_fault t inputs values bases ends ≡ passes → Lent t inputs values bases ends
unfolding arguments_fault lengths_fit
lent t inputs values bases ends e =
    let p0 = or_else_passes (require (lengths_fit t values bases ends) 10 0) _ e in
    let p1 = or_else_passes (require (eqb (length inputs) (count t variables)) 11 (count t variables)) _ p0.1 in
    let l0 = and_true (eqb values bases && eqb values ends && ltb (count t variables) values) (leb values 65536) (require_passes (lengths_fit t values bases ends) 10 0 p0.0) in
    let l1 = and_true (eqb values bases && eqb values ends) (ltb (count t variables) values) l0.0 in
    let l2 = and_true (eqb values bases) (eqb values ends) l1.0 in
    record {
      same_bases = eqb-true values bases l2.0;
      same_ends = eqb-true values ends l2.1;
      room = ltb-true (count t variables) values l1.1;
      most = leb-true values 65536 l0.1;
      inputs_length = eqb-true (length inputs) (count t variables) (require_passes (eqb (length inputs) (count t variables)) 11 (count t variables) p1.0);
    }

-- What a call that isn't refused tells.
pub record Begun (t inputs registers : Words) (values bases ends : ℕ) : Type 0 where
  pub table : Passed t
  pub lists : Lent t inputs values bases ends
  pub blocks : Listed t registers values

pub begun : (t inputs registers : Words) (values bases ends : ℕ) → call_fault t inputs registers values bases ends ≡ passes → Begun t inputs registers values bases ends
unfolding call_fault
begun t inputs registers values bases ends e =
    let p0 = or_else_passes (check t) _ e in
    let p1 = or_else_passes (arguments_fault t inputs values bases ends) _ p0.1 in
    record { table = passed t p0.0; lists = lent t inputs values bases ends p1.0; blocks = listed t registers values p1.1 }

-- Every word of a list of zeros is 0, also past its end.
word_of_zeros : (len w : ℕ) → word (replicate len 0) w ≡ 0
word_of_zeros zero w = refl
word_of_zeros (suc n) zero = refl
word_of_zeros (suc n) (suc w) = word_of_zeros n w

pub cleared_inv : {t inputs : Words} {len bases ends : ℕ} → Lent t inputs len bases ends → Inv (count t variables) len (cleared t inputs len)
unfolding cleared
cleared_inv {t} {inputs} {len} b =
    record {
      values_length = length-sets (replicate len 0) 1 inputs ∙ length-replicate len 0;
      bases_length = length-replicate len 0;
      ends_length = length-replicate len 0;
      low = omega arith;
      high = omega (arith, b.room);
      blocks = none;
      sound = λ w. absent (word_of_zeros len w) (word_of_zeros len w);
      allowed = none_allowed;
      asks = no_checks Asks;
      clear = λ w h. (
        sets_other (replicate len 0) 1 inputs w (omega (arith, b.inputs_length)) ∙ word_of_zeros len w,
        word_of_zeros len w,
        word_of_zeros len w,
      );
    }

pub begin_inv : {t inputs registers : Words} {len bases ends : ℕ} → Begun t inputs registers len bases ends → Inv (count t variables) len (begin t inputs registers len)
unfolding begin cleared
begin_inv {registers = l} b = registers_inv b.blocks refl (cleared_inv b.lists) (register_count l) (omega arith)

-- ---- the commands

-- A run from state s₀ that has a rule for each step so far, with the invariant in its state.
pub record Running (vars len : ℕ) (s₀ : State) (r : Run) : Type 0 where
  pub has_rules : (c : ℕ) → r.ending ≡ stuck c → ⊥
  pub inv : Inv vars len r.state
  pub past : Later s₀ r.state

not_stuck_done : (c : ℕ) → done ≡ stuck c → ⊥
not_stuck_done c e = let z : ◌≡◌ {A = ℕ} 0 1 = cc in omega arith

after_command_ok : {vars len : ℕ} {s₀ s : State} (c : ℕ) {o : Outcome (Unit {0})} → Later s₀ s → Good vars len s Any o → Running vars len s₀ (after_command c o)
after_command_ok c past (good_ok inv l x) = record { has_rules = not_stuck_done; inv = inv; past = later_trans past l }
after_command_ok c past (good_fails inv l sound) =
    record { has_rules = λ d e. let z : ◌≡◌ {A = ℕ} 0 1 = cc in omega arith; inv = inv; past = later_trans past l }
after_command_ok c past (good_no_room inv l) =
    record { has_rules = λ d e. let z : ◌≡◌ {A = ℕ} 0 1 = cc in omega arith; inv = inv; past = later_trans past l }

pub commands_ok : {t : Words} {len : ℕ} → Passed t → (s : State) → Inv (count t variables) len s → (c : ℕ) → c ≤ count t commands
    → Running (count t variables) len s (commands_below t c s)
unfolding commands_below command
commands_ok table s inv zero h = record { has_rules = not_stuck_done; inv = inv; past = now }
commands_ok {t} {len} table s inv (suc c) h = go (commands_below t c s).ending (commands_below t c s).state (commands_ok table s inv c (omega arith))
  where
    go : (e : Ending) (s' : State) → Running (count t variables) len s (ended e s') → Running (count t variables) len s (then_command t c e s')
    go done s' r = after_command_ok c r.past (assign_good _ (command_ok table c h).place_tree (command_ok table c h).value_tree s' r.inv)
    go (abort d) s' r = r
    go (out_of_memory d) s' r = r
    go (stuck d) s' r = r

-- ---- the theorems

pub begun_runs : {t inputs registers : Words} {len bases ends : ℕ} → Begun t inputs registers len bases ends → Running (count t variables) len (begin t inputs registers len) (run t inputs registers len)
unfolding run
begun_runs {t} {inputs} {registers} {len} b = commands_ok b.table (begin t inputs registers len) (begin_inv b) (count t commands) (omega arith)

-- Demand 3, of every call.
pub spatial_safety : (t inputs registers values bases ends : Words) → SpatiallySafe t inputs registers values bases ends
spatial_safety t inputs registers values bases ends e =
    let r = begun_runs (begun t inputs registers (length values) (length bases) (length ends) e) in
    record {
      has_rules = r.has_rules;
      accesses = r.inv.allowed;
      bounds = λ w h. r.inv.sound w;
      lengths = (r.inv.values_length, r.inv.bases_length, r.inv.ends_length);
    }

-- The log of every begun run has every word written and every word that sways the run, and its blocks lie apart.
pub log_is_believable : (t inputs registers values bases ends : Words) → LogBelievable t inputs registers values bases ends
unfolding run
log_is_believable t inputs registers values bases ends e =
    let s = begin t inputs registers (length values) in
    let r = begun_runs (begun t inputs registers (length values) (length bases) (length ends) e) in
    record {
      blocks = blocks_apart r.inv.blocks r.inv.high;
      writes = r.past.kept;
      reads = λ s' alike. reads_are_logged t (count t commands) s s' (begin_unwritten t inputs registers (length values)) alike;
    }

-- "The new words are clear": at every ending of a begun run, so are the words from U on.
pub unused_words_are_clear : (t inputs registers values bases ends : Words)
    → call_fault t inputs registers (length values) (length bases) (length ends) ≡ passes
    → (w : ℕ) → (run t inputs registers (length values)).state.unused ≤ w
    → (word (run t inputs registers (length values)).state.values w ≡ 0)
    × (word (run t inputs registers (length values)).state.bases w ≡ 0)
    × (word (run t inputs registers (length values)).state.ends w ≡ 0)
unused_words_are_clear t inputs registers values bases ends e w h =
    (begun_runs (begun t inputs registers (length values) (length bases) (length ends) e)).inv.clear w h

-- U never passes the end of the memory.
pub unused_fits : (t inputs registers values bases ends : Words)
    → call_fault t inputs registers (length values) (length bases) (length ends) ≡ passes
    → (run t inputs registers (length values)).state.unused ≤ length values
unused_fits t inputs registers values bases ends e =
    (begun_runs (begun t inputs registers (length values) (length bases) (length ends) e)).inv.high
