-- Every check that a step adds to the log and that asks for a word is passed, but for one by which it fails: that one is the newest event. No
-- invariant is needed.
use Rattle.std.specs.Prelude.{if◌then◌else◌}
use Prim.Native.Nat.{ℕ, zero, suc, ◌+◌, ◌<◌}
use mathlib.Core.Bool.{Bool, true, false}
use mathlib.Core.Path.{◌≡◌, refl}
use mathlib.Core.List.Memᴰ
use mathlib.Core.List.{List, ◌∷◌}
use native.Mathlib.Omega.{arith}
use lib.Dec.{leb, eqb}
use lib.ListN.{length}
use Rattle.semantics.specs.Words.{Words, all_below}
use Rattle.semantics.specs.Registers.{register_count, register_variable, register_length, register_words}
use Rattle.semantics.specs.Table.{edition, node_type}
use Rattle.semantics.specs.Check.{command_place, command_value}
use Rattle.semantics.specs.Syntax.{moves_bounds, place_of, value_of, Place, Variable, Deref, Field, NoPlace, Value, Number, Sum, Read, Address, Cast, Malloc, Copy, NoValue}
use Rattle.semantics.specs.Rules.{Datum, unbounded, block_pointer, Location, BoundsCheck, Event, loaded, tested, State, noted, Outcome, ok, fails, no_room, no_rule, bind, checked, deref_step, field_step, touchable, read_step, cast_step, with_block, malloc_step, move_step, copy_step, place_at, value_at, assign_step, assign}
use Rattle.semantics.specs.Run.{cleared, with_register, registers_below, begin, command, Ending, done, abort, out_of_memory, stuck, ended, after_command, then_command, commands_below}
use Rattle.semantics.specs.Explain.{Passed, AllPassed, FirstNotPassed}
use Rattle.semantics.proofs.Tests.{CheckMade, check_passed, check_missed, check_made}
use Rattle.semantics.proofs.Blocks.{AllChecks, Asks, no_checks, one_check, one_load, one_store, one_block, each_load, each_store}
use Rattle.semantics.proofs.Places.{log_kept}
use Rattle.semantics.proofs.Fails.{ok_not, no_room_not, no_rule_not}

-- ---- checks that are passed if they ask for a word

abbrev Met : BoundsCheck → Type 0
Met x = Asks x → Passed x

abbrev pub AllMet : List Event → Type 0
AllMet = AllChecks Met

-- Where all of them ask for one, all are passed.
pub all_passed : {log : List Event} → AllChecks Asks log → AllMet log → AllPassed log
all_passed asks met x h = met x h (asks x h)

-- ---- outcomes

-- The newest event is check x, which is not passed; all before it are met, if all of the first log are.
pub record StoppedBy (x : BoundsCheck) (first log : List Event) : Type 0 where
  pub earlier : List Event
  pub newest : log ≡ tested x ∷ earlier
  pub not_passed : Passed x → ⊥
  pub before : AllMet first → AllMet earlier

-- An outcome of a step that began with this log.
pub data Tested (first : List Event) {A : Type 0} : Outcome A → Type 0 where
  tested_ok : {a : A} {s : State} → (AllMet first → AllMet s.log) → Tested first (ok a s)
  tested_fails : {x : BoundsCheck} {s : State} → StoppedBy x first s.log → Tested first (fails x s)
  tested_no_room : {s : State} → (AllMet first → AllMet s.log) → Tested first (no_room s)
  tested_no_rule : {s : State} → (AllMet first → AllMet s.log) → Tested first (no_rule s)

tested_from : {first log : List Event} {A : Type 0} {m : Outcome A} → (AllMet first → AllMet log) → Tested log m → Tested first m
tested_from f (tested_ok g) = tested_ok (λ h. g (f h))
tested_from f (tested_fails c) =
    tested_fails (record { earlier = c.earlier; newest = c.newest; not_passed = c.not_passed; before = λ h. c.before (f h) })
tested_from f (tested_no_room g) = tested_no_room (λ h. g (f h))
tested_from f (tested_no_rule g) = tested_no_rule (λ h. g (f h))

bind_tested : {first : List Event} {A B : Type 0} {m : Outcome A} {f : A → State → Outcome B} → Tested first m
    → ((a : A) (s : State) → Tested s.log (f a s)) → Tested first (bind m f)
bind_tested (tested_ok h) k = tested_from h (k _ _)
bind_tested (tested_fails h) k = tested_fails h
bind_tested (tested_no_room h) k = tested_no_room h
bind_tested (tested_no_rule h) k = tested_no_rule h

-- ---- steps

checked_tested : (n : ℕ) (p : Datum) (w k : ℕ) (l : Location) (s : State) → Tested s.log (checked n p w k l s)
checked_tested n p w k l s = go (check_made n p w k l s)
  where
    go : {o : Outcome Location} → CheckMade n p w k l s o → Tested s.log o
    go (check_passed inside) = tested_ok (one_check (λ some. record { from = (inside some).0; upto = (inside some).1 }))
    go (check_missed miss) = tested_fails (record { earlier = s.log; newest = refl; not_passed = λ x. miss x.from x.upto; before = λ h. h })

touched : {A : Type 0} (b : Bool) (a : A) (s s' : State) → (AllMet s.log → AllMet s'.log) → Tested s.log (if b then ok a s' else no_rule s)
touched true a s s' h = tested_ok h
touched false a s s' h = tested_no_rule (λ k. k)

cast_tested : (keeps : Bool) (p : Datum) (s : State) → Tested s.log (cast_step keeps p s)
cast_tested true p s = tested_ok (λ h. h)
cast_tested false p s = tested_ok (λ h. h)

malloc_tested : (x : Datum) (s : State) → Tested s.log (malloc_step x s)
unfolding malloc_step
malloc_tested x s = go (eqb x.value 0) (leb (s.unused + x.value) (length s.values))
  where
    go : (none fits : Bool)
        → Tested s.log (if none then ok (unbounded 0) s else if fits then ok (block_pointer s.unused x.value) (with_block x.value s) else no_room s)
    go true fits = tested_ok (λ h. h)
    go false true = tested_ok one_block
    go false false = tested_no_room (λ h. h)

copy_tested : (n k : ℕ) (p q : Datum) (s : State) → Tested s.log (copy_step n k p q s)
unfolding copy_step move_step
copy_tested n k p q s =
    bind_tested (checked_tested n p p.value k _ s)
    (λ a s'. bind_tested (checked_tested n q q.value k _ s') (λ b s''. touched (all_below k _) _ s'' _ (λ h. each_store k (λ i. a.at + i) a.access (each_load k (λ i. b.at + i) b.access h))))

mutual
  unfolding place_at deref_step field_step read_step

  place_tested : (p : Place) (s : State) → Tested s.log (place_at p s)
  place_tested (Variable n i) s = tested_ok (λ h. h)
  place_tested (Deref n v) s = bind_tested (value_tested v s) (λ p. checked_tested n p p.value 1 _)
  place_tested (Field n offset k v) s = bind_tested (value_tested v s) (λ p. checked_tested n p (p.value + offset) k _)
  place_tested NoPlace s = tested_no_rule (λ h. h)

  value_tested : (v : Value) (s : State) → Tested s.log (value_at v s)
  value_tested (Number n x) s = tested_ok (λ h. h)
  value_tested (Sum n either step a b) s = bind_tested (value_tested a s) (λ p s'. bind_tested (value_tested b s') (λ x s''. tested_ok (λ h. h)))
  value_tested (Read n pointer p) s =
      bind_tested (place_tested p s) (λ l s'. touched (touchable s' l.at) _ s' (noted (loaded l.at l.access) s') one_load)
  value_tested (Address n p) s = bind_tested (place_tested p s) (λ l s'. tested_ok (λ h. h))
  value_tested (Cast n keeps v) s = bind_tested (value_tested v s) (cast_tested keeps)
  value_tested (Malloc n v) s = bind_tested (value_tested v s) malloc_tested
  value_tested (Copy n k a b) s = bind_tested (value_tested a s) (λ p s'. bind_tested (value_tested b s') (copy_tested n k p))
  value_tested NoValue s = tested_no_rule (λ h. h)

pub command_tested : (t : Words) (c : ℕ) (s : State) → Tested s.log (command t c s)
unfolding command assign assign_step
command_tested t c s =
    let bounds = moves_bounds (edition t) (node_type t (command_place t c)) in
    bind_tested (place_tested (place_of t (command_place t c)) s)
    (λ l s'.
    bind_tested (value_tested (value_of t (command_value t c)) s')
    (λ x s''. touched (touchable s'' l.at) tt s'' _ (λ h. one_store (rw (log_kept bounds l.at x s'') h))))

pub stopped_by : {first : List Event} {A : Type 0} {o : Outcome A} {x : BoundsCheck} {s : State} → Tested first o → o ≡ fails x s → StoppedBy x first s.log
stopped_by (tested_ok h) q = absurd (ok_not q)
stopped_by {x = x} {s = s} (tested_fails {x = y} {s = r} h) q =
    let same : y ≡ x = cc in
    let state : r ≡ s = cc in
    rw (same, state) at h
stopped_by (tested_no_room h) q = absurd (no_room_not q)
stopped_by (tested_no_rule h) q = absurd (no_rule_not q)

-- ---- a run

-- How a run of the commands below n from state s ended, in this state.
pub data EndsTested (t : Words) (s : State) (n : ℕ) (s' : State) : Ending → Type 0 where
  done_tested : AllMet s'.log → EndsTested t s n s' done
  abort_tested : {c : ℕ} {x : BoundsCheck} → c < n → (AllChecks Asks s'.log → FirstNotPassed t s (ended (abort c) s') c x) → EndsTested t s n s' (abort c)
  no_room_tested : {c : ℕ} → AllMet s'.log → EndsTested t s n s' (out_of_memory c)
  stuck_tested : {c : ℕ} → EndsTested t s n s' (stuck c)

pub commands_tested : (t : Words) (s : State) (n : ℕ) → AllMet s.log → EndsTested t s n (commands_below t n s).state (commands_below t n s).ending
unfolding commands_below
commands_tested t s zero h = done_tested h
commands_tested t s (suc n) h = go (commands_below t n s).ending (commands_below t n s).state refl refl (commands_tested t s n h)
  where
    next : (s' : State) → (commands_below t n s).ending ≡ done → (commands_below t n s).state ≡ s' → AllMet s'.log → (o : Outcome (Unit {0}))
        → command t n s' ≡ o → Tested s'.log o → EndsTested t s (suc n) (after_command n o).state (after_command n o).ending
    next s' e f p (ok a s'') q (tested_ok k) = done_tested (k p)
    next s' e f p (fails x s'') q (tested_fails k) =
        abort_tested {c = n} (omega arith)
        (λ asks.
        let earlier_ask : AllChecks Asks k.earlier = λ y h. (rw k.newest at asks) y (Memᴰ.tail h) in
        record { earlier = k.earlier; newest = k.newest; not_passed = k.not_passed; before = all_passed earlier_ask (k.before p); done_before = e; failed = rw f q })
    next s' e f p (no_room s'') q (tested_no_room k) = no_room_tested (k p)
    next s' e f p (no_rule s'') q (tested_no_rule k) = stuck_tested

    go : (e : Ending) (s' : State) → (commands_below t n s).ending ≡ e → (commands_below t n s).state ≡ s' → EndsTested t s n s' e
        → EndsTested t s (suc n) (then_command t n e s').state (then_command t n e s').ending
    go done s' e f (done_tested p) = next s' e f p (command t n s') refl (command_tested t n s')
    go (abort c) s' e f (abort_tested less first) = abort_tested {c = c} (omega arith) first
    go (out_of_memory c) s' e f (no_room_tested p) = no_room_tested p
    go (stuck c) s' e f stuck_tested = stuck_tested

-- The registers add blocks only.
registers_passed : (l : Words) (i : ℕ) (s : State) → AllMet s.log → AllMet (registers_below l i s).log
unfolding registers_below
registers_passed l zero s h = h
registers_passed l (suc i) s h =
    go (register_variable l i) (register_length l i) (register_words l i) (registers_below l i s) (registers_passed l i s h)
  where
    go : (v n : ℕ) (ws : Words) (r : State) → AllMet r.log → AllMet (with_register v n ws r).log
    go v zero ws r before = before
    go v (suc n) ws r before = one_block before

pub begin_passed : (t inputs registers : Words) (len : ℕ) → AllMet (begin t inputs registers len).log
unfolding begin cleared
begin_passed t inputs registers len = registers_passed registers (register_count registers) (cleared t inputs len) (no_checks Met)
