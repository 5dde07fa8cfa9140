-- Explanations are true: of a run that aborts, the check told is the first that is not passed, the reason is the lowest that applies, and the first
-- word is that of the one variable or block in which the bounds lie.
use Rattle.std.specs.Prelude.{if◌then◌else◌}
use Prim.Native.Nat.{ℕ, ◌+◌, ◌≤◌, ◌<◌}
use mathlib.Core.Bool.{Bool, true, false}
use mathlib.Core.Path.{◌≡◌, refl, sym, ap, ◌∙◌}
use mathlib.Core.List.{List, ◌∷◌}
use native.Mathlib.Omega.{arith}
use borrow.Author.Tests.{ltb-true, ltb-false, leb-true, leb-false, le-leb, lt-leb, eqb-true, eq-eqb, ne_eqb}
use lib.Dec.{leb, ltb, eqb}
use lib.ListN.{length}
use Rattle.semantics.specs.Words.{Words}
use Rattle.semantics.specs.Table.{variables, commands, count}
use Rattle.semantics.specs.Registers.{register_count, register_length, register_start}
use Rattle.semantics.specs.Check.{passes, call_fault}
use Rattle.semantics.specs.Rules.{BoundsCheck, Event, tested, State, Outcome, fails}
use Rattle.semantics.specs.Run.{cleared, begin, command, Ending, done, abort, out_of_memory, stuck, Run, ended, commands_below, run}
use Rattle.semantics.specs.Safety.{Region, variable, block, Sound, absent, held}
use Rattle.semantics.specs.Explain.{without_bounds, reason_of, block_start, first_word, Cause, because, cause_of, newest_cause, explanation, explain, Passed, FirstNotPassed, Applies, no_bounds, before_base, past_end, Lowest, StartsAt, nowhere, somewhere, Explains, aborted, all_done, no_room_left, TrulyExplained}
use Rattle.semantics.proofs.Tests.{and_true, and_both}
use Rattle.semantics.proofs.Blocks.{AllChecks, Asks, Stacked, stacked_inside, region_used, blocks_apart}
use Rattle.semantics.proofs.Fails.{ok_not, no_room_not}
use Rattle.semantics.proofs.Invariant.{Good, good_ok, good_fails, good_no_room}
use Rattle.semantics.proofs.Steps.{Any, assign_good}
use Rattle.semantics.proofs.Trees.{command_ok}
use Rattle.semantics.proofs.Registers.{registers_unused}
use Rattle.semantics.proofs.Starts.{block_start_of, registers_start}
use Rattle.semantics.proofs.Checks.{all_passed, EndsTested, done_tested, abort_tested, no_room_tested, stuck_tested, command_tested, stopped_by, commands_tested, begin_passed}
use Rattle.semantics.proofs.Safety.{Begun, begun, begin_inv, Running, commands_ok, begun_runs}

-- ---- the reason

pub unbounded_both : (x : BoundsCheck) → without_bounds x ≡ true → (x.base ≡ 0) × (x.end ≡ 0)
unfolding without_bounds
unbounded_both x e =
    let both = and_true (eqb x.base 0) (eqb x.end 0) e in
    (eqb-true x.base 0 both.0, eqb-true x.end 0 both.1)

pub both_unbounded : (x : BoundsCheck) → x.base ≡ 0 → x.end ≡ 0 → without_bounds x ≡ true
unfolding without_bounds
both_unbounded x b e = and_both (eqb x.base 0) (eqb x.end 0) (eq-eqb x.base 0 b) (eq-eqb x.end 0 e)

pub lowest_reason : (x : BoundsCheck) → (Passed x → ⊥) → Lowest x (reason_of x)
unfolding reason_of
lowest_reason x not_passed = go (without_bounds x) refl (ltb x.at x.base) refl
  where
    positive : {n : ℕ} → Applies x n → 1 ≤ n
    positive (no_bounds b e) = omega arith
    positive (before_base h) = omega arith
    positive (past_end h) = omega arith

    bounded : without_bounds x ≡ false → x.base ≡ 0 → x.end ≡ 0 → ⊥
    bounded q b e = mathlib.Core.Bool.false≢true (sym q ∙ both_unbounded x b e)

    second : without_bounds x ≡ false → {n : ℕ} → Applies x n → 2 ≤ n
    second q (no_bounds b e) = absurd (bounded q b e)
    second q (before_base h) = omega arith
    second q (past_end h) = omega arith

    third : without_bounds x ≡ false → x.base ≤ x.at → {n : ℕ} → Applies x n → 3 ≤ n
    third q from (no_bounds b e) = absurd (bounded q b e)
    third q from (before_base h) = absurd (omega arith)
    third q from (past_end h) = omega arith

    past : (b : Bool) → leb (x.at + x.words) x.end ≡ b → x.base ≤ x.at → x.end < x.at + x.words
    past true q from = absurd (not_passed (record { from = from; upto = leb-true (x.at + x.words) x.end q }))
    past false q from = leb-false (x.at + x.words) x.end q

    go : (b : Bool) → without_bounds x ≡ b → (c : Bool) → ltb x.at x.base ≡ c → Lowest x (if b then 1 else if c then 2 else 3)
    go true q c r = let both = unbounded_both x q in record { applies = no_bounds both.0 both.1; lowest = λ n. positive }
    go false q true r = record { applies = before_base (ltb-true x.at x.base r); lowest = λ n. second q }
    go false q false r =
        let from = ltb-false x.at x.base r in
        record { applies = past_end (past _ refl from); lowest = λ n. third q from }

-- No reason applies to a check that is passed, of at least one word.
pub passed_has_no_reason : (x : BoundsCheck) → 1 ≤ x.words → Passed x → (n : ℕ) → Applies x n → ⊥
passed_has_no_reason x some h n (no_bounds b e) = omega (arith, h.upto)
passed_has_no_reason x some h n (before_base less) = omega (arith, h.from)
passed_has_no_reason x some h n (past_end less) = omega (arith, h.upto)

-- ---- the first word

module _ {vars u : ℕ} {log : List Event} (st : Stacked vars log u) (x : BoundsCheck) where
  first_of : {s t : ℕ} → Region vars log s t → s ≤ x.base → x.base < x.end → x.end ≤ t → first_word vars log x ≡ s
  unfolding first_word without_bounds
  first_of (variable i h) from proper upto =
      rw (ne_eqb x.base 0 (λ e. omega arith), le-leb x.base vars (omega arith)) (omega arith)
  first_of (block s n h) from proper upto =
      let inside = stacked_inside st s n h in
      rw (ne_eqb x.base 0 (λ e. omega arith), lt-leb x.base vars (omega arith)) (block_start_of st s n x.base h from (omega arith))

  first_starts : Sound vars log x.base x.end → StartsAt vars log x.base x.end (first_word vars log x)
  unfolding first_word
  first_starts (absent b e) = rw (both_unbounded x b e) (nowhere b e)
  first_starts (held h) =
      rw (first_of h.region h.from h.proper h.upto) (somewhere h (λ k. (blocks_apart st {len = u} (omega arith)).one k h))

-- ---- what is told of an abort

-- The newest check is told.
pub newest_tested : (vars : ℕ) (log : List Event) (x : BoundsCheck) (part : List Event) → newest_cause vars log (tested x ∷ part) ≡ because (cause_of vars log x)
unfolding newest_cause
newest_tested vars log x part = refl

abort_told : (vars c : ℕ) {x : BoundsCheck} {log earlier : List Event} → log ≡ tested x ∷ earlier
    → explanation vars (abort c) log ≡ because (cause_of vars log x)
abort_told vars c {x} {log} {earlier} q = ap (newest_cause vars log) q ∙ newest_tested vars log x earlier

-- It is the check by which a command fails.
pub failure_told : (vars : ℕ) (t : Words) (c d : ℕ) (s : State) (x : BoundsCheck) (s' : State) → command t c s ≡ fails x s'
    → explanation vars (abort d) s'.log ≡ because (cause_of vars s'.log x)
failure_told vars t c d s x s' q = abort_told vars d (stopped_by (command_tested t c s) q).newest

-- ---- the theorem

failing_sound : {vars len : ℕ} {s₀ s : State} {o : Outcome (Unit {0})} {x : BoundsCheck} → Good vars len s₀ Any o → o ≡ fails x s
    → Sound vars s.log x.base x.end
failing_sound (good_ok inv l a) q = absurd (ok_not q)
failing_sound {s = s} {x = x} (good_fails {x = y} {s = r} inv l sound) q =
    let same : y ≡ x = cc in
    let state : r ≡ s = cc in
    rw (same, state) at sound
failing_sound (good_no_room inv l) q = absurd (no_room_not q)

-- The bounds that a begun run aborts by are absent or held.
stopped_sound : {t inputs registers : Words} {len bases ends c : ℕ} {r : Run} {x : BoundsCheck} → Begun t inputs registers len bases ends → c < count t commands
    → FirstNotPassed t (begin t inputs registers len) r c x → Sound (count t variables) r.state.log x.base x.end
unfolding command
stopped_sound {t} {inputs} {registers} {len} {c = c} b less first =
    let s = begin t inputs registers len in
    let tree = command_ok b.table c less in
    let before = commands_ok b.table s (begin_inv b) c (omega arith) in
    failing_sound (assign_good _ tree.place_tree tree.value_tree (commands_below t c s).state before.inv) first.failed

pub explanations_are_true : (t inputs registers values bases ends : Words) → TrulyExplained t inputs registers values bases ends
unfolding explain run
explanations_are_true t inputs registers values bases ends e =
    rw e (go r.ending refl (commands_tested t s (count t commands) (begin_passed t inputs registers (length values))))
  where
    s : State
    s = begin t inputs registers (length values)

    r : Run
    r = commands_below t (count t commands) (begin t inputs registers (length values))

    b : Begun t inputs registers (length values) (length bases) (length ends)
    b = begun t inputs registers (length values) (length bases) (length ends) e

    running : Running (count t variables) (length values) s r
    running = begun_runs b

    whole : {c : ℕ} {x : BoundsCheck} → FirstNotPassed t s (ended (abort c) r.state) c x → FirstNotPassed t s r c x
    whole f =
        record { earlier = f.earlier; newest = f.newest; not_passed = f.not_passed; before = f.before; done_before = f.done_before; failed = f.failed }

    asks : AllChecks Asks r.state.log
    asks = running.inv.asks

    go : (d : Ending) → r.ending ≡ d → EndsTested t s (count t commands) r.state d → Explains t s r d (explanation (count t variables) d r.state.log)
    go done q (done_tested p) = all_done (all_passed asks p)
    go (abort c) q (abort_tested {x = x} less stopped) =
        let first = whole (stopped asks) in
        rw (abort_told (count t variables) c first.newest)
        (aborted first (lowest_reason x first.not_passed) (first_starts running.inv.blocks x (stopped_sound b less first)))
    go (out_of_memory c) q (no_room_tested p) = no_room_left (all_passed asks p)
    go (stuck c) q stuck_tested = absurd (running.has_rules c q)

-- ---- of the words that are told

-- Bounds that are told and not absent start in the memory, and not at word 0.
pub abort_base_inside : (t inputs registers values bases ends : Words)
    → call_fault t inputs registers (length values) (length bases) (length ends) ≡ passes
    → (x : Cause) → (explain t inputs registers values bases ends).explanation ≡ because x → without_bounds x.check ≡ false
    → (0 < x.check.base) × (x.check.base < length values)
abort_base_inside t inputs registers values bases ends e x q some =
    go (rw q at (explanations_are_true t inputs registers values bases ends e))
  where
    r : Run
    r = run t inputs registers (length values)

    running : Running (count t variables) (length values) (begin t inputs registers (length values)) (run t inputs registers (length values))
    running = begun_runs (begun t inputs registers (length values) (length bases) (length ends) e)

    inside : {w : ℕ} → StartsAt (count t variables) r.state.log x.check.base x.check.end w → (0 < x.check.base) × (x.check.base < length values)
    inside (nowhere b f) = absurd (mathlib.Core.Bool.false≢true (sym some ∙ both_unbounded x.check b f))
    inside (somewhere h one) =
        omega (arith, region_used running.inv.blocks h.region, h.from, h.proper, h.upto, running.inv.high)

    go : {d : Ending} → Explains t (begin t inputs registers (length values)) r d (because x) → (0 < x.check.base) × (x.check.base < length values)
    go (aborted first lowest starts) = inside starts

-- "The registers become blocks after the variables, in order": a word of register i, in the log of a begun run.
pub register_block_start : (t inputs registers values bases ends : Words)
    → call_fault t inputs registers (length values) (length bases) (length ends) ≡ passes
    → (i w : ℕ) → i < register_count registers → register_start (1 + count t variables) registers i ≤ w
    → w < register_start (1 + count t variables) registers i + register_length registers i
    → block_start (run t inputs registers (length values)).state.log w ≡ register_start (1 + count t variables) registers i
unfolding begin register_start cleared
register_block_start t inputs registers values bases ends e i w less from upto =
    let running = begun_runs (begun t inputs registers (length values) (length bases) (length ends) e) in
    let s = cleared t inputs (length values) in
    let u = registers_unused registers i s in
    registers_start registers (register_count registers) s running.inv.blocks running.past.more i w less (omega arith) (omega arith) ∙ u
