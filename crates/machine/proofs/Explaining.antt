-- What is told of an abort: from a first call, if its bounds lie in a variable or a register, else from a second.
use Rattle.std.specs.Prelude.{Option, None, Some, Result, Ok}
use Rattle.std.proofs.lemmas.Option.{none-some, same_Some}
use Prim.Native.Nat.{ℕ, ◌+◌, ◌≤◌, ◌<◌}
use mathlib.Core.Bool.{true, false}
use mathlib.Core.Path.{◌≡◌, refl, sym, ap, ◌∙◌}
use mathlib.Core.Logic.{inr}
use mathlib.Core.List.{List}
use native.Mathlib.Omega.{arith}
use borrow.Author.Tests.{le-leb, lt-leb}
use lib.ListN.{length}
use Rattle.semantics.specs.Words.{Words}
use Rattle.semantics.specs.Table.{variables, count}
use Rattle.semantics.specs.Registers.{register_count, register_start}
use Rattle.semantics.specs.Check.{Verdict, passes, refused, call_fault}
use Rattle.semantics.specs.Rules.{BoundsCheck, Event}
use Rattle.semantics.specs.Run.{cleared, begin, abort, ending, run, result_of, call}
use Rattle.semantics.specs.Explain as semantics
use Rattle.semantics.specs.Explain.{without_bounds, reason_of, block_start, first_word, Explanation, not_aborted, because, cause_of, explanation, explain}
use Rattle.semantics.proofs.Registers.{Whole, registers_unused}
use Rattle.semantics.proofs.Safety.{Begun, begun, begun_runs}
use Rattle.semantics.proofs.Starts.{block_start_none}
use Rattle.semantics.proofs.Causes.{because_is, aborted_not, cause_is, reason_absent, reason_present}
use Rattle.semantics.proofs.Explain.{abort_base_inside, register_block_start}
use Rattle.registers.specs.Blocks.{in_register, past_all}
use Rattle.machine.specs.Explain.{reason_number, cause_told, explanation_of, explanation_told, explained_of, starting_at, started, Declared, of_variable, of_register, Watchable, Called}
use Rattle.machine.specs.declared.Cause.{Cause}
use Rattle.machine.specs.declared.Reason.{Reason}
use Rattle.machine.specs.declared.Reason.TheVariants.{NoBounds, BeforeBase, PastEnd}
use Rattle.commands.specs.declared.Ending.{Ending}
use Rattle.commands.specs.declared.Ending.TheVariants.{Done, Abort, NoRoom}
use Rattle.layout.specs.declared.Refusal.{Refusal}

-- ---- what an explanation tells

no_bounds_is : (r : Reason) → reason_number r ≡ 1 → r ≡ NoBounds
no_bounds_is NoBounds e = refl
no_bounds_is BeforeBase e = absurd (omega (arith, e))
no_bounds_is PastEnd e = absurd (omega (arith, e))

both_parts : (t inputs registers vs bs es : Words)
    → record { result = call t inputs registers vs bs es; explanation = (explain t inputs registers vs bs es).explanation } ≡ explain t inputs registers vs bs es
unfolding explain
both_parts t inputs registers vs bs es = refl

-- Without an abort no first word is told.
unstarted : (n : ℕ) (x : Explanation) → started n x ≡ not_aborted → started n x ≡ x
unstarted n not_aborted e = refl
unstarted n (because x) e = absurd (aborted_not e)

-- An ending that is no abort has no explanation.
pub none_told : (e : Ending Cause) → ((command unused : ℕ) (x : Cause) → e ≡ Abort command unused x → ⊥) → explanation_of e ≡ not_aborted
none_told (Done u) other = refl
none_told (Abort c u x) other = absurd (other c u x refl)
none_told (NoRoom c u) other = refl

module _ {t inputs registers vs bs es : Words} where
  -- A call that did not abort is explained.
  pub no_abort : {w : ℕ} {r : Result (Ending Cause) Refusal} {v₁ b₁ e₁ : Words} → Called w t inputs registers vs bs es r v₁ b₁ e₁ → explanation_told r ≡ not_aborted
      → explained_of r v₁ b₁ e₁ ≡ explain t inputs registers vs bs es
  no_abort h none =
      h.is ∙ ap (λ x. record { result = call t inputs registers vs bs es; explanation = x }) (unstarted _ _ (sym (ap (λ x. x.explanation) h.is) ∙ none))
      ∙ both_parts t inputs registers vs bs es

  -- The cause of an abort, and the state of the run that the rules have there.
  module _ {w c u : ℕ} {x : Cause} {v₁ b₁ e₁ : Words} (h : Called w t inputs registers vs bs es (Ok (Abort c u x)) v₁ b₁ e₁) where
    abbrev log : List Event
    log = (run t inputs registers (length vs)).state.log

    -- The run was begun.
    not_refused : call_fault t inputs registers (length vs) (length bs) (length es) ≡ passes
    unfolding call
    not_refused = go (call_fault t inputs registers (length vs) (length bs) (length es)) refl (ap (λ y. y.result.answer) h.is)
      where
        go : (v : Verdict) → call_fault t inputs registers (length vs) (length bs) (length es) ≡ v → ending (abort c) u ≡ (call t inputs registers vs bs es).answer
            → call_fault t inputs registers (length vs) (length bs) (length es) ≡ passes
        go passes q e = q
        go (refused n p) q e = absurd (let z : ◌≡◌ {A = ℕ} 0 1 = (let f = rw q at e in cc) in omega arith)

    record Told : Type 0 where
      cause : semantics.Cause
      is : (explain t inputs registers vs bs es).explanation ≡ because cause
      same : cause_told x ≡ starting_at (block_start log w) cause

    told : Told
    told = go (explain t inputs registers vs bs es).explanation refl (ap (λ y. y.explanation) h.is)
      where
        go : (y : Explanation) → (explain t inputs registers vs bs es).explanation ≡ y → because (cause_told x) ≡ started (block_start log w) y → Told
        go not_aborted q e = absurd (aborted_not e)
        go (because y) q e = record { cause = y; is = q; same = because_is e }

    from_check : told.cause ≡ cause_of (count t variables) log told.cause.check
    unfolding explain
    from_check = cause_is (count t variables) (run t inputs registers (length vs)).ending log told.cause (rw not_refused at told.is)

    -- It is told with the first word f, if that is the cause's.
    first_told : (x' : Cause) {f : ℕ} → cause_told x' ≡ starting_at f (cause_told x) → f ≡ told.cause.first → explained_of (Ok (Abort c u x')) v₁ b₁ e₁ ≡ explain t inputs registers vs bs es
    unfolding explain
    first_told x' {f} e q =
        let whole : because (cause_told x') ≡ (explain t inputs registers vs bs es).explanation = ap because (e ∙ ap (starting_at f) told.same ∙ ap (λ n. starting_at n told.cause) q) ∙ sym told.is in
        let same : (explained_of (Ok (Abort c u x')) v₁ b₁ e₁).result ≡ call t inputs registers vs bs es = ap (λ y. y.result) h.is in
        rw (same, whole)

    abbrev check : BoundsCheck
    check = told.cause.check

    first_is : told.cause.first ≡ first_word (count t variables) log check
    first_is = ap (λ y. y.first) from_check

    base_is : x.base ≡ check.base
    base_is = ap (λ y. y.check.base) told.same

    reason_is : reason_number x.reason ≡ reason_of check
    reason_is = ap (λ y. y.reason) told.same ∙ ap (λ y. y.reason) from_check

    b : Begun t inputs registers (length vs) (length bs) (length es)
    b = begun t inputs registers (length vs) (length bs) (length es) not_refused

    pub registers_whole : Whole registers
    registers_whole = b.blocks.extent

    -- ---- bounds that are absent

    -- No block has the word after the last, so that 0 is told.
    pub absent_told : w ≡ length vs → x.reason ≡ NoBounds → explained_of (Ok (Abort c u x)) v₁ b₁ e₁ ≡ explain t inputs registers vs bs es
    unfolding first_word
    absent_told end one =
        let inv = (begun_runs b).inv in
        let none : without_bounds check ≡ true = reason_absent check (sym reason_is ∙ ap reason_number one) in
        first_told x refl (ap (λ y. y.first) told.same ∙ block_start_none inv.blocks w (inr (omega (arith, inv.high))) ∙ sym (first_is ∙ rw none))

    -- ---- bounds that are there

    module _ (some : x.reason ≡ NoBounds → ⊥) where
      bounded : without_bounds check ≡ false
      bounded = reason_present check (λ e. some (no_bounds_is x.reason (reason_is ∙ e)))

      inside : (0 < x.base) × (x.base < length vs)
      inside = omega (arith, abort_base_inside t inputs registers vs bs es not_refused told.cause told.is bounded, base_is)

      of_variables : x.base ≤ count t variables → told.cause.first ≡ x.base
      unfolding first_word
      of_variables less = first_is ∙ rw (bounded, ← base_is, le-leb x.base (count t variables) less)

      of_blocks : count t variables < x.base → told.cause.first ≡ block_start log x.base
      unfolding first_word
      of_blocks more = first_is ∙ rw (bounded, ← base_is, lt-leb x.base (count t variables) more)

      pub declared_told : (x' : Cause) {d : Option ℕ} {f : ℕ} → Declared (length inputs) registers x.base d → d ≡ Some f → cause_told x' ≡ starting_at f (cause_told x)
          → explained_of (Ok (Abort c u x')) v₁ b₁ e₁ ≡ explain t inputs registers vs bs es
      declared_told x' (of_variable less) q e = first_told x' e (sym (same_Some _ _ q) ∙ sym (of_variables (omega (arith, b.lists.inputs_length))))
      declared_told x' (of_register more (in_register i less from upto)) q e =
          let first : length inputs + 1 ≡ 1 + count t variables = omega (arith, b.lists.inputs_length) in
          let start = ap (λ k. register_start k registers i) first in
          first_told x' e (sym (same_Some _ _ q) ∙ start ∙ sym (of_blocks (omega (arith, b.lists.inputs_length)) ∙ register_block_start t inputs registers vs bs es not_refused i x.base less (omega (arith, start)) (omega (arith, start))))
      declared_told x' (of_register more (past_all from)) q e = absurd (none-some _ q)

      -- ---- a block: the second call

      begin_unused : (begin t inputs registers (length vs)).unused ≡ register_start (length inputs + 1) registers (register_count registers)
      unfolding begin cleared register_start
      begin_unused = omega (arith, registers_unused registers (register_count registers) (cleared t inputs (length vs)), b.lists.inputs_length)

      past : {d : Option ℕ} → Declared (length inputs) registers x.base d → d ≡ None → ((begin t inputs registers (length vs)).unused ≤ x.base) × (count t variables < x.base)
      unfolding register_start
      past (of_variable less) e = absurd (none-some _ (sym e))
      past (of_register more (in_register i less from upto)) e = absurd (none-some _ (sym e))
      past (of_register more (past_all from)) e = (omega (arith, begin_unused, from), omega (arith, b.lists.inputs_length))

      record SameLengths : Type 0 where
        values : length v₁ ≡ length vs
        bases : length b₁ ≡ length bs
        ends : length e₁ ≡ length es

      same_lengths : SameLengths
      unfolding call
      same_lengths =
          let inv = (begun_runs b).inv in
          let r = rw not_refused at (ap (λ y. y.result) h.is) in
          record {
            values = ap (λ y. length y.values) r ∙ inv.values_length;
            bases = ap (λ y. length y.bases) r ∙ inv.bases_length ∙ b.lists.same_bases;
            ends = ap (λ y. length y.ends) r ∙ inv.ends_length ∙ b.lists.same_ends;
          }

      module _ {d : Option ℕ} {w' : ℕ} (declared : Declared (length inputs) registers x.base d) (none : d ≡ None) (e : w' ≡ x.base) where
        pub second_watchable : Watchable w' t inputs registers v₁ b₁ e₁
        second_watchable =
            record { room = λ q. rw (same_lengths.values, e) ((past declared none).0, omega (arith, inside)) }

        -- What the first call left is as long, so the second has the same run.
        same_call : call t inputs registers v₁ b₁ e₁ ≡ call t inputs registers vs bs es
        unfolding call
        same_call = rw (same_lengths.values, same_lengths.bases, same_lengths.ends) (rw not_refused (ap (λ n. result_of (run t inputs registers n)) same_lengths.values))

        same_explanation : (explain t inputs registers v₁ b₁ e₁).explanation ≡ (explain t inputs registers vs bs es).explanation
        unfolding explain
        same_explanation = rw (same_lengths.values, same_lengths.bases, same_lengths.ends)

        pub second_told : {r : Result (Ending Cause) Refusal} {v₂ b₂ e₂ : Words} → Called w' t inputs registers v₁ b₁ e₁ r v₂ b₂ e₂ → explained_of r v₂ b₂ e₂ ≡ explain t inputs registers vs bs es
        second_told {r} {v₂} {b₂} {e₂} g =
            let first : block_start log w' ≡ told.cause.first = ap (block_start log) e ∙ sym (of_blocks (past declared none).1) in
            let whole : started (block_start log w') (explain t inputs registers vs bs es).explanation ≡ (explain t inputs registers vs bs es).explanation =
            ap (started (block_start log w')) told.is ∙ ap (λ n. because (starting_at n told.cause)) first ∙ sym told.is in
            rw (same_lengths.values, same_call, same_explanation, whole) at g.is ∙ both_parts t inputs registers vs bs es
