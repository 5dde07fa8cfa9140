-- A whole bare call of a table that passed the check, from what its parts did.
use Rattle.std.specs.Prelude.{Ok, Err}
use Prim.Native.Nat.{ℕ, ◌+◌, ◌-◌, ◌≤◌, ◌<◌}
use mathlib.Core.Path.{◌≡◌, refl, sym, ap, ◌∙◌}
use mathlib.Core.List.{◌++◌}
use native.Mathlib.Omega.{arith}
use lib.ListN.{length, take, replicate, set}
use lib.Seq.{sets}
use Rattle.semantics.specs.Words.{Words}
use Rattle.semantics.specs.Table.{variables, count}
use Rattle.semantics.specs.Registers.{register_count}
use Rattle.semantics.specs.Check.{passes, refused, check}
use Rattle.semantics.specs.Check as Check
use Rattle.semantics.specs.Run.{registers_below}
use Rattle.semantics.specs.Bare.{call_fault, run, call}
use Rattle.semantics.proofs.Safety.{begin_inv}
use Rattle.semantics.proofs.Agreement.{registers_bared, begin_bared}
use Rattle.layout.specs.Refusals.{number_of}
use Rattle.layout.specs.declared.Refusal.{Refusal}
use Rattle.layout.proofs.Laws.{or_else_pass, or_else_refuse}
use Rattle.registers.specs.Blocks.{memory, RegistersSet, RegistersPlaced, AllPlaceable}
use Rattle.bare_commands.specs.declared.Ended.{Ended}
use Rattle.machine.specs.Run.{CanBegin}
use Rattle.machine.specs.Bare.{HasBegunBare, ExecutedBare, CalledBare}
use Rattle.machine.proofs.Calls.{rest_fault, registers_fit, unused_fits, has_begun}

-- ---- the memory at the start

-- A run with bounds would begin with the same values: what is known of it serves here, with other two lists that no program has.
module _ {vars : ℕ} {inputs registers vs : Words} (x : CanBegin vars inputs registers vs vs vs) {v₁ : Words} (hv : v₁ ≡ sets (set vs 0 0) 1 inputs) {u : ℕ} (hu : u ≡ vars + 1) where
  zeros : Words
  zeros = replicate (length vs) 0

  pub registers_placeable : AllPlaceable registers u v₁
  unfolding zeros
  registers_placeable =
      let f = registers_fit x {b₁ = zeros} {e₁ = zeros} refl refl hv hu in
      record { table = f.table; list = f.list; first = f.first; room = omega (arith, f.inv.low, f.inv.high); most = f.most }

  module _ {u' : ℕ} {v₂ : Words} (placed : RegistersPlaced registers (register_count registers) v₁ u v₂ u') where
    with_bounds : RegistersSet registers (register_count registers) v₁ zeros zeros u v₂ (registers_below registers (register_count registers) (memory v₁ zeros zeros u)).bases
        (registers_below registers (register_count registers) (memory v₁ zeros zeros u)).ends u'
    with_bounds =
        let same = placed.is ∙ registers_bared registers (register_count registers) (memory v₁ zeros zeros u) in
        record { holds = record { values = ap (λ s. s.values) same; bases = refl; ends = refl; unused = ap (λ s. s.unused) same } }

    pub bare_unused_fits : u' ≤ length v₂
    unfolding zeros
    bare_unused_fits = unused_fits x refl refl hv hu with_bounds

    pub bare_begun : {v₃ : Words} {k : ℕ} → k ≡ u' → v₃ ≡ take k v₂ ++ replicate (length v₂ - k) 0 → HasBegunBare vars inputs registers vs v₃ u'
    unfolding zeros
    bare_begun e cleared =
        record {
          begins = λ t total.
              let h = (has_begun x refl refl hv hu with_bounds e cleared).begins t total in
              rw (begin_bared t inputs registers (length vs), h.values, h.unused);
        }

-- ---- the answer

-- A call that is refused.
bare_refused : (t inputs registers vs : Words) {r : Refusal} → call_fault t inputs registers (length vs) ≡ refused (number_of r.fault) r.place → CalledBare t inputs registers vs (Err r) vs
unfolding call
bare_refused t inputs registers vs e = record { is = rw e }

pub bare_table_refused : (t inputs registers vs : Words) {r : Refusal} → refused (number_of r.fault) r.place ≡ check t → CalledBare t inputs registers vs (Err r) vs
unfolding call_fault Check.call_fault
bare_table_refused t inputs registers vs e =
    bare_refused t inputs registers vs (or_else_refuse (check t) (rest_fault t inputs registers (length vs) (length vs) (length vs)) (sym e))

pub bare_call_refused : (t inputs registers vs : Words) {r : Refusal} → check t ≡ passes → refused (number_of r.fault) r.place ≡ rest_fault t inputs registers (length vs) (length vs) (length vs)
    → CalledBare t inputs registers vs (Err r) vs
unfolding call_fault Check.call_fault
bare_call_refused t inputs registers vs ok e =
    bare_refused t inputs registers vs (or_else_pass (check t) (rest_fault t inputs registers (length vs) (length vs) (length vs)) ok ∙ sym e)

-- A call that is begun: its commands, from the memory at the start.
pub bare_call_executed : {t inputs registers vs vs₁ vs' : Words} {vars u : ℕ} {r : Ended} → check t ≡ passes → passes ≡ rest_fault t inputs registers (length vs) (length vs) (length vs)
    → vars ≡ count t variables → HasBegunBare vars inputs registers vs vs₁ u → ExecutedBare t vs₁ u r vs' → CalledBare t inputs registers vs (Ok r) vs'
unfolding call call_fault Check.call_fault run
bare_call_executed {t} {inputs} {registers} {vs} ok e total begins executed =
    record { is = rw (or_else_pass (check t) (rest_fault t inputs registers (length vs) (length vs) (length vs)) ok, ← e, ← (begins.begins t total)) executed.is }

-- The list that a bare run begins with has room for the variables.
pub bare_startable : (t : Words) {inputs registers vs vs₁ : Words} {vars u : ℕ} → CanBegin vars inputs registers vs vs vs → vars ≡ count t variables → HasBegunBare vars inputs registers vs vs₁ u
    → (count t variables < length vs₁) × (length vs₁ ≤ 65536)
bare_startable t {inputs} {registers} {vs} x total h =
    let long = ap (λ s. length s.values) (h.begins x.table x.total ∙ begin_bared x.table inputs registers (length vs)) ∙ (begin_inv x.begun).values_length in
    (omega (arith, x.begun.lists.room, x.total, long), omega (arith, x.begun.lists.most, long))
