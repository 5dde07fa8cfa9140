-- A whole call of a table that passed the check, from what its parts did.
use Rattle.std.specs.Prelude.{Result, Ok, Err, ⊤}
use Prim.Native.Nat.{ℕ, ◌+◌, ◌*◌, ◌-◌, ◌≤◌, ◌<◌, ◌^◌}
use mathlib.Core.Path.{◌≡◌, refl, sym, ap, ◌∙◌}
use mathlib.Core.List.{[], ◌∷◌, ◌++◌}
use native.Mathlib.Omega.{arith}
use lib.ListN.{length, take, drop, set, replicate, length-set, length-replicate, length-drop}
use lib.Seq.{sets, take-length, length-sets, get_or-drop}
use Rattle.semantics.specs.Words.{Words}
use Rattle.semantics.specs.Table.{variables, count}
use Rattle.semantics.specs.Registers.{register_count}
use Rattle.semantics.specs.Check.{Verdict, passes, refused, ◌or_else◌, check, arguments_fault, registers_fault, call_fault}
use Rattle.semantics.specs.Rules.{State}
use Rattle.semantics.specs.Run as semantics
use Rattle.semantics.specs.Run.{cleared, registers_below, begin, ending, Run, commands_below, run, result_of, call}
use Rattle.semantics.specs.Explain.{without_bounds, reason_of, block_start, explanation, explain}
use Rattle.semantics.proofs.Passed.{Passed, passed, section_ok, section_end}
use Rattle.semantics.proofs.Safety.{Begun, begun, cleared_inv, begin_inv}
use Rattle.lookups.specs.declared.Lists.{Lists}
use Rattle.lookups.specs.Lists.{ListsOf}
use Rattle.semantics.proofs.Explain.{failure_told}
use Rattle.steps.specs.Answers.{check_told}
use Rattle.layout.specs.Layout.{section_of, layout, layout_by, Stands}
use Rattle.layout.specs.Refusals as answer
use Rattle.layout.specs.Refusals.{Outcome, number_of, verdict_of}
use Rattle.layout.specs.declared.Refusal.{Refusal}
use Rattle.layout.specs.declared.Table.{Table}
use Rattle.layout.proofs.Laws.{or_else_pass, or_else_refuse, item_at}
use Rattle.words.proofs.Lists.{front_sets, zeros_from}
use Rattle.registers.specs.Blocks.{memory, Holds, RegistersSet, Alike, AllFit}
use Rattle.registers.proofs.Blocks.{registers_alike}
use Rattle.commands.specs.Execution as commands
use Rattle.commands.specs.Execution.{ending_of, lists, state_with, Starts}
use Rattle.steps.specs.declared.FailedCheck.{FailedCheck}
use Rattle.commands.specs.declared.Ending.{Ending}
use Rattle.commands.specs.declared.Ending.TheVariants.{Done, Abort, NoRoom}
use Rattle.machine.specs.Run.{answer_of, Is, IsProgram, CanBegin, HasBegun}
use Rattle.machine.specs.Explain.{reason_number, reason_by, started, ended_because, TellsEnded, Startable, Executed, Watchable, Called}
use Rattle.machine.specs.declared.Cause.{Cause}
use Rattle.machine.specs.declared.Reason.{Reason}

-- ---- what the check answered

pub layout_passes : (t : Words) (v : Verdict) {l : Table} → layout_by t v ≡ answer.is l → (v ≡ passes) × (l ≡ layout t)
layout_passes t passes e = (refl, sym (cc))
layout_passes t (refused n p) e = absurd (let z : ◌≡◌ {A = ℕ} 0 1 = cc in omega arith)

pub layout_refused : (t : Words) (v : Verdict) {n p : ℕ} → layout_by t v ≡ answer.refused n p → refused n p ≡ v
layout_refused t passes e = absurd (let z : ◌≡◌ {A = ℕ} 0 1 = cc in omega arith)
layout_refused t (refused m q) e = cc

-- The arguments' refusals: the lists' and inputs', then the registers'.
abbrev pub rest_fault : Words → Words → Words → ℕ → ℕ → ℕ → Verdict
rest_fault t inputs registers values bases ends = arguments_fault t inputs values bases ends or_else registers_fault t registers values

-- A call that is refused, whatever word is watched for.
refused_call : (w : ℕ) (t inputs registers vs bs es : Words) {r : Refusal}
    → call_fault t inputs registers (length vs) (length bs) (length es) ≡ refused (number_of r.fault) r.place → Called w t inputs registers vs bs es (Err r) vs bs es
unfolding call explain
refused_call w t inputs registers vs bs es e = record { is = rw e }

-- A table that is refused is a call that is refused.
pub table_refused : (w : ℕ) (t inputs registers vs bs es : Words) {r : Refusal} → refused (number_of r.fault) r.place ≡ check t
    → Called w t inputs registers vs bs es (Err r) vs bs es
unfolding call_fault
table_refused w t inputs registers vs bs es e =
    refused_call w t inputs registers vs bs es (or_else_refuse (check t) (rest_fault t inputs registers (length vs) (length bs) (length es)) (sym e))

-- ---- the check of the other arguments

module _ (t inputs registers : Words) (values bases ends : ℕ) where
  pub arguments_refused : {n p : ℕ} → refused n p ≡ arguments_fault t inputs values bases ends → refused n p ≡ rest_fault t inputs registers values bases ends
  arguments_refused e = sym (or_else_refuse _ _ (sym e))

  pub registers_judged : passes ≡ arguments_fault t inputs values bases ends → registers_fault t registers values ≡ rest_fault t inputs registers values bases ends
  registers_judged e = sym (or_else_pass _ _ (sym e))

-- A call with arguments that are refused is refused.
pub call_refused : (w : ℕ) (t inputs registers vs bs es : Words) {r : Refusal} → check t ≡ passes
    → refused (number_of r.fault) r.place ≡ rest_fault t inputs registers (length vs) (length bs) (length es) → Called w t inputs registers vs bs es (Err r) vs bs es
unfolding call_fault
call_refused w t inputs registers vs bs es ok e =
    refused_call w t inputs registers vs bs es (or_else_pass (check t) (rest_fault t inputs registers (length vs) (length bs) (length es)) ok ∙ sym e)

-- ---- the memory at the start

-- Lists and a first unused word of a state are all of it but its log.
holds_state : {s : State} {vs bs es : Words} {u : ℕ} → Holds s vs bs es u → s ≡ state_with (lists vs bs es) u s.log
holds_state h = rw (h.values, h.bases, h.ends, h.unused)

-- There are at most 64 variables.
pub few_variables : {vars : ℕ} {inputs registers vs bs es : Words} → CanBegin vars inputs registers vs bs es → vars ≤ 64
few_variables x = let k = section_ok x.table 3 (x.begun.table.types.sections 3 (omega arith)) in omega (arith, k.limited, x.total)

-- Word 0 of a list that was cleared.
first_cleared : (l : Words) → 0 < length l → take 1 (set l 0 0) ≡ take 1 (replicate (length l) 0)
first_cleared [] h = absurd (omega arith)
first_cleared (y ∷ l) h = refl

module _ {vars : ℕ} {inputs registers vs bs es : Words} (x : CanBegin vars inputs registers vs bs es) where
  first_state : State
  first_state = cleared x.table inputs (length vs)

  -- The inputs have room, after word 0.
  pub inputs_fit : (y : ℕ) → 1 + length inputs ≤ length (set vs 0 y)
  inputs_fit y = omega (arith, length-set vs 0 y, x.begun.lists.room, x.begun.lists.inputs_length)

  module _ {v₁ b₁ e₁ : Words} (hb : b₁ ≡ replicate (length bs) 0) (he : e₁ ≡ replicate (length es) 0) (hv : v₁ ≡ sets (set vs 0 0) 1 inputs) {u : ℕ} (hu : u ≡ vars + 1) where
    values_length : length v₁ ≡ length vs
    values_length = ap length hv ∙ length-sets (set vs 0 0) 1 inputs ∙ length-set vs 0 0

    -- The words of the variables are the inputs.
    cleared_alike : Alike (memory v₁ b₁ e₁ u) first_state
    unfolding first_state cleared
    cleared_alike =
        let zeros : Words = replicate (length vs) 0 in
        let many : length zeros ≡ length vs = length-replicate (length vs) 0 in
        let e : u ≡ 1 + length inputs = omega (arith, x.begun.lists.inputs_length, x.total) in
        let fits : 1 + length inputs ≤ length vs = omega (arith, inputs_fit 0, length-set vs 0 0) in
        record {
          same_length = values_length ∙ sym (length-sets zeros 1 inputs ∙ many);
          values = rw (e, hv)
              (front_sets (set vs 0 0) 1 inputs (inputs_fit 0) ∙ ap (λ (l : Words). l ++ inputs) (first_cleared vs (omega arith))
              ∙ sym (front_sets zeros 1 inputs (omega arith)));
          bases = rw (hb, ← x.begun.lists.same_bases);
          ends = rw (he, ← x.begun.lists.same_ends);
          unused = omega (arith, x.total);
        }

    pub registers_fit : AllFit registers u v₁ b₁ e₁
    unfolding first_state
    registers_fit =
        let b = x.begun in
        record {
          table = x.table;
          list = rw values_length b.blocks;
          first = omega (arith, x.total);
          state = first_state;
          alike = cleared_alike;
          inv = rw values_length (cleared_inv b.lists);
          most = omega (arith, values_length, b.lists.most);
        }

    -- The registers' words are in memory, and those after them are cleared.
    module _ {u' : ℕ} {v₂ b₂ e₂ : Words} (h : RegistersSet registers (register_count registers) v₁ b₁ e₁ u v₂ b₂ e₂ u') where
      first_begins : Alike (registers_below registers (register_count registers) (memory v₁ b₁ e₁ u)) (begin x.table inputs registers (length vs))
      unfolding begin first_state
      first_begins = registers_alike x.begun.blocks (omega (arith, x.total)) (cleared_inv x.begun.lists) cleared_alike (register_count registers) (omega arith)

      pub unused_fits : u' ≤ length v₂
      unused_fits =
          let i = begin_inv x.begun in
          omega (arith, i.high, i.values_length, first_begins.unused, first_begins.same_length, h.holds.unused, ap length h.holds.values)

      same_begin : (t : Words) → vars ≡ count t variables → begin t inputs registers (length vs) ≡ begin x.table inputs registers (length vs)
      unfolding begin cleared
      same_begin t total = rw (← total, ← x.total)

      begins_at : {v₃ : Words} {k : ℕ} → k ≡ u' → v₃ ≡ take k v₂ ++ replicate (length v₂ - k) 0 → Holds (begin x.table inputs registers (length vs)) v₃ b₂ e₂ u'
      begins_at e cleared =
          let a = first_begins in
          let s = begin x.table inputs registers (length vs) in
          let m = h.holds in
          record {
            values = cleared ∙ rw (e, m.values, m.unused, a.values, a.same_length, a.unused) (zeros_from s.values s.unused (λ w less. ((begin_inv x.begun).clear w less).0));
            bases = m.bases ∙ a.bases;
            ends = m.ends ∙ a.ends;
            unused = m.unused ∙ a.unused;
          }

      pub has_begun : {v₃ : Words} {k : ℕ} → k ≡ u' → v₃ ≡ take k v₂ ++ replicate (length v₂ - k) 0 → HasBegun vars inputs registers vs v₃ b₂ e₂ u'
      has_begun e cleared = record { begins = λ t total. rw (same_begin t total) (begins_at e cleared) }

-- ---- a table that passed

-- A list from place a on, as a part of it is lent.
abbrev pub rest : ℕ → Words → Words
rest a xs = take (length xs - a) (drop a xs)

rest_drop : (a : ℕ) (xs : Words) → rest a xs ≡ drop a xs
rest_drop a xs = ap (λ (n : ℕ). take n (drop a xs)) (sym (length-drop a xs)) ∙ take-length (drop a xs)

stands : {t : Words} → Passed t → (s : ℕ) → s < 6 → Stands t s (section_of t s)
stands {t} ok s h =
    let k = section_ok t s (ok.types.sections s h) in
    record { first = refl; total = refl; limited = k.limited; extent = omega (arith, k.extent, section_end t s) }

module _ {t first sizes offsets notes : Words} {l : Table} (pr : IsProgram t first sizes offsets notes) (el : l ≡ layout t) where
  passes_all : Passed t
  passes_all = passed t pr.passed

  pub fields_stand : Stands t 1 l.fields
  fields_stand = rw el (stands passes_all 1 (omega arith))

  pub pointers_stand : Stands t 2 l.pointers
  pointers_stand = rw el (stands passes_all 2 (omega arith))

  pub variables_stand : Stands t 3 l.variables
  variables_stand = rw el (stands passes_all 3 (omega arith))

  pub nodes_stand : Stands t 4 l.nodes
  nodes_stand = rw el (stands passes_all 4 (omega arith))

  pub commands_stand : Stands t 5 l.commands
  commands_stand = rw el (stands passes_all 5 (omega arith))

  -- The lists that the evaluator reads.
  pub lists_are : (ls : Lists) → ls.nodes.now ≡ rest l.nodes.at t → ls.notes.now ≡ notes → ls.targets.now ≡ rest l.pointers.at t → ls.fields.now ≡ rest l.fields.at t → ls.firsts.now ≡ first → ls.sizes.now ≡ sizes
      → ls.offsets.now ≡ offsets → ListsOf t ls
  lists_are ls en eo ep ef er es et =
      let k = pr.lengths in
      let fs = fields_stand in
      let ps = pointers_stand in
      let ns = nodes_stand in
      let rs = stands passes_all 0 (omega arith) in
      let ln = en ∙ rest_drop l.nodes.at t in
      let lp = ep ∙ rest_drop l.pointers.at t in
      let lf = ef ∙ rest_drop l.fields.at t in
      record {
        passed = passes_all;
        node_is = λ n j h k. rw ln (get_or-drop l.nodes.at t (n * 3 + j) 0 ∙ sym (item_at ns n j (l.nodes.at + (n * 3 + j)) (omega arith)));
        node_room = rw ln (omega (arith, length-drop l.nodes.at t, ns.extent, ns.total));
        note_is = rw eo pr.left.noted;
        note_room = rw eo (omega (arith, k.notes_length, ns.limited, ns.total));
        target_is = λ i h. rw lp (get_or-drop l.pointers.at t i 0 ∙ sym (item_at ps i 0 (l.pointers.at + i) (omega arith)));
        target_room = rw lp (omega (arith, length-drop l.pointers.at t, ps.extent, ps.total));
        field_is = λ f h. rw lf (get_or-drop l.fields.at t (2 * f + 1) 0 ∙ sym (item_at fs f 1 (l.fields.at + (2 * f + 1)) (omega arith)));
        field_room = rw lf (omega (arith, length-drop l.fields.at t, fs.extent, fs.total));
        firsts = rw er pr.left.firsts;
        first_room = rw er (omega (arith, k.first_length, rs.limited, rs.total));
        size_is = rw es pr.left.size_is;
        size_room = rw es (omega (arith, k.size_length, rs.limited, rs.total));
        offset_is = rw et pr.left.offset_is;
        offset_room = rw et (omega (arith, k.offset_length, fs.limited, fs.total));
      }

  module _ (inputs registers vs bs es : Words) (e : passes ≡ rest_fault t inputs registers (length vs) (length bs) (length es)) where
    not_refused : call_fault t inputs registers (length vs) (length bs) (length es) ≡ passes
    unfolding call_fault
    not_refused = or_else_pass (check t) (rest_fault t inputs registers (length vs) (length bs) (length es)) pr.passed ∙ sym e

    call_begun : Begun t inputs registers (length vs) (length bs) (length es)
    call_begun = begun t inputs registers (length vs) (length bs) (length es) not_refused

    pub can_begin : {vars : ℕ} → vars ≡ l.variables.count → CanBegin vars inputs registers vs bs es
    can_begin h = record { table = t; total = h ∙ variables_stand.total; begun = call_begun }

    -- From the lists that a run begins with.
    module _ {vars u : ℕ} {v₁ b₁ e₁ : Words} (hv : vars ≡ l.variables.count) (h : HasBegun vars inputs registers vs v₁ b₁ e₁ u) where
      state : State
      state = begin t inputs registers (length vs)

      begins : Holds state v₁ b₁ e₁ u
      unfolding state
      begins = h.begins t (hv ∙ variables_stand.total)

      same_state : state ≡ state_with (lists v₁ b₁ e₁) u state.log
      same_state = holds_state begins

      first_length : length v₁ ≡ length vs
      unfolding state
      first_length = ap length begins.values ∙ (begin_inv call_begun).values_length

      starts : Starts t (lists v₁ b₁ e₁) u state.log
      unfolding state
      starts = rw (first_length, ← same_state) (begin_inv call_begun)

      module _ {w : ℕ} (watch : Watchable w t inputs registers vs bs es) where
        pub watched_small : w < 2 ^ 32
        watched_small = omega (arith, (watch.room not_refused).1, call_begun.lists.most)

        pub call_startable : {x : ℕ} → x ≡ w → Startable t u x v₁ b₁ e₁
        unfolding state
        call_startable e =
            let room = watch.room not_refused in
            record {
              log = state.log;
              inv = starts;
              most = omega (arith, first_length, call_begun.lists.most);
              from = omega (arith, room.0, begins.unused);
              upto = omega (arith, room.1, first_length);
            }

        pub call_executed : {x : ℕ} {r : Ending Cause} {vs' bs' es' : Words} → x ≡ w → Executed t v₁ b₁ e₁ u x r vs' bs' es' → Called w t inputs registers vs bs es (Ok r) vs' bs' es'
        unfolding call run explain state
        call_executed q x = record { is = rw (not_refused, ← q, same_state) (x.meets state.log starts) }

-- ---- a run's ending, told as an answer

same_ending : {e e' : semantics.Ending} {u u' : ℕ} → ending e u ≡ ending e' u' → e ≡ e'
same_ending h = cc

-- An abort tells the newest check of its log.
ended_explained : {t : Words} {w : ℕ} (vars : ℕ) {s : State} {o : Run} (e : Ending FailedCheck) → ending_of e ≡ (result_of o).answer → commands.Tells t w s o e
    → ended_because e ≡ started (block_start o.state.log w) (explanation vars o.ending o.state.log)
ended_explained vars (Done u) h commands.tells_done = rw (← same_ending h)
ended_explained {t} vars {s = s} {o = o} (Abort c u x) h (commands.tells_abort failed found) =
    rw (← same_ending h, failure_told vars t c c (commands_below t c s).state (check_told x) o.state failed, found)
ended_explained vars (NoRoom c u) h commands.tells_no_room = rw (← same_ending h)

pub told_executed : {t vs bs es : Words} {u w : ℕ} {e : Ending FailedCheck} {r : Ending Cause} {vs' bs' es' : Words} → commands.Executed t (lists vs bs es) u w e (lists vs' bs' es') → TellsEnded e r
    → Executed t vs bs es u w r vs' bs' es'
told_executed {t} {e = e} h told =
    record {
      meets = λ log inv.
          let m = h.meets log inv in
          rw (told.answer, told.explanation, m.answer, m.values, m.bases, m.ends, ended_explained (count t variables) e m.answer m.tells);
    }

pub told_abort : {e : Ending FailedCheck} {c u : ℕ} {r : Reason} {x : FailedCheck} → e ≡ Abort c u x → reason_number r ≡ reason_by x.place x.base x.end
    → TellsEnded e (Abort c u (record { node = x.node; place = x.place; words = x.words; base = x.base; end = x.end; reason = r; first = x.block }))
unfolding reason_of without_bounds
told_abort q h = rw q (record { answer = refl; explanation = rw h refl })

-- ---- a call in which nothing is to be found

-- The word after the last can be watched for: no block has it.
pub end_watchable : (t inputs registers vs bs es : Words) → Watchable (length vs) t inputs registers vs bs es
end_watchable t inputs registers vs bs es =
    record { room = λ e. ((begin_inv (begun t inputs registers (length vs) (length bs) (length es) e)).high, omega arith) }

-- Its answer alone is that of the run.
pub call_answered : {w : ℕ} {t inputs registers vs bs es : Words} {e : Result (Ending Cause) Refusal} {r : Result (Ending ⊤) Refusal} {vs' bs' es' : Words}
    → Called w t inputs registers vs bs es e vs' bs' es' → answer_of r ≡ answer_of e → Is (call t inputs registers vs bs es) r vs' bs' es'
call_answered h same =
    let all = ap (λ x. x.result) h.is in
    record { answer = same ∙ ap (λ x. x.answer) all; values = ap (λ x. x.values) all; bases = ap (λ x. x.bases) all; ends = ap (λ x. x.ends) all }
