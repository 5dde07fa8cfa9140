-- What a call of the machine says, for what is told of it.
use Prim.Native.Nat.{ℕ, ◌+◌, ◌≤◌}
use mathlib.Core.List.{◌++◌}
use mathlib.Core.Path.{◌≡◌, refl, sym, ap, ◌∙◌}
use native.Mathlib.Omega.{arith}
use lib.ListN.{length, take, drop}
use Rattle.semantics.specs.Words.{Words}
use Rattle.semantics.specs.Check.{Verdict, passes, refused, ◌or_else◌, each, edition_fault, section_fault, words_over, check, call_fault}
use Rattle.semantics.specs.Run.{refusal, ending, abort, call}
use Rattle.semantics.specs.Explain.{explain}
use Rattle.semantics.proofs.Safety.{begun}
use Rattle.layout.specs.Layout.{parsed}
use Rattle.layout.specs.Refusals as answer
use Rattle.layout.proofs.Laws.{or_else_assoc}
use Rattle.layout.proofs.Sections.{parsed_refused}
use Rattle.machine.specs.Run.{answer_of}
use Rattle.machine.specs.Explain.{explained_of}
use Rattle.std.specs.Prelude.{Result, Ok, Err}
use Rattle.layout.specs.Refusals.{number_of}
use Rattle.layout.specs.declared.Refusal.{Refusal}
use Rattle.machine.specs.declared.Cause.{Cause}
use Rattle.commands.specs.declared.Ending.{Ending}
use Rattle.commands.specs.declared.Ending.TheVariants.{Done, Abort, NoRoom}
use Rattle.machine.proofs.Calls.{table_refused}
use Rattle.machine.proofs.Explaining.{no_abort}
use Rattle.stream.specs.Items.{Prints, bytes_of}
use Rattle.text.specs.declared.Output.{Output}
use Rattle.steps.specs.Answers.{SameLists}
use Rattle.steps.specs.declared.Memory.{Memory}
use Rattle.cases.specs.declared.Program.{Program}
use Rattle.why.specs.Told.{ended_line, told_lines, Walkable, Tells}
use Rattle.why.proofs.Room.{told_room}

-- The first refusal of three stands.
first_refused : (u v w : Verdict) {n p : ℕ} → u or_else v ≡ refused n p → u or_else (v or_else w) ≡ refused n p
unfolding ◌or_else◌
first_refused passes passes w e = absurd (let z : ◌≡◌ {A = ℕ} 0 1 = cc in omega arith)
first_refused passes (refused m q) w e = e
first_refused (refused m q) v w e = e

table_fault : (t : Words) {n p : ℕ} → parsed t ≡ answer.refused n p → check t ≡ refused n p
unfolding check
table_fault t e =
    ap (λ v. edition_fault t or_else v) (sym (or_else_assoc (each 6 (section_fault t)) (words_over t) _))
    ∙ first_refused (edition_fault t) (each 6 (section_fault t) or_else words_over t) _ (parsed_refused t e)

module _ (t inputs l vs bs es : Words) where
  refusal_is : (r : Refusal) → parsed t ≡ answer.refused (number_of r.fault) r.place → explained_of (Err r) vs bs es ≡ explain t inputs l vs bs es
  refusal_is r e = no_abort (table_refused 0 t inputs l vs bs es (sym (table_fault t e))) refl

  -- A run that aborted was begun.
  not_refused : {c u : ℕ} → ending (abort c) u ≡ (call t inputs l vs bs es).answer → call_fault t inputs l (length vs) (length bs) (length es) ≡ passes
  unfolding call
  not_refused e = go (call_fault t inputs l (length vs) (length bs) (length es)) refl
    where
      go : (v : Verdict) → call_fault t inputs l (length vs) (length bs) (length es) ≡ v → call_fault t inputs l (length vs) (length bs) (length es) ≡ passes
      go passes q = q
      go (refused n p) q = absurd (let z : ◌≡◌ {A = ℕ} 0 1 = (let f = rw q at e in cc) in omega arith)

  answer_is : (e : Result (Ending Cause) Refusal) (vs' bs' es' : Words) → explained_of e vs' bs' es' ≡ explain t inputs l vs bs es → answer_of e ≡ (call t inputs l vs bs es).answer
  unfolding explain
  answer_is e vs' bs' es' q = ap (λ y. y.result.answer) q

  pub walkable : (e : Result (Ending Cause) Refusal) (vs' bs' es' : Words) → explained_of e vs' bs' es' ≡ explain t inputs l vs bs es → Walkable l e
  walkable (Err r) vs' bs' es' q = tt
  walkable (Ok (Done u)) vs' bs' es' q = tt
  walkable (Ok (Abort c u x)) vs' bs' es' q = (begun t inputs l (length vs) (length bs) (length es) (not_refused (answer_is (Ok (Abort c u x)) vs' bs' es' q))).blocks.extent
  walkable (Ok (NoRoom c u)) vs' bs' es' q = tt

-- ---- what is printed

-- Items that are put in an output with room for them.
pub tells : {p : Program} {m m' : Memory} {out out' : Output} (e : Result (Ending Cause) Refusal) → out.at + 512 ≤ length out.bytes.now
    → explained_of e m'.values.now m'.bases.now m'.ends.now ≡ explain p.table.now p.inputs.now p.registers.now m.values.now m.bases.now m.ends.now
    → SameLists m m' → Prints (told_lines p.table.now p.registers.now e) out out' → Tells p m out m' out'
tells {p} {out = out} {out' = out'} e room q same h =
    let t = p.table.now in
    let l = p.registers.now in
    let f = h.puts.fits (omega (arith, told_room t l e)) in
    record {
      answer = e;
      is = q;
      same_lists = same;
      same_bytes = h.same_bytes;
      place = f.1;
      bytes = f.0 ∙ ap (λ k. take out.at out.bytes.now ++ bytes_of (told_lines t l e) ++ drop k out.bytes.now) (sym f.1);
    }

-- A table whose sections are refused.
pub tells_refused : {p : Program} {m : Memory} {out out' : Output} (r : Refusal) → out.at + 512 ≤ length out.bytes.now → parsed p.table.now ≡ answer.refused (number_of r.fault) r.place
    → Prints (ended_line (refusal (number_of r.fault) r.place)) out out' → Tells p m out m out'
unfolding told_lines
tells_refused {p} {m} r room e h =
    tells (Err r) room (refusal_is p.table.now p.inputs.now p.registers.now m.values.now m.bases.now m.ends.now r e) (record { values = refl; bases = refl; ends = refl }) h
