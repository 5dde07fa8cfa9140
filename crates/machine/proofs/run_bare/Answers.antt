-- As in `call`. Beside the equation stands the theorem about the definitions.
use Rattle.std.proofs.Common.{sym, arith}
use Rattle.semantics.proofs.Agreement.{same_result}
use Rattle.layout.proofs.Laws.{handed_on}
use Rattle.table.proofs.Editions.{notes_long, room_to_note, left_as_of}
use Rattle.machine.proofs.Calls.{layout_passes, layout_refused}
use Rattle.machine.proofs.Bare.{bare_table_refused}
use Rattle.machine.proofs.run_bare.Goals as goal

pub returns-in_err-layout-clause-called : goal.returns-in_err-layout-clause-called
returns-in_err-layout-clause-called c =
    rw (handed_on c.from_residual.result _ c.from_residual.ensures.1) (bare_table_refused _ _ _ _ (layout_refused _ _ (sym c.in_err-layout.ensures.answer))).is

pub returns-in_err-layout-clause-agrees : goal.returns-in_err-layout-clause-agrees
returns-in_err-layout-clause-agrees c = let a = c.args in λ vs bs es. same_result a.t.now a.inputs.now a.registers.now vs bs es a.values.now

pub note_edition-requires : goal.note_edition-requires
note_edition-requires c =
    let e = c.in_ok-layout.ensures in
    let p = layout_passes _ _ (sym e.answer) in
    rw p.1 (room_to_note p.0 (e.left p.0))

pub invariant_of-p : goal.invariant_of-p
invariant_of-p c =
    let e = c.in_ok-layout.ensures in
    let p = layout_passes _ _ (sym e.answer) in
    let noted = rw p.1 at c.note_edition.ensures in
    record {
      passed = record {
        passed = p.0;
        left = left_as_of p.0 (e.left p.0) (notes_long e) noted;
        lengths = record { first_length = omega arith; size_length = omega arith; offset_length = omega arith; notes_length = omega arith };
      };
      laid_out = p.1;
    }

pub returns-clause-agrees : goal.returns-clause-agrees
returns-clause-agrees c = let a = c.args in λ vs bs es. same_result a.t.now a.inputs.now a.registers.now vs bs es a.values.now
