-- The parts are checked in the order of `types_fault`.
use Rattle.std.proofs.Common.{sym, ◌∙◌, arith}
use Rattle.semantics.specs.Table.{count, first_field}
use Rattle.layout.proofs.Laws.{refusal_on}
use Rattle.layout.proofs.Lists.{filled_tabulated}
use Rattle.layout.proofs.Types.{record_refused, records_by, records_refused, field_refused, pointer_refused, past_pointers, none_left, first_alone, both_left}
use Rattle.layout.proofs.check_types.Goals as goal

pub returns-in_err-check_records-clause-found : goal.returns-in_err-check_records-clause-found
returns-in_err-check_records-clause-found c =
    refusal_on c.from_residual.result _ c.from_residual.ensures.1 (records_refused _ (record_refused _ c.in_err-check_records.ensures))

pub returns-in_err-check_records-clause-lists : goal.returns-in_err-check_records-clause-lists
returns-in_err-check_records-clause-lists c = none_left _ _ _ (record_refused _ c.in_err-check_records.ensures)

pub returns-in_err-require-clause-found : goal.returns-in_err-require-clause-found
returns-in_err-require-clause-found c =
    let h = c.requires.laid_out.fields_stand in
    let on = c.from_residual-in_err-require in
    refusal_on on.result _ on.ensures.1 (records_refused _ (records_by _ c.in_ok-check_records.ensures c.total_fields-total.ensures h.total (omega (arith, h.first)) c.in_err-require.ensures.faults))

pub returns-in_err-require-clause-lists : goal.returns-in_err-require-clause-lists
returns-in_err-require-clause-lists c =
    let h = c.requires.laid_out.fields_stand in
    none_left _ _ _ (records_by _ c.in_ok-check_records.ensures c.total_fields-total.ensures h.total (omega (arith, h.first)) c.in_err-require.ensures.faults)

pub returns-in_err-check_fields-clause-found : goal.returns-in_err-check_fields-clause-found
returns-in_err-check_fields-clause-found c =
    let h = c.requires.laid_out.fields_stand in
    let pass = records_by _ c.in_ok-check_records.ensures c.total_fields-total.ensures h.total (omega (arith, h.first)) c.in_ok-require.ensures.faults in
    let on = c.from_residual-in_err-check_fields in
    refusal_on on.result _ on.ensures.1 (field_refused _ pass c.in_err-check_fields.ensures)

pub returns-in_err-check_fields-clause-lists : goal.returns-in_err-check_fields-clause-lists
returns-in_err-check_fields-clause-lists c =
    let h = c.requires.laid_out.fields_stand in
    let pass = records_by _ c.in_ok-check_records.ensures c.total_fields-total.ensures h.total (omega (arith, h.first)) c.in_ok-require.ensures.faults in
    first_alone _ _ _ pass c.note_first.ensures (sym c.in_err-check_fields.ensures)

pub returns-in_err-check_pointers-clause-found : goal.returns-in_err-check_pointers-clause-found
returns-in_err-check_pointers-clause-found c =
    let h = c.requires.laid_out.fields_stand in
    let pass = records_by _ c.in_ok-check_records.ensures c.total_fields-total.ensures h.total (omega (arith, h.first)) c.in_ok-require.ensures.faults in
    let on = c.from_residual-in_err-check_pointers in
    refusal_on on.result _ on.ensures.1 (pointer_refused _ pass c.in_ok-check_fields.ensures c.in_err-check_pointers.ensures.found.verdict)

pub returns-in_err-check_pointers-clause-lists : goal.returns-in_err-check_pointers-clause-lists
returns-in_err-check_pointers-clause-lists c =
    let h = c.requires.laid_out.fields_stand in
    let pass = records_by _ c.in_ok-check_records.ensures c.total_fields-total.ensures h.total (omega (arith, h.first)) c.in_ok-require.ensures.faults in
    both_left _ _ _ pass c.note_first.ensures (sym c.in_ok-check_fields.ensures) c.check_pointers.ensures.lists

pub returns-clause-found : goal.returns-clause-found
returns-clause-found c =
    let t = c.args.t.now in
    let records = c.requires.laid_out.records_stand in
    let h = c.requires.laid_out.fields_stand in
    let pass = records_by _ c.in_ok-check_records.ensures c.total_fields-total.ensures h.total (omega (arith, h.first)) c.in_ok-require.ensures.faults in
    let pointers = c.in_ok-check_pointers.ensures.found.verdict in
    record {
      verdict = c.check_variables.ensures ∙ past_pointers _ pass c.in_ok-check_fields.ensures pointers;
      found = λ q. record {
        firsts = filled_tabulated _ (count t 0) (first_field t) (omega (arith, c.requires.room.first_length, records.limited, records.total)) c.note_first.ensures;
        marks = c.in_ok-check_pointers.ensures.found.found (sym pointers);
      };
    }

pub returns-clause-lists : goal.returns-clause-lists
returns-clause-lists c =
    let h = c.requires.laid_out.fields_stand in
    let pass = records_by _ c.in_ok-check_records.ensures c.total_fields-total.ensures h.total (omega (arith, h.first)) c.in_ok-require.ensures.faults in
    both_left _ _ _ pass c.note_first.ensures (sym c.in_ok-check_fields.ensures) c.check_pointers.ensures.lists
