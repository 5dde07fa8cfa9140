-- Laws of the whole check, whose parts are gone through in turn.
use Rattle.std.specs.Prelude.{Result}
use Prim.Native.Nat.{ℕ, ◌+◌, ◌<◌}
use mathlib.Core.Path.{◌≡◌, ◌∙◌}
use native.Mathlib.Omega.{arith}
use lib.ListN.{length}
use Rattle.semantics.specs.Words.{Words, word}
use Rattle.semantics.specs.Table.{edition_1, records, fields, pointers, variables, nodes, commands, count, record_target, field_total, first_field, field_offset, size_of}
use Rattle.semantics.specs.Check.{Verdict, passes, refused, ◌or_else◌, each, edition_fault, section_fault, words_over, record_fault, field_sum_fault, field_fault, pointer_fault, variable_fault, node_fault, command_fault, use_fault, uses, check}
use Rattle.semantics.proofs.Passed.{or_else_passes, each_passes, TypesPassed, section_ok, fields_in}
use Rattle.layout.specs.Layout.{sections_fault, layout_by, parsed}
use Rattle.layout.specs.Lists.{by_verdict}
use Rattle.layout.specs.Types.{types_fault, first_left}
use Rattle.layout.specs.Refusals as answer
use Rattle.layout.specs.Refusals.{number_of, Outcome, outcome_of}
use Rattle.layout.specs.declared.Refusal.{Refusal}
use Rattle.layout.specs.declared.Table.{Table}
use Rattle.layout.proofs.Laws.{or_else_pass, or_else_refuse, or_else_assoc}
use Rattle.sizes.specs.Sizes.{sizes_noted, offsets_noted}
use Rattle.sizes.proofs.Sums.{size_at, offset_at}
use Rattle.table.specs.Promises.{notes_noted, NodesNoted, CommandsCounted, AllCounted, Left, Checks}

abbrev pub all_nodes : Words → Verdict
all_nodes t = each (count t nodes) (node_fault t)

abbrev pub all_commands : Words → Verdict
all_commands t = each (count t commands) (command_fault t)

abbrev pub all_uses : Words → Verdict
all_uses t = each (count t nodes) (use_fault t)

-- The first part that refuses is the refusal of the whole.
module _ (t : Words) where
  parts : check t ≡ sections_fault t or_else types_fault t or_else all_nodes t or_else all_commands t or_else all_uses t
  unfolding check types_fault
  parts = simp or_else_assoc

  pub sections_refuse : {n p : ℕ} → sections_fault t ≡ refused n p → check t ≡ refused n p
  sections_refuse e = parts ∙ or_else_refuse (sections_fault t) _ e

  module _ (sections_pass : sections_fault t ≡ passes) where
    past_sections : check t ≡ types_fault t or_else all_nodes t or_else all_commands t or_else all_uses t
    past_sections = parts ∙ or_else_pass (sections_fault t) _ sections_pass

    pub types_refuse : {n p : ℕ} → types_fault t ≡ refused n p → check t ≡ refused n p
    types_refuse e = past_sections ∙ or_else_refuse (types_fault t) _ e

    module _ (types_pass : types_fault t ≡ passes) where
      past_types : check t ≡ all_nodes t or_else all_commands t or_else all_uses t
      past_types = past_sections ∙ or_else_pass (types_fault t) _ types_pass

      pub nodes_refuse : {n p : ℕ} → all_nodes t ≡ refused n p → check t ≡ refused n p
      nodes_refuse e = past_types ∙ or_else_refuse (all_nodes t) _ e

      module _ (nodes_pass : all_nodes t ≡ passes) where
        past_nodes : check t ≡ all_commands t or_else all_uses t
        past_nodes = past_types ∙ or_else_pass (all_nodes t) _ nodes_pass

        pub commands_refuse : {n p : ℕ} → all_commands t ≡ refused n p → check t ≡ refused n p
        commands_refuse e = past_nodes ∙ or_else_refuse (all_commands t) _ e

        pub past_commands : all_commands t ≡ passes → check t ≡ all_uses t
        past_commands e = past_nodes ∙ or_else_pass (all_commands t) _ e

pub types_passed : (t : Words) → sections_fault t ≡ passes → types_fault t ≡ passes → TypesPassed t
unfolding types_fault
types_passed t s e =
    let p0 = or_else_passes (each 6 (section_fault t)) (words_over t) (or_else_passes (edition_fault t) _ s).1 in
    let p1 = or_else_passes (each (count t records) (record_fault t)) _ e in
    let p2 = or_else_passes (field_sum_fault t) _ p1.1 in
    let p3 = or_else_passes (each (count t fields) (field_fault t)) _ p2.1 in
    let p4 = or_else_passes (each (count t pointers) (pointer_fault t)) _ p3.1 in
    record {
      sections = each_passes 6 (section_fault t) p0.0;
      exact = p0.1;
      record_passes = each_passes (count t records) (record_fault t) p1.0;
      field_sum = p2.0;
      field_passes = each_passes (count t fields) (field_fault t) p3.0;
      pointer_passes = each_passes (count t pointers) (pointer_fault t) p4.0;
      variable_passes = each_passes (count t variables) (variable_fault t) p4.1;
    }

pub all_counted : {t notes used used' : Words} → NodesNoted t notes used (count t nodes) → CommandsCounted t used used' (count t commands) → AllCounted t used'
unfolding uses
all_counted h k = record { all = λ i. omega (arith, k.more i, h.counted i) }

-- What is noted of records has room.
pub records_noted : {t sizes' offsets' : Words} (sizes offsets : Words) → TypesPassed t → length sizes ≡ 32 → length offsets ≡ 128
    → sizes' ≡ sizes_noted t (count t records) sizes → offsets' ≡ offsets_noted t (count t records) offsets
    → ((r : ℕ) → r < count t records → word sizes' r ≡ size_of t (record_target r))
    × ((r f : ℕ) → r < count t records → f < field_total t r → word offsets' (first_field t r + f) ≡ field_offset t r f)
records_noted {t} sizes offsets ok size_length offset_length e q = (
  λ r less. rw e (size_at t sizes (count t records) r (omega (arith, (section_ok t 0 (ok.sections 0 (omega arith))).limited)) less),
  λ r f less inside. rw q (offset_at t offsets (count t records) r f (omega (arith, fields_in ok r less, (section_ok t 1 (ok.sections 1 (omega arith))).limited)) less inside),
)

pub parsed_layout : (t : Words) → sections_fault t ≡ passes → parsed t ≡ layout_by t passes
unfolding parsed
parsed_layout t e = rw e

-- ---- the answer and the lists, where a part is refused and where all pass

no_pass : {v : Verdict} {n p : ℕ} {P : Type 0} → v ≡ refused n p → v ≡ passes → P
no_pass e q = absurd (let z : ◌≡◌ {A = ℕ} 0 1 = cc in omega arith)

module _ (t first sizes offsets notes : Words) where
  pub sections_ended : {n p : ℕ} {r : Result Table Refusal} → outcome_of r ≡ answer.refused n p → sections_fault t ≡ refused n p → Checks t first first sizes sizes offsets offsets notes notes r
  sections_ended q e =
      let whole = sections_refuse t e in
      record { answer = rw whole q; first_is = rw e; notes_is = rw (or_else_refuse (sections_fault t) (types_fault t) e); sizes_is = rw whole; offsets_is = rw whole; left = no_pass whole }

  module _ (sections_pass : sections_fault t ≡ passes) {first' : Words} (h : first' ≡ first_left t first) where
    pub types_ended : {n p : ℕ} {r : Result Table Refusal} → outcome_of r ≡ answer.refused n p → types_fault t ≡ refused n p → Checks t first first' sizes sizes offsets offsets notes notes r
    types_ended q e =
        let whole = types_refuse t sections_pass e in
        record { answer = rw whole q; first_is = rw sections_pass h; notes_is = rw (or_else_pass (sections_fault t) (types_fault t) sections_pass, e); sizes_is = rw whole; offsets_is = rw whole; left = no_pass whole }

    module _ (types_pass : types_fault t ≡ passes) {notes' : Words} (k : notes' ≡ notes_noted t notes) where
      notes_left : notes' ≡ by_verdict (sections_fault t or_else types_fault t) (notes_noted t notes) notes
      notes_left = rw (or_else_pass (sections_fault t) (types_fault t) sections_pass, types_pass) k

      pub rest_ended : {n p : ℕ} {r : Result Table Refusal} → outcome_of r ≡ answer.refused n p → check t ≡ refused n p → Checks t first first' sizes sizes offsets offsets notes notes' r
      rest_ended q e = record { answer = rw e q; first_is = rw sections_pass h; notes_is = notes_left; sizes_is = rw e; offsets_is = rw e; left = no_pass e }

      pub all_passed : {sizes' offsets' : Words} {r : Result Table Refusal} → check t ≡ passes → outcome_of r ≡ layout_by t passes
          → sizes' ≡ sizes_noted t (count t records) sizes → offsets' ≡ offsets_noted t (count t records) offsets → Left edition_1 t first' sizes' offsets' notes'
          → Checks t first first' sizes sizes' offsets offsets' notes notes' r
      all_passed e q a b l = record { answer = rw e q; first_is = rw sections_pass h; notes_is = notes_left; sizes_is = rw e a; offsets_is = rw e b; left = λ p. l }
