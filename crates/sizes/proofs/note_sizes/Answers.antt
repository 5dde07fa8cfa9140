-- The record at r is as the list has it, and its size fits.
use Rattle.std.proofs.Common.{ℕ, ◌≡◌, ◌≤◌, ◌<◌, ◌^◌, ◌++◌, drop, sym, ap, ◌∙◌, arith, length}
use Rattle.semantics.specs.Words.{Words}
use Rattle.semantics.specs.Table.{count, record_target, first_field, size_of}
use Rattle.semantics.proofs.Passed.{TypesPassed, section_ok}
use Rattle.semantics.proofs.Sizes.{size_most}
use Rattle.layout.specs.Types.{Tabulated, RecordIn}
use Rattle.layout.proofs.Types.{record_in}
use Rattle.sizes.specs.Sizes.{sizes_noted, offsets_noted}
use Rattle.sizes.proofs.Sums.{none_noted, one_sized, one_offset, offsets_length, sizes_front}
use Rattle.sizes.proofs.note_sizes.Goals as goal

few : {t : Words} → TypesPassed t → count t 0 ≤ 32
few {t} ok = (section_ok t 0 (ok.sections 0 (omega arith))).limited

here : {t first : Words} → TypesPassed t → Tabulated first (count t 0) (first_field t) → (records r : ℕ) → records ≡ count t 0 → r < records
    → RecordIn t first r × (size_of t (record_target r) < 2 ^ 32)
here {t} ok firsts records r total less =
    let known : r < count t 0 = omega arith in
    (record_in ok firsts r known, omega (arith, size_most ok r known))

pub slice_bounds-size-items-end : goal.slice_bounds-size-items-end
slice_bounds-size-items-end c = omega (arith, few c.requires.stands.1)

pub loop-r-init : goal.loop-r-init
loop-r-init c = (sym (none_noted _ _).0, sym (none_noted _ _).1)

pub add_up-requires : goal.add_up-requires
add_up-requires c =
    let p = c.requires.stands in
    let h = here p.1 p.3 _ c.loop-r.r p.2 (omega (arith, few p.1)) in
    (p.0, h.0, h.1)

pub note_offsets-requires : goal.note_offsets-requires
note_offsets-requires c =
    let p = c.requires.stands in
    let h = here p.1 p.3 _ c.loop-r.r p.2 (omega (arith, few p.1)) in
    (p.0, h.0, h.1, ap length c.loop-r.invariant.1 ∙ offsets_length c.args.t.now c.args.offsets.now c.loop-r.r ∙ c.requires.sizes_len.1)

pub loop-r-preserved : goal.loop-r-preserved
loop-r-preserved c =
    let a = c.loop-r in
    (one_sized _ _ a.r _ a.invariant.0 c.add_up.ensures, one_offset _ _ a.r a.invariant.1 c.note_offsets.ensures)

pub returns : goal.returns
returns c =
    let p = c.requires.stands in
    let room : c.args.records ≤ length c.args.sizes.now = omega (arith, few p.1) in
    let all : c.loop-r.r ≡ c.args.records = omega (arith, few p.1) in
    let t = c.args.t.now in (
      ap (λ (l : Words). l ++ drop c.args.records c.args.sizes.now) (rw all at c.loop-r.invariant.0) ∙ sizes_front t c.args.sizes.now c.args.records room ∙ ap (λ (n : ℕ). sizes_noted t n c.args.sizes.now) p.2,
      c.loop-r.invariant.1 ∙ ap (λ (n : ℕ). offsets_noted t n c.args.offsets.now) (all ∙ p.2),
    )
