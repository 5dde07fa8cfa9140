-- Laws of notes to which the edition is added.
use Rattle.std.specs.Prelude.{Result}
use Prim.Native.Nat.{ℕ, ◌+◌, ◌≤◌, ◌<◌}
use mathlib.Core.Path.{◌≡◌, refl, ap, ◌∙◌}
use native.Mathlib.Omega.{arith}
use borrow.Author.Tests.{ltb-true}
use lib.ListN.{length, take}
use Rattle.std.proofs.lemmas.List.{get_or-take}
use Rattle.semantics.specs.Words.{Words, word}
use Rattle.semantics.specs.Table.{Edition, edition_1, edition_2, edition, pointers, nodes, count, known_type, node_type}
use Rattle.semantics.specs.Check.{Verdict, passes, refused, ◌or_else◌, check}
use Rattle.semantics.proofs.Passed.{passed, section_ok}
use Rattle.semantics.proofs.Trees.{types_known}
use Rattle.layout.specs.Layout.{sections_fault}
use Rattle.layout.specs.Lists.{by_verdict}
use Rattle.layout.specs.Types.{types_fault}
use Rattle.layout.specs.declared.Refusal.{Refusal}
use Rattle.layout.specs.declared.Table.{Table}
use Rattle.layout.specs.Notes.{as_of, note}
use Rattle.layout.proofs.Notes.{note_few}
use Rattle.layout.specs.Lists.{filled}
use Rattle.layout.proofs.Lists.{filled_at, filled_after, filled_length}
use Rattle.table.specs.Promises.{notes_noted, edition_noted, Left, Checks}

module _ (n : ℕ) (l : Words) where
  pub edition_at : (e : Edition) (i : ℕ) → i < n → n ≤ length l → word (edition_noted e n l) i ≡ as_of e (word l i)
  edition_at edition_1 i less room = refl
  edition_at edition_2 i less room = filled_at l 0 _ n i i (omega arith) (omega arith) less

-- A note among the first n to which nothing is added yet.
pub still : (n i : ℕ) (l : Words) (g : ℕ → ℕ) {l' : Words} → l' ≡ filled (take n l) 0 i g → i < n → word l' i ≡ word l i
still n i l g e less = ap (λ (k : Words). word k i) e ∙ filled_after (take n l) 0 g i i (omega arith) ∙ get_or-take n l i 0 less

-- The check leaves its list of notes as long as it was.
pub notes_long : {t first first' sizes sizes' offsets offsets' notes notes' : Words} {r : Result Table Refusal} → Checks t first first' sizes sizes' offsets offsets' notes notes' r
    → length notes' ≡ length notes
unfolding notes_noted
notes_long {t} {notes = notes} c = ap length c.notes_is ∙ go (sections_fault t or_else types_fault t)
  where
    go : (v : Verdict) → length (by_verdict v (notes_noted t notes) notes) ≡ length notes
    go passes = filled_length notes 0 _ _
    go (refused n p) = refl

-- What the check leaves, with the edition added to its notes.
module _ {t first sizes offsets notes : Words} (pass : check t ≡ passes) (left : Left edition_1 t first sizes offsets notes) where
  few_nodes : count t nodes ≤ 512
  few_nodes = (section_ok t 4 ((passed t pass).types.sections 4 (omega arith))).limited

  small : (i : ℕ) → i < count t nodes → node_type t i < 128
  unfolding known_type
  small i less =
      let p = passed t pass in
      let few : count t pointers ≤ 64 = (section_ok t 2 (p.types.sections 2 (omega arith))).limited in
      omega (arith, ltb-true (node_type t i) (2 + count t pointers) (types_known p.types (count t nodes) p.node_passes i less), few)

  pub room_to_note : (count t nodes ≤ 512) × ((i : ℕ) → i < count t nodes → word notes i < 4096)
  room_to_note = (few_nodes, λ i less. rw (left.noted i less) (note_few edition_1 t i (small i less)))

  pub left_as_of : {notes' : Words} → length notes ≡ 512 → notes' ≡ edition_noted (edition t) (count t nodes) notes → Left (edition t) t first sizes offsets notes'
  unfolding note
  left_as_of long e =
      record {
        noted = λ i less. rw e (edition_at (count t nodes) notes (edition t) i less (omega (arith, few_nodes)) ∙ ap (as_of (edition t)) (left.noted i less));
        firsts = left.firsts;
        size_is = left.size_is;
        offset_is = left.offset_is;
      }
