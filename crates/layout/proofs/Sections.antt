-- Laws of the check of sections.
use Prim.Native.Nat.{ℕ, suc, ◌+◌, ◌*◌, ◌^◌, ◌≤◌, ◌<◌}
use mathlib.Core.Path.{◌≡◌, refl, sym, ◌∙◌}
use lib.Dec.{leb, ltb}
use native.Mathlib.Omega.{arith}
use lib.ListN.{length}
use Rattle.semantics.specs.Words.{Words, word}
use Rattle.semantics.specs.Table.{edition, entry_words, limits, count_place, count}
use Rattle.semantics.specs.Check.{Verdict, passes, refused, ◌or_else◌, require, each, edition_fault, section_fault, words_over}
use Rattle.semantics.proofs.Passed.{or_else_passes, each_passes, section_ok}
use Rattle.layout.specs.Layout.{start_by, section_of, section_by, sections_fault, layout, layout_by, parsed, Stands, LaidOut}
use Rattle.layout.specs.Refusals as answer
use Rattle.layout.specs.Refusals.{Outcome}
use Rattle.layout.specs.declared.Section.{Section}
use Rattle.layout.specs.declared.Table.{Table}
use Rattle.layout.proofs.Editions.{started_at}
use Rattle.layout.proofs.Laws.{or_else_pass, or_else_refuse, each_refuses}

-- What is read of section s: its count stands at place, its entries have words words, and there are at most limit.
module _ (t : Words) (s place words limit : ℕ) (p : place ≡ count_place t s) (w : words ≡ word entry_words s) (l : limit ≡ word limits s) where
  as_required : section_fault t s ≡ require (ltb place (length t)) 1 (length t) or_else require (leb (word t place) limit) 3 place or_else require (leb (place + 1 + words * word t place) (length t)) 1 (length t)
  unfolding section_fault count count_place
  as_required = rw (← p, ← w, ← l)

  by_fault : {a q : ℕ} → section_fault t s ≡ refused a q → answer.refused a q ≡ section_by t s (section_fault t s)
  by_fault e = rw e

  pub count_missing : {a q : ℕ} → refused a q ≡ require (ltb place (length t)) 1 (length t) → answer.refused a q ≡ section_by t s (section_fault t s)
  count_missing e = by_fault (as_required ∙ or_else_refuse _ _ (sym e))

  module _ (here : passes ≡ require (ltb place (length t)) 1 (length t)) where
    pub over_limit : {a q : ℕ} → refused a q ≡ require (leb (word t place) limit) 3 place → answer.refused a q ≡ section_by t s (section_fault t s)
    over_limit e = by_fault (as_required ∙ or_else_pass _ _ (sym here) ∙ or_else_refuse _ _ (sym e))

    module _ (few : passes ≡ require (leb (word t place) limit) 3 place) where
      last : section_fault t s ≡ require (leb (place + 1 + words * word t place) (length t)) 1 (length t)
      last = as_required ∙ or_else_pass _ _ (sym here) ∙ or_else_pass _ _ (sym few)

      pub cut_short : {a q : ℕ} → refused a q ≡ require (leb (place + 1 + words * word t place) (length t)) 1 (length t) → answer.refused a q ≡ section_by t s (section_fault t s)
      cut_short e = by_fault (last ∙ sym e)

      pub section_is : passes ≡ require (leb (place + 1 + words * word t place) (length t)) 1 (length t)
          → answer.is (record { at = place + 1; count = word t place }) ≡ section_by t s (section_fault t s)
      unfolding count
      section_is e = rw (last, ← e, p)

-- The sections before s pass, and r is what was read of section s.
pub record Answer (t : Words) (s : ℕ) (r : Outcome Section) : Type 0 where
  pub fits : length t < 2 ^ 64
  pub edition : edition_fault t ≡ passes
  pub before : each s (section_fault t) ≡ passes
  pub answer : r ≡ section_by t s (section_fault t s)

-- Sections 0 to s pass, and l is section s.
pub record ReadTo (t : Words) (s : ℕ) (l : Section) : Type 0 where
  pub fits : length t < 2 ^ 64
  pub edition : edition_fault t ≡ passes
  pub passed : each (suc s) (section_fault t) ≡ passes
  pub is : l ≡ section_of t s
  pub next : l.at + word entry_words s * l.count ≡ count_place t (suc s)
  pub limited : l.count ≤ word limits s
  pub within : count_place t (suc s) ≤ length t

module _ (t : Words) (s : ℕ) (r : Outcome Section) where
  by_is : (v : Verdict) (l : Section) → r ≡ section_by t s v → r ≡ answer.is l → (v ≡ passes) × (l ≡ section_of t s)
  by_is passes l e q = (refl, cc)
  by_is (refused n p) l e q = cc

  by_refused : (v : Verdict) (n p : ℕ) → r ≡ section_by t s v → r ≡ answer.refused n p → v ≡ refused n p
  by_refused passes n p e q = cc
  by_refused (refused a b) n p e q = cc

  read_to : (l : Section) → Answer t s r → r ≡ answer.is l → ReadTo t s l
  unfolding each ◌or_else◌ count_place count
  read_to l a q =
      let b = by_is (section_fault t s) l a.answer q in
      let ok = section_ok t s b.0 in
      record {
        fits = a.fits;
        edition = a.edition;
        passed = rw (a.before, b.0) refl;
        is = b.1;
        next = rw b.1 refl;
        limited = rw b.1 ok.limited;
        within = ok.extent;
      }

  refused_at : (n p : ℕ) → s < 6 → Answer t s r → r ≡ answer.refused n p → answer.refused n p ≡ parsed t
  unfolding parsed ◌or_else◌
  refused_at n p h a q = rw (a.edition, ← each_refuses (section_fault t) s a.before 6 h (by_refused (section_fault t s) n p a.answer q)) refl

-- What a call of `Section::parse` at place tells of its answer r.
abbrev pub Told : Words → ℕ → ℕ → ℕ → Outcome Section → Type 0
Told t place words limit r = (s : ℕ) → place ≡ count_place t s → words ≡ word entry_words s → limit ≡ word limits s → r ≡ section_by t s (section_fault t s)

module _ (t : Words) where
  first_answer : {p : ℕ} {r : Outcome Section} → length t < 2 ^ 64 → answer.is p ≡ start_by (edition t) (edition_fault t) → Told t p 1 32 r → Answer t 0 r
  unfolding each count_place
  first_answer fits e told =
      let first = started_at (edition t) (edition_fault t) e in
      record { fits = fits; edition = first.0; before = refl; answer = told 0 first.1 refl refl }

  next_answer : (s : ℕ) {l : Section} {place : ℕ} {r : Outcome Section} → ReadTo t s l → Told t place (word entry_words (suc s)) (word limits (suc s)) r
      → place ≡ l.at + word entry_words s * l.count → Answer t (suc s) r
  next_answer s g told e = record { fits = g.fits; edition = g.edition; before = g.passed; answer = told (suc s) (e ∙ g.next) refl refl }

  next_read : (s : ℕ) {l l' : Section} {place : ℕ} → ReadTo t s l → Told t place (word entry_words (suc s)) (word limits (suc s)) (answer.is l')
      → place ≡ l.at + word entry_words s * l.count → ReadTo t (suc s) l'
  next_read s {l' = l'} g told e = read_to t (suc s) (answer.is l') l' (next_answer s g told e) refl

  -- And what its refusal tells of the whole.
  pub first_refused : {p a b : ℕ} → length t < 2 ^ 64 → answer.is p ≡ start_by (edition t) (edition_fault t) → Told t p 1 32 (answer.refused a b) → answer.refused a b ≡ parsed t
  first_refused fits e told = refused_at t 0 _ _ _ (omega arith) (first_answer fits e told) refl

  pub next_refused : (s : ℕ) {l : Section} {place a b : ℕ} → s < 5 → ReadTo t s l → Told t place (word entry_words (suc s)) (word limits (suc s)) (answer.refused a b)
      → place ≡ l.at + word entry_words s * l.count → answer.refused a b ≡ parsed t
  next_refused s few g told e = refused_at t (suc s) _ _ _ (omega arith) (next_answer s g told e) refl

  -- The sections read in turn.
  module _ (fits : length t < 2 ^ 64) {p : ℕ} (start : answer.is p ≡ start_by (edition t) (edition_fault t)) {records : Section} (told₀ : Told t p 1 32 (answer.is records)) where
    pub to_records : ReadTo t 0 records
    to_records = read_to t 0 (answer.is records) records (first_answer fits start told₀) refl

    module _ {fields : Section} (told₁ : Told t (records.at + records.count) 2 128 (answer.is fields)) where
      pub to_fields : ReadTo t 1 fields
      to_fields = next_read 0 to_records told₁ (omega arith)

      module _ {pointers : Section} (told₂ : Told t (fields.at + 2 * fields.count) 1 64 (answer.is pointers)) where
        pub to_pointers : ReadTo t 2 pointers
        to_pointers = next_read 1 to_fields told₂ (omega arith)

        module _ {variables : Section} (told₃ : Told t (pointers.at + pointers.count) 1 64 (answer.is variables)) where
          pub to_variables : ReadTo t 3 variables
          to_variables = next_read 2 to_pointers told₃ (omega arith)

          module _ {nodes : Section} (told₄ : Told t (variables.at + variables.count) 3 512 (answer.is nodes)) where
            pub to_nodes : ReadTo t 4 nodes
            to_nodes = next_read 3 to_variables told₄ (omega arith)

            module _ {commands : Section} (told₅ : Told t (nodes.at + 3 * nodes.count) 2 256 (answer.is commands)) where
              pub to_commands : ReadTo t 5 commands
              to_commands = next_read 4 to_nodes told₅ (omega arith)

              end : commands.at + 2 * commands.count ≡ count_place t 6
              end = to_commands.next

              pub layout_is : passes ≡ require (leb (length t) (commands.at + 2 * commands.count)) 2 (commands.at + 2 * commands.count)
                  → answer.is (record { records = records; fields = fields; pointers = pointers; variables = variables; nodes = nodes; commands = commands }) ≡ parsed t
              unfolding parsed ◌or_else◌ words_over
              layout_is h =
                  rw (to_commands.edition, to_commands.passed, ← end, ← h, to_records.is, to_fields.is, to_pointers.is, to_variables.is, to_nodes.is, to_commands.is) refl

              pub words_left : {a q : ℕ} → refused a q ≡ require (leb (length t) (commands.at + 2 * commands.count)) 2 (commands.at + 2 * commands.count) → answer.refused a q ≡ parsed t
              unfolding parsed ◌or_else◌ words_over
              words_left h = rw (to_commands.edition, to_commands.passed, ← end, ← h) refl

-- Another edition follows the mark.
pub other_edition : (t : Words) {n p : ℕ} → edition_fault t ≡ refused n p → answer.refused n p ≡ parsed t
unfolding parsed ◌or_else◌
other_edition t e = rw e refl

-- What a layout that was parsed tells a caller.
module _ (t : Words) where
  stands_of : (s : ℕ) → section_fault t s ≡ passes → Stands t s (section_of t s)
  unfolding count_place count
  stands_of s e =
      let ok = section_ok t s e in
      record { first = refl; total = refl; limited = ok.limited; extent = ok.extent }

  layout_by_is : (v : Verdict) (l : Table) → layout_by t v ≡ answer.is l → (v ≡ passes) × (layout t ≡ l)
  layout_by_is passes l e = (refl, cc)
  layout_by_is (refused n p) l e = cc

  layout_by_refused : (v : Verdict) {n p : ℕ} → layout_by t v ≡ answer.refused n p → v ≡ refused n p
  layout_by_refused passes e = cc
  layout_by_refused (refused a b) e = cc

  -- The check's first three parts pass.
  pub parsed_passes : (l : Table) → parsed t ≡ answer.is l → sections_fault t ≡ passes
  unfolding parsed
  parsed_passes l e = (layout_by_is (sections_fault t) l e).0

  pub parsed_refused : {n p : ℕ} → parsed t ≡ answer.refused n p → sections_fault t ≡ refused n p
  unfolding parsed
  parsed_refused e = layout_by_refused (sections_fault t) e

  pub laid_out : (l : Table) → parsed t ≡ answer.is l → LaidOut t l
  unfolding parsed
  laid_out l e =
      let b = layout_by_is (sections_fault t) l e in
      let sections = (or_else_passes (edition_fault t) _ b.0).1 in
      let pass = each_passes 6 (section_fault t) (or_else_passes (each 6 (section_fault t)) (words_over t) sections).0 in
      rw (← b.1)
      (record {
        records_stand = stands_of 0 (pass 0 (omega arith));
        fields_stand = stands_of 1 (pass 1 (omega arith));
        pointers_stand = stands_of 2 (pass 2 (omega arith));
        variables_stand = stands_of 3 (pass 3 (omega arith));
        nodes_stand = stands_of 4 (pass 4 (omega arith));
        commands_stand = stands_of 5 (pass 5 (omega arith));
      })
