-- Laws of the loop over nodes.
use Rattle.std.specs.Prelude.{Result, ⊤}
use Prim.Native.Nat.{ℕ, ◌+◌, ◌*◌, ◌≤◌, ◌<◌}
use mathlib.Core.Path.{◌≡◌, refl, sym, ap, ◌∙◌}
use mathlib.Core.List.{◌++◌}
use native.Mathlib.Omega.{arith}
use native.Mathlib.Nat.{not-suc-le-zero}
use native.Mathlib.Decide.{ℕ_discrete}
use lib.ListN.{length, set, length-set}
use lib.Seq.{get_or-set_same, get_or-set_other}
use Rattle.semantics.specs.Words.{Words, word, sum_below}
use Rattle.semantics.specs.Table.{edition_1, nodes, count, Kind, variable, deref, field, constant, sum, read, address, cast, size, malloc, copy, unknown, operand_a, operand_b, child, node_kind, node_a, node_b, children}
use Rattle.semantics.specs.Check.{passes, refused, each, node_fault, occurrences}
use Rattle.semantics.proofs.Passed.{TypesPassed}
use Rattle.layout.specs.Layout.{Stands}
use Rattle.layout.specs.declared.Section.{Section}
use Rattle.layout.specs.declared.Refusal.{Refusal}
use Rattle.layout.specs.Lists.{filled}
use Rattle.layout.proofs.Laws.{sum_more, each_more, place_at}
use Rattle.layout.proofs.Lists.{filled_more, passed_to, passed_all}
use Rattle.layout.specs.Notes.{note}
use Rattle.nodes.specs.Promises.{Reached, Room, Counted, Noted}
use Rattle.table.specs.Promises.{Clear, notes_noted, NodesNoted}
use Rattle.table.proofs.Uses.{uses_few}

-- A node has at most two children.
two_most : (k : Kind) (a b : ℕ) → length (child (operand_a k) a ++ child (operand_b k) b) ≤ 2
two_most variable a b = omega arith
two_most deref a b = omega arith
two_most field a b = omega arith
two_most constant a b = omega arith
two_most sum a b = omega arith
two_most read a b = omega arith
two_most address a b = omega arith
two_most cast a b = omega arith
two_most size a b = omega arith
two_most malloc a b = omega arith
two_most copy a b = omega arith
two_most unknown a b = omega arith

pub few_uses : {t notes used : Words} {n : ℕ} → NodesNoted t notes used n → (i : ℕ) → word used i ≤ 2 * n
unfolding children
few_uses {t} {n = n} h i = omega (arith, h.counted i, uses_few n i (children t) (λ m. two_most (node_kind t m) (node_a t m) (node_b t m)))

pub nodes_none : {t notes used : Words} → TypesPassed t → Clear notes used → NodesNoted t notes used 0
unfolding sum_below each
nodes_none ok h =
    record { noted_to = record { types_pass = ok; nodes_pass = refl; noted = λ i l. absurd (not-suc-le-zero l) }; notes_length = h.notes_length; uses_length = h.uses_length; counted = h.clear }

module _ {t notes used : Words} {l : Section} {n : ℕ} (h : Stands t 4 l) (less : n < l.count) (before : NodesNoted t notes used n) where
  pub reached : Reached t notes n (l.at + 3 * n)
  reached =
      record { noted_to = before.noted_to; here = sym (place_at h n 0 (l.at + 3 * n) (omega arith)); inside = omega (arith, h.extent); few = omega (arith, h.limited) }

  pub room : Room notes used
  room = record { notes_length = before.notes_length; uses_length = before.uses_length; few = λ i. omega (arith, few_uses before i, h.limited) }

  module _ {notes' used' : Words} {r : Result ⊤ Refusal} (now : Noted t n r notes notes' used used') (pass : node_fault t n ≡ passes) where
    entered : notes' ≡ set notes n (note edition_1 t n)
    entered = rw pass at now.noted

    counted : Counted used used' (children t n)
    counted = rw pass at now.counted

    noted_more : (i : ℕ) → i < n + 1 → Dec (i ≡ n) → word notes' i ≡ note edition_1 t i
    noted_more i k (yes s) = rw (s, entered) (get_or-set_same notes n (note edition_1 t n) 0 (omega (arith, before.notes_length, h.limited)))
    noted_more i k (no s) = let less : i < n = omega arith in rw entered (get_or-set_other notes n i (note edition_1 t n) 0 s ∙ before.noted_to.noted i less)

    pub nodes_more : NodesNoted t notes' used' (n + 1)
    nodes_more =
        record {
          noted_to = record { types_pass = before.noted_to.types_pass; nodes_pass = each_more _ _ before.noted_to.nodes_pass pass; noted = λ i k. noted_more i k (ℕ_discrete i n) };
          notes_length = ap length entered ∙ length-set notes n (note edition_1 t n) ∙ before.notes_length;
          uses_length = counted.all ∙ before.uses_length;
          counted = λ i. omega (arith, counted.more i, before.counted i, sum_more (λ (m : ℕ). occurrences i (children t m)) n);
        }

-- ---- what is left in the list of notes, which was l

module _ (t l : Words) (n : ℕ) {notes : Words} (before : each n (node_fault t) ≡ passes) (e : notes ≡ filled l 0 n (note edition_1 t)) where
  pub notes_all : n ≡ count t nodes → notes ≡ notes_noted t l
  unfolding notes_noted
  notes_all q = rw (← q, passed_all (node_fault t) n before) e

  module _ {notes' used used' : Words} {r : Result ⊤ Refusal} (now : Noted t n r notes notes' used used') where
    pub notes_more : node_fault t n ≡ passes → notes' ≡ filled l 0 (n + 1) (note edition_1 t)
    notes_more pass = rw pass at now.noted ∙ filled_more l 0 (note edition_1 t) n n (note edition_1 t n) e (omega arith) refl

    pub notes_to : {a p : ℕ} → n < count t nodes → node_fault t n ≡ refused a p → notes' ≡ notes_noted t l
    unfolding notes_noted
    notes_to less fault = rw fault at now.noted ∙ rw (passed_to (node_fault t) n (count t nodes) before less fault) e
