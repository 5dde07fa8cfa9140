-- The cases of the edition.
use Rattle.std.proofs.Common.{◌≡◌, ◌||◌, ap, not, length, sym, ◌∙◌}
use borrow.Author.Tests.{le-leb, lt-leb}
use lib.Dec.{leb, eqb}
use Rattle.semantics.specs.Words.{word}
use Rattle.layout.proofs.Editions.{start_unmarked, start_other, start_known}
use Rattle.layout.proofs.Laws.{outcome_on}
use Rattle.layout.proofs.first_section.Goals as goal
use Rattle.layout.proofs.first_section.Goals.{then-t-le1, else-t-le1}

pub returns-then-not-is_marked : goal.returns-then-not-is_marked
returns-then-not-is_marked c = start_unmarked _ c.is_marked.result c.is_marked.ensures (ap not c.if-not-is_marked.true)

pub returns-in_err-require : goal.returns-in_err-require
returns-in_err-require c =
    let t = c.args.t.now in
    let known : c.if-t-le1.require ≡ (leb (length t) 1 || eqb (word t 1) 2) = elim c.if-t-le1.branch [
      | then-t-le1 w ↦ w.require-is ∙ sym (rw (le-leb (length t) 1 w.if-t-le1.true))
      | else-t-le1 w ↦ w.require-is ∙ sym (rw (lt-leb (length t) 1 w.if-t-le1.false))
    ] in
    outcome_on c.from_residual.result _ c.from_residual.ensures.1 (start_other _ c.is_marked.result c.is_marked.ensures (ap not c.if-not-is_marked.false) known c.in_err-require.ensures.faults)

pub returns : goal.returns
returns c =
    let t = c.args.t.now in
    let known : c.if-t-le1.require ≡ (leb (length t) 1 || eqb (word t 1) 2) = elim c.if-t-le1.branch [
      | then-t-le1 w ↦ w.require-is ∙ sym (rw (le-leb (length t) 1 w.if-t-le1.true))
      | else-t-le1 w ↦ w.require-is ∙ sym (rw (lt-leb (length t) 1 w.if-t-le1.false))
    ] in
    start_known _ c.is_marked.result c.is_marked.ensures (ap not c.if-not-is_marked.false) known c.in_ok-require.ensures.faults
