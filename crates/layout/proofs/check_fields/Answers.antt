-- What is required of field i is its part of the definition.
use Rattle.std.proofs.Common.{◌≡◌, ◌&&◌, get_or, [], refl, sym, ◌∙◌, arith}
use borrow.Author.Tests.{lt-ltb, le-ltb}
use lib.Dec.{leb, ltb}
use Rattle.semantics.specs.Words.{word}
use Rattle.layout.proofs.Laws.{each_more, each_refuses, verdict_on, or_else_pass, or_else_refuse, entry_word}
use Rattle.layout.proofs.Types.{field_by}
use Rattle.layout.proofs.check_fields.Goals as goal
use Rattle.layout.proofs.check_fields.Goals.{then-words-gt0, else-words-gt0}

pub returns-in_err-require : goal.returns-in_err-require
returns-in_err-require c =
    let h = c.requires.0 in
    let i = c.loop-i.i in
    let same = c.entries-of_type-items.ensures.same i in
    let fault = field_by h i (c.known_type.ensures _ c.requires.1) (entry_word h i 0 _ refl (same 0 (omega arith) (omega arith))) (entry_word h i 1 _ refl (same 1 (omega arith) (omega arith))) in
    verdict_on c.from_residual.result _ c.from_residual.ensures.1
    (each_refuses _ i c.loop-i.invariant _ (omega arith) (sym fault ∙ or_else_refuse _ _ (sym c.in_err-require.ensures.faults)))

pub returns-in_err-require-2 : goal.returns-in_err-require-2
returns-in_err-require-2 c =
    let h = c.requires.0 in
    let i = c.loop-i.i in
    let same = c.entries-of_type-items.ensures.same i in
    let fault = field_by h i (c.known_type.ensures _ c.requires.1) (entry_word h i 0 _ refl (same 0 (omega arith) (omega arith))) (entry_word h i 1 _ refl (same 1 (omega arith) (omega arith))) in
    let words = word (get_or c.entries-of_type-items.result.now i []) 1 in
    let test : c.if-words-gt0.few ≡ (ltb 0 words && leb words 4096) = elim c.if-words-gt0.branch [
      | then-words-gt0 w ↦ w.few-is ∙ sym (rw (lt-ltb 0 words w.if-words-gt0.true))
      | else-words-gt0 w ↦ w.few-is ∙ sym (rw (le-ltb 0 words w.if-words-gt0.false))
    ] in
    let on = c.from_residual-in_err-require-2 in
    verdict_on on.result _ on.ensures.1
    (each_refuses _ i c.loop-i.invariant _ (omega arith)
    (sym fault ∙ or_else_pass _ _ (sym c.in_ok-require.ensures.faults) ∙ rw (← test) (sym c.in_err-require-2.ensures.faults)))

pub loop-i-preserved : goal.loop-i-preserved
loop-i-preserved c =
    let h = c.requires.0 in
    let i = c.loop-i.i in
    let same = c.entries-of_type-items.ensures.same i in
    let fault = field_by h i (c.known_type.ensures _ c.requires.1) (entry_word h i 0 _ refl (same 0 (omega arith) (omega arith))) (entry_word h i 1 _ refl (same 1 (omega arith) (omega arith))) in
    let words = word (get_or c.entries-of_type-items.result.now i []) 1 in
    let test : c.if-words-gt0.few ≡ (ltb 0 words && leb words 4096) = elim c.if-words-gt0.branch [
      | then-words-gt0 w ↦ w.few-is ∙ sym (rw (lt-ltb 0 words w.if-words-gt0.true))
      | else-words-gt0 w ↦ w.few-is ∙ sym (rw (le-ltb 0 words w.if-words-gt0.false))
    ] in
    each_more _ i c.loop-i.invariant (sym fault ∙ or_else_pass _ _ (sym c.in_ok-require.ensures.faults) ∙ rw (← test) (sym c.in_ok-require-2.ensures.faults))
