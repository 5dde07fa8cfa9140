-- A note that has not yet been come to is as it was.
use Rattle.std.proofs.Common.{◌≡◌, length, take, drop, ◌++◌, sym, ap, ◌∙◌, arith}
use Rattle.std.proofs.lemmas.List.{length-take-le}
use Rattle.semantics.specs.Words.{Words}
use Rattle.semantics.specs.Table.{edition_2}
use Rattle.layout.specs.Notes.{as_of}
use Rattle.layout.proofs.Lists.{filled_none, filled_more, filled_front}
use Rattle.table.proofs.Editions.{still}
use Rattle.table.proofs.note_bounds.Goals as goal

pub loop-x-init : goal.loop-x-init
loop-x-init c = sym (filled_none _ 0 _)

pub overflow_add-x : goal.overflow_add-x
overflow_add-x c =
    let n = c.args.n in
    let long : length (take n c.args.notes.now) ≡ n = length-take-le n c.args.notes.now (omega arith) in
    let i = c.loop-x.x-index in
    omega (arith, still n i c.args.notes.now _ c.loop-x.invariant (omega arith), c.requires.1 i (omega arith))

pub loop-x-preserved : goal.loop-x-preserved
loop-x-preserved c =
    let n = c.args.n in
    let long : length (take n c.args.notes.now) ≡ n = length-take-le n c.args.notes.now (omega arith) in
    let i = c.loop-x.x-index in
    filled_more _ 0 _ i i _ c.loop-x.invariant (omega arith) (ap (as_of edition_2) (still n i c.args.notes.now _ c.loop-x.invariant (omega arith)))

pub returns : goal.returns
returns c =
    let n = c.args.n in
    let long : length (take n c.args.notes.now) ≡ n = length-take-le n c.args.notes.now (omega arith) in
    let all : c.loop-x.x-index ≡ n = omega arith in
    ap (λ (l : Words). l ++ drop n c.args.notes.now) (rw all at c.loop-x.invariant) ∙ filled_front n c.args.notes.now _ (omega arith)
