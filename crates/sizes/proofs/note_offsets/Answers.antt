-- The offset of the field after f is that of f and the words of f.
use Rattle.std.proofs.Common.{◌+◌, sym, arith}
use Rattle.semantics.proofs.Sizes.{offset_none, offset_most}
use Rattle.layout.proofs.Lists.{filled_none, filled_more}
use Rattle.sizes.proofs.Sums.{next_offset}
use Rattle.sizes.proofs.note_offsets.Goals as goal

pub loop-f-init : goal.loop-f-init
loop-f-init c = (sym (offset_none _ _), sym (filled_none _ _ _))

pub overflow_add-next : goal.overflow_add-next
overflow_add-next c =
    let own = c.fields_of-own.ensures _ c.requires.1 in
    let f = c.loop-f.f in
    let next = next_offset _ _ f (f + 1) _ _ (omega arith) own.0 (c.entries_of-words-items.ensures.words f (omega arith)) in
    omega (arith, c.requires.2, next, offset_most c.args.t.now c.args.r (f + 1) (omega arith))

pub loop-f-preserved : goal.loop-f-preserved
loop-f-preserved c =
    let own = c.fields_of-own.ensures _ c.requires.1 in
    let a = c.loop-f in
    let next = next_offset _ _ a.f (a.f + 1) _ _ (omega arith) own.0 (c.entries_of-words-items.ensures.words a.f (omega arith)) in
    (omega (arith, next, a.invariant.0), filled_more _ _ _ a.f _ _ a.invariant.1 (omega (arith, own.0)) a.invariant.0)
