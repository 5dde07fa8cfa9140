-- The sums fit since the last is at most 128.
use Rattle.std.proofs.Common.{◌≡◌, ◌+◌, get_or, [], refl, sym, ◌∙◌, arith}
use Rattle.semantics.specs.Words.{word, sum_below}
use Rattle.semantics.specs.Table.{count, first_field}
use Rattle.layout.proofs.Laws.{entry_word}
use Rattle.layout.proofs.Lists.{filled_none, filled_more, filled_again}
use Rattle.layout.proofs.Types.{first_more, first-≤}
use Rattle.layout.proofs.note_first.Goals as goal

pub loop-i-init : goal.loop-i-init
unfolding first_field sum_below
loop-i-init c =
    let l = c.args.first.now in
    let g = first_field c.args.t.now in
    (refl, filled_more l 0 g 0 0 0 (sym (filled_none l 0 g)) refl refl ∙ sym (filled_again l 0 0 g))

pub overflow_add-sum : goal.overflow_add-sum
overflow_add-sum c =
    let i = c.loop-i.i in
    let t = c.args.t.now in
    let h = c.requires.stands in
    let total = entry_word c.requires.stands i 0 _ refl (c.entries-total-items.ensures.same i 0 (omega arith) (omega arith)) in
    omega (arith, c.requires.t_bound.0, first_more t i total, first-≤ t (i + 1) (count t 0) (omega arith))

pub loop-i-preserved : goal.loop-i-preserved
loop-i-preserved c =
    let i = c.loop-i.i in
    let t = c.args.t.now in
    let total = entry_word c.requires.stands i 0 _ refl (c.entries-total-items.ensures.same i 0 (omega arith) (omega arith)) in
    let next : c.loop-i.sum + word (get_or c.entries-total-items.result.now i []) 0 ≡ first_field t (i + 1) = omega (arith, first_more t i total) in
    (next, filled_more _ 0 (first_field t) (i + 1) (i + 1) _ c.loop-i.invariant.1 (omega arith) next)

pub returns : goal.returns
returns c =
    let h = c.requires.stands in
    let all : c.loop-i.i ≡ count c.args.t.now 0 = omega arith in
    rw all at c.loop-i.invariant.1 ∙ filled_again _ _ 0 _
