-- The offset of the fields left is that of those before the last and the words of the last, which are added.
use Rattle.std.proofs.Common.{ℕ, ◌≡◌, ◌+◌, List, [], length, get_or, arith, ap, ◌∙◌}
use Rattle.semantics.specs.Words.{Words, word}
use Rattle.semantics.specs.Table.{fields, item}
use Rattle.semantics.proofs.Sizes.{offset_none, offset_last}
use Rattle.sizes.proofs.Sums.{last_entry, entries_left}
use Rattle.sizes.proofs.add_up.Goals as goal

pub loop-words-init : goal.loop-words-init
loop-words-init c =
    let own = c.fields_of-own.ensures c.args.t.now c.requires.1 in
    let same : c.into_iter-words-iterator.result.iter.rest.now ≡ c.entries_of.result.now = cc in
    let total = ap length same ∙ c.entries_of.ensures.all ∙ own.1 in
    record {
      entries = λ f less.
          ap (λ (l : List Words). word (get_or l f []) 1) same ∙ c.entries_of.ensures.words f (omega arith) ∙ ap (λ (at : ℕ). item c.args.t.now fields (at + f) 1) own.0;
      sum_left = rw total (omega (arith, offset_last c.args.t.now c.args.r));
    }

pub overflow_add-sum : goal.overflow_add-sum
overflow_add-sum c =
    let a = c.loop-words.invariant in
    omega (arith, c.requires.2, last_entry _ _ _ _ c.in-Some.ensures.steps a.entries _ a.sum_left)

pub loop-words-preserved : goal.loop-words-preserved
loop-words-preserved c =
    let a = c.loop-words.invariant in
    record {
      entries = entries_left _ _ _ _ c.in-Some.ensures.steps a.entries;
      sum_left = last_entry _ _ _ _ c.in-Some.ensures.steps a.entries _ a.sum_left;
    }

pub returns : goal.returns
returns c =
    let none : length c.loop-words.words-iterator.iter.rest.now ≡ 0 = c.in-None.ensures.steps.0 in
    omega (arith, rw none at c.loop-words.invariant.sum_left, offset_none c.args.t.now c.args.r)
