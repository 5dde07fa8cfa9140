-- A part of the entries.
use Rattle.std.proofs.Common.{◌+◌, ◌-◌, drop, sym, ap, ◌∙◌, arith, []}
use Rattle.std.proofs.lemmas.List.{get_or-take, get_or-drop}
use Rattle.semantics.specs.Words.{Words, word}
use Rattle.layout.proofs.Laws.{item_at}
use Rattle.sizes.proofs.entries_of.Goals as goal

pub returns-clause-words : goal.returns-clause-words
returns-clause-words c f less =
    let own = c.args.own in
    let all = c.entries.result.now in
    ap (λ (x : Words). word x 1) (get_or-take (own.at + own.count - own.at) (drop own.at all) f [] (omega arith) ∙ get_or-drop own.at all f [])
    ∙ c.entries.ensures.same (own.at + f) 1 (omega (arith, c.requires.0.total)) (omega arith)
    ∙ sym (item_at c.requires.0 (own.at + f) 1 _ (omega arith))
