-- One record's fields more.
use Rattle.std.proofs.Common.{refl, arith}
use Rattle.layout.proofs.Laws.{entry_word}
use Rattle.layout.proofs.Types.{first_more}
use Rattle.layout.proofs.total_fields.Goals as goal

pub loop-total-preserved : goal.loop-total-preserved
loop-total-preserved c =
    let i = c.loop-total.total-index in
    (omega (arith, first_more c.args.t.now i (entry_word c.requires i 0 _ refl (c.entries-total-items.ensures.same i 0 (omega arith) (omega arith)))), omega arith)
