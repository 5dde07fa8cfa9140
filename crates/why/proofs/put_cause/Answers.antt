use Rattle.std.proofs.Common.{◌∙◌}
use Rattle.stream.proofs.Items.{prints_word, prints_then}
use Rattle.why.specs.Told.{cause_line}
use Rattle.why.proofs.Told.{kind_is}
use Rattle.why.proofs.put_cause.Goals as goal

pub returns : goal.returns
unfolding cause_line
returns c =
    rw (← (c.word_at-kind.ensures ∙ kind_is _ _ c.requires.0.nodes_stand.first), ← c.requires.0.variables_stand.total)
    (prints_then c.put_node.ensures (prints_then c.put_wanted.ensures (prints_then c.put_reason.ensures (prints_word c.put_bytes.ensures))))
