use Rattle.std.proofs.Common.{refl}
use Rattle.stream.proofs.Items.{prints_then}
use Rattle.why.specs.Ascii.{ascii}
use Rattle.why.specs.Told.{node_text}
use Rattle.why.proofs.Told.{prints_after}
use Rattle.why.proofs.put_node.Goals as goal

pub returns : goal.returns
unfolding ascii node_text
returns c =
    prints_then (prints_after "command " refl c.put_after.ensures)
    (prints_then (prints_after ", node " refl c.put_after-2.ensures) c.put_kind.ensures)
