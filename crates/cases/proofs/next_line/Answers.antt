use Rattle.cases.proofs.Lines.{before_line}
use Rattle.cases.proofs.next_line.Goals as goal

pub loop-init : goal.loop-init
loop-init c = before_line (c.new.ensures.meets _)
