use Rattle.std.proofs.Common.{arith}
use Rattle.stream.proofs.Parts.{next_read, next_none}
use Rattle.stream.proofs.next_part.Goals as goal
use Rattle.stream.proofs.next_part.Goals.{else-last-buffer-via-then-last-buffer+else-last, else-last-buffer-via-else-last-buffer}

pub returns-then-n-eq0 : goal.returns-then-n-eq0
returns-then-n-eq0 c =
    rw c.empty.ensures
    (next_none (λ h k. elim c.else-last-buffer.branch [ else-last-buffer-via-then-last-buffer+else-last w ↦ omega arith | else-last-buffer-via-else-last-buffer w ↦ omega arith ]))

pub returns : goal.returns
returns c =
    next_read (λ h k. elim c.else-last-buffer.branch [ else-last-buffer-via-then-last-buffer+else-last w ↦ omega arith | else-last-buffer-via-else-last-buffer w ↦ omega arith ])
    c.read_some-n.result (omega arith) c.if-n-eq0.false c.cut-2.ensures
