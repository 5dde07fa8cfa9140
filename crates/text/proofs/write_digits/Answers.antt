use Rattle.std.proofs.Common.{arith}
use Rattle.text.proofs.Decimal.{writing_more, written, written_all}
use Rattle.text.proofs.write_digits.Goals as goal

pub returns-then-y-eq0 : goal.returns-then-y-eq0
returns-then-y-eq0 c = written c.loop-i.invariant (omega arith) (omega arith) c.last_digit.ensures (omega arith)

pub loop-i-preserved : goal.loop-i-preserved
loop-i-preserved c = writing_more c.loop-i.invariant (omega arith) (omega arith) c.last_digit.ensures (λ e. omega arith)

pub returns : goal.returns
returns c = written_all c.loop-i.invariant (omega arith)
