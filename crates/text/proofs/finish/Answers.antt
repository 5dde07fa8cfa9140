use Rattle.text.proofs.Scanning.{finishes_other, finishes_full, finishes_within}
use Rattle.text.proofs.finish.Goals as goal

pub returns-in_default : goal.returns-in_default
returns-in_default c = finishes_other _ _ c.in_default.not-Within

pub returns-then-numbers-s : goal.returns-then-numbers-s
returns-then-numbers-s c = rw c.bad.ensures (finishes_full _ _ c.in-Within.is c.if-numbers-s.true)

pub returns : goal.returns
returns c = finishes_within _ _ c.in-Within.is c.if-numbers-s.false
