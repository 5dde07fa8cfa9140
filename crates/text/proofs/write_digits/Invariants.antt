-- The digits from place i on are written, and y has the others.
use Rattle.text.proofs.Decimal.{Writing}
use Rattle.text.proofs.write_digits.Given as goal

abbrev pub invariant-loop-i : goal.invariant-loop-i
invariant-loop-i l = Writing l.x l.digits l.i l.y
