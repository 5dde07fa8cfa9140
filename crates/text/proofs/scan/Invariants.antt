-- The bytes so far are read.
use Rattle.text.proofs.Scanning.{Reads}
use Rattle.text.proofs.scan.Given as goal

abbrev pub invariant-loop-b : goal.invariant-loop-b
invariant-loop-b l = Reads l.chunk l.fn.s l.fn.numbers l.s l.numbers l.b-index
