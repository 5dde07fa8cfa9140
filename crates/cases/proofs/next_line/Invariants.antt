use Rattle.cases.specs.Lines.{ScansLine}
use Rattle.cases.proofs.next_line.Given as goal

abbrev pub invariant-loop : goal.invariant-loop
invariant-loop l = ScansLine l.numbers l.p.scanner
