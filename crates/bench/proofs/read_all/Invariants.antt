-- Some text has been scanned.
use Rattle.bench.specs.Input.{Read}
use Rattle.bench.proofs.read_all.Given as goal

abbrev pub invariant-loop : goal.invariant-loop
invariant-loop l = Read l.numbers l.s
