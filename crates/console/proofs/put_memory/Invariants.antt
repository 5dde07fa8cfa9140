-- The lines of the words before i are put.
use Rattle.console.proofs.Calls.{Printing}
use Rattle.console.proofs.put_memory.Given as goal

abbrev pub invariant-loop-i : goal.invariant-loop-i
invariant-loop-i l = Printing l.memory.values.now l.memory.bases.now l.memory.ends.now l.unused l.fn.out l.out l.i
