-- Each case has a number at least, so the numbers that are left are a measure.
use Rattle.std.proofs.Common.{length}
use Rattle.capi_cases.proofs.answer_all.Given as goal

abbrev pub decreases-loop-program : goal.decreases-loop-program
decreases-loop-program l = length l.left
