use Rattle.cases.proofs.Cases.{rest_shorter}
use Rattle.capi_cases.proofs.answer_all.Goals as goal

pub loop-program-smaller : goal.loop-program-smaller
loop-program-smaller c = rest_shorter c.in-Some.ensures
