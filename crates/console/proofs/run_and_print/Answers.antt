use Rattle.std.proofs.Common.{arith, refl}
use Rattle.console.proofs.Calls.{fits, in_memory, called}
use Rattle.console.proofs.run_and_print.Goals as goal

pub put_answer-requires : goal.put_answer-requires
put_answer-requires c = in_memory _ _ (fits _ _ _ _ _ _) _ _ _ _ c.run-a.ensures.called refl

pub returns : goal.returns
returns c = called _ _ (fits _ _ _ _ _ _) _ _ _ _ c.run-a.ensures.called (omega arith) (omega arith) (omega arith) c.put_answer.ensures
