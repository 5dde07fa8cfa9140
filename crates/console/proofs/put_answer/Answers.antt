use Rattle.console.proofs.Calls.{prints_answer}
use Rattle.console.proofs.put_answer.Goals as goal

pub returns : goal.returns
returns c = prints_answer _ _ _ _ c.put_ending.ensures c.put_bytes.ensures c.unused_after.ensures c.put_memory.ensures
