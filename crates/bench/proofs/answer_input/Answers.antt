use Rattle.std.proofs.Common.{arith}
use Rattle.bench.proofs.answer_input.Goals as goal

pub returns : goal.returns
returns c =
    record {
      text = c.read_all-s.ensures.text;
      prints = λ h k. c.answer.ensures.answers.meets c.read_all-s.ensures.text c.read_all-s.ensures.scanned (omega (arith, c.read_all-s.auto.numbers)) k;
    }
