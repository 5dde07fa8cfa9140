-- The struct that C gets: the numbers of a call's answer, and those of an abort's cause.
use Rattle.std.specs.Prelude.{◌≡◌}
use Rattle.semantics.specs.Words.{Words}
use Rattle.semantics.specs.Explain.{Explanation, not_aborted, because, Explained}
use Rattle.capi.specs.Numbers.{answer_numbers}
use Rattle.capi.specs.declared.MavistableAnswer.{MavistableAnswer}
use Rattle.capi_explain.specs.declared.MavistableExplanation.{MavistableExplanation}

-- Request 4: the answer's numbers, and those of the cause. "For a run that doesn't abort it says so": they are 0 then, and no reason is.
abbrev pub with_cause : MavistableAnswer → Explanation → MavistableExplanation
with_cause a not_aborted =
    record {
      ending = a.ending;
      number = a.number;
      place = a.place;
      command = a.command;
      unused = a.unused;
      node = 0;
      words = 0;
      wanted = 0;
      base = 0;
      end = 0;
      reason = 0;
      first = 0;
    }
with_cause a (because x) =
    record {
      ending = a.ending;
      number = a.number;
      place = a.place;
      command = a.command;
      unused = a.unused;
      node = x.check.node;
      words = x.check.words;
      wanted = x.check.at;
      base = x.check.base;
      end = x.check.end;
      reason = x.reason;
      first = x.first;
    }

-- A struct and three lists are what the tool is to answer and to leave.
pub record Explains (e : Explained) (r : MavistableExplanation) (vs bs es : Words) : Type 0 where
  pub numbers : r ≡ with_cause (answer_numbers e.result.answer) e.explanation
  pub values : vs ≡ e.result.values
  pub bases : bs ≡ e.result.bases
  pub ends : es ≡ e.result.ends
