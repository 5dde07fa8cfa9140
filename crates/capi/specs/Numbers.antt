-- The structs that C gets: the number of each refusal and ending of document 01, and 0 in every field that an answer does not tell.
use Rattle.std.specs.Prelude.{◌≡◌}
use Rattle.semantics.specs.Words.{Words}
use Rattle.semantics.specs.Check.{Verdict, passes, refused}
use Rattle.semantics.specs.Run.{Answer, refusal, ending, done, abort, out_of_memory, stuck, Result}
use Rattle.capi.specs.declared.MavistableVerdict.{MavistableVerdict}
use Rattle.capi.specs.declared.MavistableAnswer.{MavistableAnswer}

abbrev pub verdict_numbers : Verdict → MavistableVerdict
verdict_numbers passes = record { refused = 0; number = 0; place = 0 }
verdict_numbers (refused n p) = record { refused = 1; number = n; place = p }

-- "Every run answers its ending and U; abort and no room add the command number." "A refusal answers number and place".
-- No run is stuck, as SpatiallySafe says: 4 is never answered.
abbrev pub answer_numbers : Answer → MavistableAnswer
answer_numbers (refusal n p) = record { ending = 0; number = n; place = p; command = 0; unused = 0 }
answer_numbers (ending done u) = record { ending = 1; number = 0; place = 0; command = 0; unused = u }
answer_numbers (ending (abort c) u) = record { ending = 2; number = 0; place = 0; command = c; unused = u }
answer_numbers (ending (out_of_memory c) u) = record { ending = 3; number = 0; place = 0; command = c; unused = u }
answer_numbers (ending (stuck c) u) = record { ending = 4; number = 0; place = 0; command = c; unused = u }

-- A struct and three lists are the result of a call.
pub record Is (result : Result) (r : MavistableAnswer) (vs bs es : Words) : Type 0 where
  pub answer : r ≡ answer_numbers result.answer
  pub values : vs ≡ result.values
  pub bases : bs ≡ result.bases
  pub ends : es ≡ result.ends
