-- The struct that C gets for a bare call: the number of each refusal and ending of request 9, and 0 in every field that an answer does not tell.
use Rattle.std.specs.Prelude.{◌≡◌}
use Rattle.semantics.specs.Words.{Words}
use Rattle.semantics.specs.Bare.{Answer, refusal, ending, done, out_of_memory, stuck, Result}
use Rattle.capi.specs.declared.MavistableAnswer.{MavistableAnswer}

-- "A refusal answers number and place"; "A stuck bare run .. answers the command and U".
abbrev pub bare_numbers : Answer → MavistableAnswer
bare_numbers (refusal n p) = record { ending = 0; number = n; place = p; command = 0; unused = 0 }
bare_numbers (ending done u) = record { ending = 1; number = 0; place = 0; command = 0; unused = u }
bare_numbers (ending (out_of_memory c) u) = record { ending = 3; number = 0; place = 0; command = c; unused = u }
bare_numbers (ending (stuck c) u) = record { ending = 4; number = 0; place = 0; command = c; unused = u }

-- A struct and a list are the result of a bare call.
pub record Is (result : Result) (r : MavistableAnswer) (vs : Words) : Type 0 where
  pub answer : r ≡ bare_numbers result.answer
  pub values : vs ≡ result.values
