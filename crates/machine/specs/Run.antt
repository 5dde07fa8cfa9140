-- A whole call: the answer as the paper's numbers and values, and what the lists hold afterwards.
use Rattle.std.specs.Prelude.{ℕ, ◌≡◌, Result, Ok, Err, ⊤, length}
use Rattle.semantics.specs.Words.{Words}
use Rattle.semantics.specs.Table.{edition, variables, count}
use Rattle.semantics.specs.Check.{check, passes}
use Rattle.semantics.specs.Run as semantics
use Rattle.semantics.specs.Run.{refusal}
use Rattle.semantics.proofs.Safety.{Begun}
use Rattle.table.specs.Promises.{Left, ListsReady}
use Rattle.registers.specs.Blocks.{Holds}
use Rattle.layout.specs.declared.Refusal.{Refusal}
use Rattle.layout.specs.Refusals.{number_of}
use Rattle.commands.specs.declared.Ending.{Ending}
use Rattle.commands.specs.Execution.{ending_of}

-- "Every run answers its ending and U; abort and no room add the command number." "A refusal answers number and place".
abbrev pub answer_of : {C : Type 0} → Result (Ending C) Refusal → semantics.Answer
answer_of (Ok e) = ending_of e
answer_of (Err r) = refusal (number_of r.fault) r.place

-- An answer and three lists are the result of a call.
pub record Is (result : semantics.Result) (r : Result (Ending ⊤) Refusal) (vs bs es : Words) : Type 0 where
  pub answer : answer_of r ≡ result.answer
  pub values : vs ≡ result.values
  pub bases : bs ≡ result.bases
  pub ends : es ≡ result.ends

-- The table passes the check, which has left these lists, with notes as of the table's edition.
pub record IsProgram (t first sizes offsets notes : Words) : Type 0 where
  pub passed : check t ≡ passes
  pub left : Left (edition t) t first sizes offsets notes
  pub lengths : ListsReady first sizes offsets notes

-- Lists in which a run of a table with this many variables can be begun.
pub record CanBegin (vars : ℕ) (inputs registers vs bs es : Words) : Type 0 where
  pub table : Words
  pub total : vars ≡ count table variables
  pub begun : Begun table inputs registers (length vs) (length bs) (length es)

-- Lists as long as vs and a first unused word are those that a run of a table with this many variables begins with.
pub record HasBegun (vars : ℕ) (inputs registers vs vs' bs' es' : Words) (u : ℕ) : Type 0 where
  pub begins : (t : Words) → vars ≡ count t variables → Holds (semantics.begin t inputs registers (length vs)) vs' bs' es' u
