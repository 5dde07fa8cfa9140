-- Request 9: the fenced run and the bare run have the same result.
use Rattle.std.specs.Prelude.{ℕ, ◌≡◌, length}
use Rattle.semantics.specs.Words.{Words}
use Rattle.semantics.specs.Check.{passes, call_fault}
use Rattle.semantics.specs.Run.{ending, done, out_of_memory, call}
use Rattle.semantics.specs.Bare as Bare

-- Of a fenced call with these three lists, and a bare call with this one. It says nothing of a fenced run that aborts.
pub record Agrees (t inputs registers values bases ends list : Words) : Type 0 where
  -- A fenced call that isn't refused has a bare call that isn't.
  pub begun : call_fault t inputs registers (length values) (length bases) (length ends) ≡ passes → Bare.call_fault t inputs registers (length list) ≡ passes
  -- "for every table, input list, register list and memory length on which the fenced run is done, the bare run is done too and ends with the same U
  -- and the same value in each word"
  pub done : (u : ℕ) → (call t inputs registers values bases ends).answer ≡ ending done u
      → Bare.call t inputs registers list
      ≡ record { answer = Bare.ending Bare.done u; values = (call t inputs registers values bases ends).values }
  -- "A fenced run that finds no room has a bare run that finds none at the same command." With the same U and the same value in each word, too.
  pub no_room : (c u : ℕ) → (call t inputs registers values bases ends).answer ≡ ending (out_of_memory c) u
      → Bare.call t inputs registers list
      ≡ record { answer = Bare.ending (Bare.out_of_memory c) u; values = (call t inputs registers values bases ends).values }

-- The lists are equally long; what they held does not matter.
abbrev pub SameResult : Words → Words → Words → Words → Words → Words → Words → Type 0
SameResult t inputs registers values bases ends list = length list ≡ length values → Agrees t inputs registers values bases ends list
