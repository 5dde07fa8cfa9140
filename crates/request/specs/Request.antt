-- What a text asks of the bench program.
use Rattle.std.specs.Prelude.{ℕ, ◌+◌, ◌-◌, ◌≤◌, ◌&&◌, List, [], ◌∷◌, ◌≡◌, Option, Some, None, leb, length, take, drop, if◌then◌else◌}
use Rattle.text.specs.Numbers.{Contents, holds, malformed, numbers}
use Rattle.text.specs.Scan.{Finished}
use Rattle.text.specs.declared.Scanner.{Scanner}
use Rattle.text.specs.declared.State.{State}
use Rattle.text.specs.declared.State.TheVariants.{Between, Within, Bad}
use Rattle.request.specs.declared.Request.{Request}

-- A run in memory of some length; or nothing, and the program prints the line `input` alone.
pub data Demand : Type 0 where
  run : (memory : ℕ) (inputs table : List ℕ) → Demand
  input : Demand

-- "memory length (at most 4,096), input count (at most 64), inputs, then the table"; "one with fewer inputs than their count" is other text. Request 8:
-- "the bench program takes tables up to 2,472 words, marked or not".
unfoldable pub demand_after : (memory count : ℕ) → List ℕ → Demand
demand_after memory count rest =
    if leb memory 4096 && leb count 64 && leb count (length rest) && leb (length (drop count rest)) 2472
    then run memory (take count rest) (drop count rest)
    else input

unfoldable pub demand_of : List ℕ → Demand
demand_of [] = input
demand_of (memory ∷ []) = input
demand_of (memory ∷ (count ∷ rest)) = demand_after memory count rest

-- "Other text .. prints the line `input` alone."
unfoldable pub demand : Contents → Demand
demand (holds xs) = demand_of xs
demand malformed = input

-- What a scanner has stored when a text is finished: the numbers before its count. Of a malformed text, and where the list is shorter,
-- that is none.
unfoldable pub first_numbers : List ℕ → ℕ → Contents
first_numbers list count = if leb count (length list) then holds (take count list) else malformed

unfoldable pub stored_in : State → Contents → Contents
stored_in Between c = c
stored_in (Within v) c = c
stored_in Bad c = malformed

abbrev pub stored : List ℕ → Scanner → Contents
stored list s = stored_in s.state (first_numbers list s.count)

-- A demand as the answer: the memory's length, and where the table starts, after two numbers and the inputs.
abbrev pub request_of : Demand → Option Request
request_of (run memory inputs table) = Some (record { memory = memory; from = 2 + length inputs })
request_of input = None

-- Where the parts of a run stand in a list of numbers, and what they are.
pub record Parts (list : List ℕ) (s : Scanner) (memory from : ℕ) : Type 0 where
  pub most : memory ≤ 4096
  pub two : 2 ≤ from
  pub upto : from ≤ s.count
  pub count : s.count ≤ length list
  pub asked : demand (stored list s) ≡ run memory (take (from - 2) (drop 2 list)) (take (s.count - from) (drop from list))

-- `Request::of` a list of numbers and a scanner, whatever they are.
pub record Requested (list : List ℕ) (s : Scanner) (r : Option Request) : Type 0 where
  pub does : r ≡ request_of (demand (stored list s))
  -- At the end of a text it is what the text asks for: no text that asks for a run has more than 2 + 64 + 2,472 numbers.
  pub meets : (text : List ℕ) → 2538 ≤ length list → Finished text list s → demand (stored list s) ≡ demand (numbers text)
  -- So the parts lie in the list, and the memory in the program's own.
  pub parts : (q : Request) → r ≡ Some q → Parts list s q.memory q.from
