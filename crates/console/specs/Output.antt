-- Document 01, "The bench program": what is printed for a text, and what is left in the lists that the program lends.
use Rattle.std.specs.Prelude.{ℕ, zero, suc, ◌-◌, ◌≤◌, Bool, true, ◌&&◌, List, [], ◌∷◌, ◌++◌, ◌≡◌, Option, Some, None, leb, length, take, drop, get_or, replicate, if◌then◌else◌}
use Rattle.text.specs.Numbers as contents
use Rattle.text.specs.Scan.{Held, held, end_number, Scanned}
use Rattle.text.specs.declared.Scanner.{Scanner}
use Rattle.semantics.specs.Words.{Words}
use Rattle.semantics.specs.Run.{Answer, Result, call}
use Rattle.stream.specs.Items.{Item, bytes_of}
use Rattle.request.specs.Request.{Demand, run, input, demand, stored}
use Rattle.lines.specs.Lines.{line_end, ending_line, unused, word_line}
use Rattle.text.specs.declared.Output.{Output}
use Rattle.steps.specs.declared.Memory.{Memory}

-- ---- what is printed

-- The lines of the words 1 to n, of a memory of three lists.
unfoldable pub lines_to : ℕ → (values bases ends : List ℕ) → List Item
lines_to zero values bases ends = []
lines_to (suc n) values bases ends =
    lines_to n values bases ends ++ word_line (suc n) (get_or values (suc n) 0) (get_or bases (suc n) 0) (get_or ends (suc n) 0)

-- "one line follows for each word from 1 to U − 1"
abbrev pub memory_lines : ℕ → (values bases ends : List ℕ) → List Item
memory_lines u values bases ends = lines_to (u - 1) values bases ends

-- All that is printed for a call, whose memory is the three lists.
abbrev pub answer_lines : Answer → (values bases ends : List ℕ) → List Item
answer_lines a values bases ends = ending_line a ++ (line_end ∷ memory_lines (unused a) values bases ends)

-- "the line `input`"
abbrev pub input_line : List ℕ
input_line = 105 ∷ 110 ∷ 112 ∷ 117 ∷ 116 ∷ 10 ∷ []

-- How a call ended, and after a run the memory.
unfoldable pub result_bytes : Result → List ℕ
result_bytes r = bytes_of (answer_lines r.answer r.values r.bases r.ends)

-- Three lists of words.
pub record Lists : Type 0 where
  pub values : Words
  pub bases : Words
  pub ends : Words

abbrev pub lists : Words → Words → Words → Lists
lists values bases ends = record { values = values; bases = bases; ends = ends }

abbrev pub lists_of : Memory → Lists
lists_of m = lists m.values.now m.bases.now m.ends.now

-- The call in the first `memory` words of three lists. "The bench program hands in the list `0`."
unfoldable pub call_in : Lists → (memory : ℕ) (inputs table : Words) → Result
call_in l memory inputs table = call table inputs (0 ∷ []) (take memory l.values) (take memory l.bases) (take memory l.ends)

-- "The program's own memory has 4,096 words in each list."
abbrev pub own : Lists
own = lists (replicate 4096 0) (replicate 4096 0) (replicate 4096 0)

unfoldable pub output : Demand → List ℕ
output input = input_line
output (run memory inputs table) = result_bytes (call_in own memory inputs table)

-- What the bench program prints for a text.
abbrev pub output_of : List ℕ → List ℕ
output_of text = output (demand (contents.numbers text))

-- ---- what is left in the lists

-- A list whose first words are new, and whose rest is as it was.
abbrev pub over : (new old : List ℕ) → List ℕ
over new old = new ++ drop (length new) old

abbrev pub lists_over : Result → Lists → Lists
lists_over r l = lists (over r.values l.values) (over r.bases l.bases) (over r.ends l.ends)

unfoldable pub lists_after : Demand → Lists → Lists
lists_after input l = l
lists_after (run memory inputs table) l = lists_over (call_in l memory inputs table) l

-- ---- `answer`, for any numbers, any scanner and any lists

-- Lists of so many words and bytes hold the program's own memory, and the longest answer: 84 bytes for each of 4,096 lines.
unfoldable pub has_room : (values bases ends out : ℕ) → Bool
has_room values bases ends out = leb 4096 values && leb 4096 bases && leb 4096 ends && leb 344064 out

-- What is answered, and the five lists at the end.
pub record Outcome : Type 0 where
  pub answer : Option ℕ
  pub numbers : Words
  pub lists : Lists
  pub out : List ℕ

abbrev pub outcome : Option ℕ → Words → Lists → List ℕ → Outcome
outcome r numbers l out = record { answer = r; numbers = numbers; lists = l; out = out }

-- Bytes that are printed stand at the front of the output.
unfoldable pub outcome_of : Demand → Words → Lists → List ℕ → Outcome
outcome_of d numbers l out = outcome (Some (length (output d))) numbers (lists_after d l) (over (output d) out)

-- The text is finished, and its numbers ask for something. Lists that are too short are left as they are.
unfoldable pub finished : Held → Lists → List ℕ → Outcome
finished h l out = outcome_of (demand (stored h.list h.scanner)) h.list l out

unfoldable pub answered : Scanner → Words → Lists → List ℕ → Outcome
answered s numbers l out =
    if has_room (length l.values) (length l.bases) (length l.ends) (length out)
    then finished (end_number (held s numbers)) l out
    else outcome None numbers l out

pub record Answers (s : Scanner) (numbers : Words) (l : Lists) (out : List ℕ) (numbers' : Words) (l' : Lists) (out' : List ℕ) (r : Option ℕ) : Type 0 where
  pub does : outcome r numbers' l' out' ≡ answered s numbers l out
  -- After a text has been scanned: what stands in the output is what the bench program prints for this text.
  pub meets : (text : List ℕ) → Scanned text numbers s → 2538 ≤ length numbers
      → has_room (length l.values) (length l.bases) (length l.ends) (length out) ≡ true
      → (r ≡ Some (length (output_of text))) × (out' ≡ over (output_of text) out)

-- ---- the functions that `answer` calls

-- A memory of at least n words.
pub record Holds (m : Memory) (n : ℕ) : Type 0 where
  pub values : n ≤ length m.values.now
  pub bases : n ≤ length m.bases.now
  pub ends : n ≤ length m.ends.now

-- Some bytes are printed at the front of an output.
pub record Printed (bytes : List ℕ) (out out' : Output) : Type 0 where
  pub same_bytes : out'.bytes.ghost_name ≡ out.bytes.ghost_name
  pub printed : out'.bytes.now ≡ over bytes out.bytes.now
  pub count : out'.at ≡ length bytes

-- A call is run in three lists, and printed.
pub record Called (c : Result) (l' : Lists) (out out' : Output) : Type 0 where
  pub values : l'.values ≡ c.values
  pub bases : l'.bases ≡ c.bases
  pub ends : l'.ends ≡ c.ends
  pub printed : Printed (result_bytes c) out out'

-- The same in the first words of longer lists.
pub record Ran (c : Result) (l l' : Lists) (out out' : Output) : Type 0 where
  pub left : l' ≡ lists_over c l
  pub printed : Printed (result_bytes c) out out'
