-- The scanner: a text is read in chunks, and each number is stored where it ends.
use Rattle.std.specs.Prelude.{ℕ, ◌+◌, ◌*◌, ◌-◌, ◌<◌, ◌≤◌, true, ◌&&◌, List, [], ◌∷◌, ◌++◌, ◌≡◌, leb, ltb, length, take, set, Option, Some, None, if◌then◌else◌}
use Rattle.text.specs.Numbers.{limit, Contents, holds, malformed, separator, digit, digits, value, ◌then◌, numbers_after, numbers}
use Rattle.text.specs.declared.Scanner.{Scanner}
use Rattle.text.specs.declared.State.{State}
use Rattle.text.specs.declared.State.TheVariants.{Between, Within, Bad}

-- ---- what a call promises of the text

-- A text of more numbers than there is room for counts as malformed.
unfoldable pub within : ℕ → Contents → Contents
within room (holds xs) = if leb (length xs) room then holds xs else malformed
within room malformed = malformed

-- The state after the bytes since the last separator, which are digits.
abbrev pub state_of : List ℕ → State
state_of [] = Between
state_of (b ∷ bs) = Within (value (b ∷ bs))

-- What a scanner and its list know of a text that has been read up to here, however it goes on: the numbers that have ended and the run
-- of digits since the last separator; or that it is malformed.
pub data Scanned (text list : List ℕ) (s : Scanner) : Type 0 where
  readable : (run : List ℕ) → digits run ≡ true → value run < limit → s.state ≡ state_of run → s.count ≤ length list
      → ((rest : List ℕ) → numbers (text ++ rest) ≡ (holds (take s.count list) then numbers_after run rest)) → Scanned text list s
  unreadable : s.state ≡ Bad → ((rest : List ℕ) → within (length list) (numbers (text ++ rest)) ≡ malformed) → Scanned text list s

-- What a scanner and its list tell at the end of a text.
pub record Finished (text list : List ℕ) (s : Scanner) : Type 0 where
  pub bad : s.state ≡ Bad → within (length list) (numbers text) ≡ malformed
  pub good : (s.state ≡ Bad → ⊥) → (s.count ≤ length list) × (numbers text ≡ holds (take s.count list))

-- ---- what a call does, for any scanner

pub record Held : Type 0 where
  pub scanner : Scanner
  pub list : List ℕ

abbrev pub held : Scanner → List ℕ → Held
held s l = record { scanner = s; list = l }

abbrev pub between : (count : ℕ) → Scanner
between count = record { count = count; state = Between }

abbrev pub within_number : (count value : ℕ) → Scanner
within_number count v = record { count = count; state = Within v }

abbrev pub fresh : Scanner
fresh = between 0

abbrev pub bad : Scanner
bad = record { count = 0; state = Bad }

-- A byte other than a separator, after digits of value v.
unfoldable pub longer : (count v b : ℕ) → Scanner
longer count v b = if digit b && ltb (10 * v + (b - 48)) limit then within_number count (10 * v + (b - 48)) else bad

-- The value of the digits since the last separator, where the text is not malformed.
unfoldable pub value_in : State → Option ℕ
value_in Between = Some 0
value_in (Within v) = Some v
value_in Bad = None

unfoldable pub longer_in : State → (count b : ℕ) → Scanner
longer_in Between count b = longer count 0 b
longer_in (Within v) count b = longer count v b
longer_in Bad count b = bad

abbrev pub take_digit : ℕ → Scanner → Scanner
take_digit b s = longer_in s.state s.count b

-- The end of a number, if there is one in progress.
unfoldable pub end_in : State → Held → Held
end_in Between h = h
end_in (Within v) h =
    if ltb h.scanner.count (length h.list)
    then held (between (h.scanner.count + 1)) (set h.list h.scanner.count v)
    else held bad h.list
end_in Bad h = h

abbrev pub end_number : Held → Held
end_number h = end_in h.scanner.state h

unfoldable pub take_byte : ℕ → Held → Held
take_byte b h = if separator b then end_number h else held (take_digit b h.scanner) h.list

unfoldable pub take_bytes : List ℕ → Held → Held
take_bytes [] h = h
take_bytes (b ∷ bs) h = take_bytes bs (take_byte b h)

-- ---- the contracts

-- `scan` takes the next bytes of a text.
pub record Scans (chunk : List ℕ) (s : Scanner) (l : List ℕ) (r : Scanner) (l' : List ℕ) : Type 0 where
  pub does : held r l' ≡ take_bytes chunk (held s l)
  pub meets : (text : List ℕ) → Scanned text l s → Scanned (text ++ chunk) l' r

-- `finish` ends a text.
pub record Finishes (s : Scanner) (l : List ℕ) (r : Scanner) (l' : List ℕ) : Type 0 where
  pub does : held r l' ≡ end_number (held s l)
  pub meets : (text : List ℕ) → Scanned text l s → Finished text l' r
