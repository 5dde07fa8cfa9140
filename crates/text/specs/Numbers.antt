-- Which numbers a text holds. A text is a list of bytes.
use Rattle.std.specs.Prelude.{ℕ, ◌+◌, ◌*◌, ◌-◌, Bool, true, false, ◌&&◌, ◌||◌, List, [], ◌∷◌, ◌++◌, leb, ltb, eqb, if◌then◌else◌}

-- The numbers of a text in their order, or that the text is none of numbers.
pub data Contents : Type 0 where
  holds : List ℕ → Contents
  malformed : Contents

-- Numbers are below 4,294,967,296.
abbrev pub limit : ℕ
limit = 4294967296

-- Numbers parted "by spaces (byte 32) or line ends (byte 10)".
unfoldable pub separator : ℕ → Bool
separator b = eqb b 32 || eqb b 10

-- The digits 0 to 9 are the bytes 48 to 57.
unfoldable pub digit : ℕ → Bool
digit b = leb 48 b && leb b 57

unfoldable pub digits : List ℕ → Bool
digits [] = true
digits (b ∷ bs) = digit b && digits bs

-- The value of digits, the first of which is the highest, after digits of value v.
unfoldable pub value_from : ℕ → List ℕ → ℕ
value_from v [] = v
value_from v (b ∷ bs) = value_from (10 * v + (b - 48)) bs

abbrev pub value : List ℕ → ℕ
value ds = value_from 0 ds

-- What the bytes between two separators hold: no number if there are none, else one number, which has digits only and is below the limit.
unfoldable pub number : List ℕ → Contents
number [] = holds []
number (b ∷ bs) = if digits (b ∷ bs) && ltb (value (b ∷ bs)) limit then holds (value (b ∷ bs) ∷ []) else malformed

-- A text holds what its parts hold, and is malformed if a part is.
unfoldable pub prepend : List ℕ → Contents → Contents
prepend xs (holds ys) = holds (xs ++ ys)
prepend xs malformed = malformed

infixr 30 ◌then◌
unfoldable pub ◌then◌ : Contents → Contents → Contents
holds xs then c = prepend xs c
malformed then c = malformed

-- A separator ends the run of bytes before it; any other byte belongs to the run. `rest` tells what the text after the byte holds, which goes on from a run.
unfoldable pub at_byte : Bool → List ℕ → ℕ → (List ℕ → Contents) → Contents
at_byte true run b rest = number run then rest []
at_byte false run b rest = rest (run ++ b ∷ [])

-- What a text holds that goes on from `run`, the bytes since the last separator.
unfoldable pub numbers_after : List ℕ → List ℕ → Contents
numbers_after run [] = number run
numbers_after run (b ∷ bs) = at_byte (separator b) run b (λ run'. numbers_after run' bs)

-- What a text holds.
abbrev pub numbers : List ℕ → Contents
numbers text = numbers_after [] text
