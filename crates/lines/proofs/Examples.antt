-- The lines of document 01's routine A, computed.
use mathlib.Core.List.{[], ◌∷◌}
use mathlib.Core.Path.{◌≡◌, refl}
use Rattle.semantics.specs.Run.{ending, abort}
use Rattle.text.specs.Decimal.{last_digits}
use Rattle.stream.specs.Items.{item_bytes, bytes_of}
use Rattle.lines.specs.Lines.{ending_line, word_line}

-- "abort 4 7"
first_line : bytes_of (ending_line (ending (abort 4) 7)) ≡ 97 ∷ 98 ∷ 111 ∷ 114 ∷ 116 ∷ 32 ∷ 52 ∷ 32 ∷ 55 ∷ []
unfolding bytes_of item_bytes ending_line last_digits
first_line = refl

-- "3 9 0 0\n"
third_word : bytes_of (word_line 3 9 0 0) ≡ 51 ∷ 32 ∷ 57 ∷ 32 ∷ 48 ∷ 32 ∷ 48 ∷ 10 ∷ []
unfolding bytes_of item_bytes word_line last_digits
third_word = refl
