-- What some short texts hold, and the digits of some numbers, computed.
use mathlib.Core.Path.{◌≡◌, refl}
use mathlib.Core.List.{[], ◌∷◌}
use Rattle.text.specs.Decimal.{last_digits, decimal}
use Rattle.text.specs.Numbers.{holds, malformed, separator, digit, digits, value_from, number, prepend, ◌then◌, at_byte, numbers_after, numbers}

-- The empty text.
empty : numbers [] ≡ holds []
unfolding numbers_after number
empty = refl

-- " 7"
space_first : numbers (32 ∷ 55 ∷ []) ≡ holds (7 ∷ [])
unfolding numbers_after number at_byte separator digit digits value_from prepend ◌then◌
space_first = refl

-- "007 12\n"
leading_zeros : numbers (48 ∷ 48 ∷ 55 ∷ 32 ∷ 49 ∷ 50 ∷ 10 ∷ []) ≡ holds (7 ∷ 12 ∷ [])
unfolding numbers_after number at_byte separator digit digits value_from prepend ◌then◌
leading_zeros = refl

-- "4294967295"
largest : numbers (52 ∷ 50 ∷ 57 ∷ 52 ∷ 57 ∷ 54 ∷ 55 ∷ 50 ∷ 57 ∷ 53 ∷ []) ≡ holds (4294967295 ∷ [])
unfolding numbers_after number at_byte separator digit digits value_from prepend ◌then◌
largest = refl

-- "4294967296"
too_large : numbers (52 ∷ 50 ∷ 57 ∷ 52 ∷ 57 ∷ 54 ∷ 55 ∷ 50 ∷ 57 ∷ 54 ∷ []) ≡ malformed
unfolding numbers_after number at_byte separator digit digits value_from prepend ◌then◌
too_large = refl

-- "1 x"
other_byte : numbers (49 ∷ 32 ∷ 120 ∷ []) ≡ malformed
unfolding numbers_after number at_byte separator digit digits value_from prepend ◌then◌
other_byte = refl

-- 0 has one digit.
zero_digits : decimal 0 ≡ 48 ∷ []
unfolding last_digits
zero_digits = refl

-- "4096"
some_digits : decimal 4096 ≡ 52 ∷ 48 ∷ 57 ∷ 54 ∷ []
unfolding last_digits
some_digits = refl
