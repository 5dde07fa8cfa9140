-- A text that asks for nothing, computed. What texts that ask for a run print is in the tests of the programs.
use mathlib.Core.List.{[], ◌∷◌}
use mathlib.Core.Path.{◌≡◌, refl}
use Rattle.text.specs.Numbers.{separator, digit, digits, value_from, number, prepend, ◌then◌, at_byte, numbers_after}
use Rattle.request.specs.Request.{demand_after, demand_of, demand}
use Rattle.console.specs.Output.{output, output_of}

-- "Other text, as one with fewer inputs than their count, prints the line `input` alone": `16 2 0`.
fewer_inputs : output_of (49 ∷ 54 ∷ 32 ∷ 50 ∷ 32 ∷ 48 ∷ []) ≡ 105 ∷ 110 ∷ 112 ∷ 117 ∷ 116 ∷ 10 ∷ []
unfolding separator digit digits value_from number prepend ◌then◌ at_byte numbers_after demand_after demand_of demand output
fewer_inputs = refl
