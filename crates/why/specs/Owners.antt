-- What begins at a word of memory: "the variable or block in which the bounds lie" by its first word.
use Rattle.std.specs.Prelude.{ℕ, suc, ◌+◌, ◌-◌, ◌&&◌, leb, ltb, if◌then◌else◌}
use Rattle.semantics.specs.Words.{Words, least_below}
use Rattle.semantics.specs.Registers.{register_count, register_variable, register_start}
use Rattle.why.specs.declared.Owner.{Owner}
use Rattle.why.specs.declared.Owner.TheVariants.{Variable, Register, Block}

-- The number of the register that has word w, if the first register begins at word `first`; the count of registers where w is past the last.
unfoldable pub register_with : ℕ → Words → ℕ → ℕ
register_with first l w = least_below (register_count l) (λ i. ltb w (register_start first l (suc i)))

abbrev pub owner_by : Words → ℕ → ℕ → Owner
owner_by l w i = if ltb i (register_count l) then Register i (register_variable l i) else Block w

unfoldable pub owner_above : ℕ → Words → ℕ → Owner
owner_above first l w = owner_by l w (register_with first l w)

-- "Variable number i is word 1 + i"; "The registers become blocks after the variables".
unfoldable pub owner_of : ℕ → Words → ℕ → Owner
owner_of vars l w = if leb 1 w && leb w vars then Variable (w - 1) else owner_above (vars + 1) l w
