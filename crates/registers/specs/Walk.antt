-- A walk over the registers of a whole list.
use Rattle.std.specs.Prelude.{ℕ, ◌+◌, ◌<◌, ◌≡◌, Option, None, Some}
use Rattle.semantics.specs.Words.{Words, word}
use Rattle.semantics.specs.Registers.{register_count, register_place}
use Rattle.registers.specs.declared.Register.{Register}

-- r is register i of the list.
pub record RegisterAt (l : Words) (i : ℕ) (r : Register) : Type 0 where
  pub before_end : i < register_count l
  pub number : r.number ≡ i
  pub place : r.place ≡ register_place l i
  pub variable : r.variable ≡ word l r.place
  pub words : r.length ≡ word l (r.place + 1)

-- What one step of a walk gives that has come to register i: that register and then the next, or nothing after the last.
abbrev pub next_register : Words → ℕ → Option Register → Words → ℕ → Type 0
next_register l i None l' i' = (i ≡ register_count l) × (l' ≡ l)
next_register l i (Some r) l' i' = RegisterAt l i r × (l' ≡ l) × (i' ≡ i + 1)
