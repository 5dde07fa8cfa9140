-- What the note of a node says, where the node's type is below the lowest bit.
use Rattle.std.specs.Prelude.{if◌then◌else◌}
use Prim.Native.Nat.{ℕ, ◌+◌, ◌*◌, ◌/◌, ◌%◌, ◌<◌, ◌≤◌}
use mathlib.Core.Bool.{Bool, true, false}
use mathlib.Core.Path.{◌≡◌, refl, sym, ◌∙◌, ap}
use mathlib.Core.Logic.{◌⊎◌, inl, inr, ⊎_elim}
use native.Mathlib.Omega.{arith}
use borrow.Author.Tests.{eqb-true, le-leb}
use lib.Dec.{leb, eqb}
use Rattle.semantics.specs.Words.{Words}
use Rattle.semantics.specs.Table.{Edition, edition_1, edition_2, nodes, item, is_pointer, Kind, variable, deref, field, constant, sum, read, address, cast, size, malloc, copy, unknown, place, value, neither, sort_of, node_kind, node_a, node_type}
use Rattle.semantics.specs.Syntax.{moves_bounds}
use Rattle.layout.specs.Notes.{as_of, bits, note}

-- The bits v of a node of kind k whose first child is of the kind with number c: how often each is in v, and what it says.
record Says (k : Kind) (c v : ℕ) : Type 0 where
  constants : ℕ
  variables : ℕ
  places : ℕ
  whole : v ≡ constants * 256 + variables * 512 + places * 1024
  few : (constants < 2) × (variables < 2) × (places < 2)
  of_constant : 0 < constants → k ≡ constant
  of_variable : 0 < variables → (k ≡ variable) ⊎ ((k ≡ read) × (c ≡ 1))
  of_place : 0 < places → sort_of k ≡ place
  for_place : sort_of k ≡ place → 0 < places

module _ {k : Kind} {c : ℕ} where
  no_bit : (sort_of k ≡ place → ⊥) → Says k c 0
  no_bit h = record { constants = 0; variables = 0; places = 0; whole = omega arith; few = omega arith; of_constant = λ l. absurd (omega arith); of_variable = λ l. absurd (omega arith); of_place = λ l. absurd (omega arith); for_place = λ e. absurd (h e) }

  place_bit : sort_of k ≡ place → Says k c 1024
  place_bit e = record { constants = 0; variables = 0; places = 1; whole = omega arith; few = omega arith; of_constant = λ l. absurd (omega arith); of_variable = λ l. absurd (omega arith); of_place = λ l. e; for_place = λ e. omega arith }

value_other : value ≡ place → ⊥
value_other e = let z : ◌≡◌ {A = ℕ} 0 1 = cc in omega arith

neither_other : neither ≡ place → ⊥
neither_other e = let z : ◌≡◌ {A = ℕ} 0 1 = cc in omega arith

says : (k : Kind) (c : ℕ) → Says k c (bits k c)
says variable c = record { constants = 0; variables = 1; places = 1; whole = omega arith; few = omega arith; of_constant = λ l. absurd (omega arith); of_variable = λ l. inl refl; of_place = λ l. refl; for_place = λ e. omega arith }
says deref c = place_bit refl
says field c = place_bit refl
says constant c = record { constants = 1; variables = 0; places = 0; whole = omega arith; few = omega arith; of_constant = λ l. refl; of_variable = λ l. absurd (omega arith); of_place = λ l. absurd (omega arith); for_place = λ e. absurd (value_other e) }
says sum c = no_bit value_other
says read c = go (eqb c 1) (eqb-true c 1)
  where
    go : (b : Bool) → (b ≡ true → c ≡ 1) → Says read c (if b then 512 else 0)
    go true h = record { constants = 0; variables = 1; places = 0; whole = omega arith; few = omega arith; of_constant = λ l. absurd (omega arith); of_variable = λ l. inr (refl, h refl); of_place = λ l. absurd (omega arith); for_place = λ e. absurd (value_other e) }
    go false h = no_bit value_other
says address c = no_bit value_other
says cast c = no_bit value_other
says size c = no_bit value_other
says malloc c = no_bit value_other
says copy c = no_bit value_other
says unknown c = no_bit neither_other

-- What an edition adds to a note is the lowest bit, or nothing.
record Lowest (e : Edition) (x : ℕ) : Type 0 where
  bounds : ℕ
  whole : as_of e x ≡ x + bounds * 128
  few : bounds < 2

lowest : (e : Edition) (x : ℕ) → Lowest e x
lowest edition_1 x = record { bounds = 0; whole = omega arith; few = omega arith }
lowest edition_2 x = record { bounds = 1; whole = omega arith; few = omega arith }

module _ (e : Edition) (t : Words) (n : ℕ) (small : node_type t n < 128) where
  here : Says (node_kind t n) (item t nodes (node_a t n) 0) (bits (node_kind t n) (item t nodes (node_a t n) 0))
  here = says (node_kind t n) (item t nodes (node_a t n) 0)

  added : Lowest e (node_type t n + bits (node_kind t n) (item t nodes (node_a t n) 0))
  added = lowest e (node_type t n + bits (node_kind t n) (item t nodes (node_a t n) 0))

  -- There is room for more bits.
  pub note_few : note e t n < 4096
  unfolding note
  note_few = omega (arith, here.whole, here.few, added.whole, added.few)

  pub type_noted : note e t n % 128 ≡ node_type t n
  unfolding note
  type_noted = omega (arith, here.whole, added.whole)

  -- Type and bounds bit together.
  pub low_noted : note e t n % 256 ≡ as_of e (node_type t n)
  unfolding note
  low_noted = go e
    where
      go : (e : Edition) → as_of e (node_type t n + bits (node_kind t n) (item t nodes (node_a t n) 0)) % 256 ≡ as_of e (node_type t n)
      go edition_1 = omega (arith, here.whole)
      go edition_2 = omega (arith, here.whole)

  -- They tell whether base and end go with the value.
  pub bounds_noted : is_pointer (note e t n % 256) ≡ moves_bounds e (node_type t n)
  unfolding is_pointer
  bounds_noted = rw low_noted (go e)
    where
      go : (e : Edition) → leb 1 (as_of e (node_type t n)) ≡ moves_bounds e (node_type t n)
      go edition_1 = refl
      go edition_2 = le-leb 1 (node_type t n + 128) (omega arith)

  pub constant_noted : note e t n / 256 % 2 ≡ 1 → node_kind t n ≡ constant
  unfolding note
  constant_noted h = here.of_constant (omega (arith, here.whole, here.few, added.whole, added.few))

  either_noted : note e t n / 512 % 2 ≡ 1 → (node_kind t n ≡ variable) ⊎ ((node_kind t n ≡ read) × (item t nodes (node_a t n) 0 ≡ 1))
  unfolding note
  either_noted h = here.of_variable (omega (arith, here.whole, here.few, added.whole, added.few))

  -- The bit of a place and that of a value.
  pub variable_noted : sort_of (node_kind t n) ≡ place → note e t n / 512 % 2 ≡ 1 → node_kind t n ≡ variable
  variable_noted s h = ⊎_elim (λ v. v) (λ r. absurd (value_other (ap sort_of (sym r.0) ∙ s))) (either_noted h)

  pub read_noted : sort_of (node_kind t n) ≡ value → note e t n / 512 % 2 ≡ 1 → (node_kind t n ≡ read) × (item t nodes (node_a t n) 0 ≡ 1)
  read_noted s h = ⊎_elim (λ v. absurd (value_other (sym s ∙ ap sort_of v))) (λ r. r) (either_noted h)

  pub place_noted : 1024 ≤ note e t n → sort_of (node_kind t n) ≡ place
  unfolding note
  place_noted l = here.of_place (omega (arith, here.whole, here.few, added.whole, added.few))

  pub place_high : sort_of (node_kind t n) ≡ place → 1024 ≤ note e t n
  unfolding note
  place_high s = omega (arith, here.whole, added.whole, added.few, here.for_place s)
