-- Numbers as decimal digits, and bytes put into a list.
use Rattle.std.specs.Prelude.{ℕ, zero, suc, ◌+◌, ◌/◌, ◌%◌, ◌<◌, ◌≤◌, ◌≡◌, List, [], ◌∷◌, ◌++◌, ltb, length, take, drop, if◌then◌else◌}
use Rattle.text.specs.declared.Output.{Output}

-- At most n digits of x, the last ones, without leading zeros; 0 has one digit.
unfoldable pub last_digits : ℕ → ℕ → List ℕ
last_digits zero x = []
last_digits (suc n) x = (if ltb x 10 then [] else last_digits n (x / 10)) ++ ((48 + x % 10) ∷ [])

-- All digits of x: a 64-bit number has at most twenty.
abbrev pub decimal : ℕ → List ℕ
decimal x = last_digits 20 x

-- Bytes are put at a place that has room, else nothing is; r is the next free place.
pub record Puts (room : ℕ) (bytes out : List ℕ) (at : ℕ) (out' : List ℕ) (r : ℕ) : Type 0 where
  pub fits : at + room ≤ length out → (out' ≡ take at out ++ bytes ++ drop (at + length bytes) out) × (r ≡ at + length bytes)
  pub full : length out < at + room → (out' ≡ out) × (r ≡ at)

-- The same in the bytes that an output lends, at its next free place.
pub record PutsIn (room : ℕ) (bytes : List ℕ) (out out' : Output) : Type 0 where
  pub same_bytes : out'.bytes.ghost_name ≡ out.bytes.ghost_name
  pub puts : Puts room bytes out.bytes.now out.at out'.bytes.now out'.at

-- The digits of x stand in a list of twenty bytes from place r to its end.
pub record Written (x : ℕ) (list : List ℕ) (r : ℕ) : Type 0 where
  pub long : length list ≡ 20
  pub start : r < 20
  pub digits : drop r list ≡ decimal x
