-- Laws of parts: where the byte that ends one stands, and what a read gives.
use Rattle.std.specs.Prelude.{not, if◌then◌else◌, position, Option, Some, None, ◌==◌}
use Prim.Native.Nat.{ℕ, ◌+◌, ◌-◌, ◌≤◌, ◌<◌}
use mathlib.Core.Bool.{Bool, true, false}
use mathlib.Core.List.{List}
use mathlib.Core.Path.{◌≡◌, refl}
use native.Mathlib.Omega.{arith}
use borrow.Author.Tests.{ne_eqb, lt-ltb, le-ltb, le-leb, lt-leb, ltb-true, ltb-false}
use lib.Dec.{ltb}
use lib.ListN.{length, take, drop, length-drop}
use lib.Seq.{length-take-le, take_all}
use Rattle.std.proofs.lemmas.List.Sums.{prefix_len-le-length}
use Rattle.text.specs.declared.Output.{Output}
use Rattle.stream.specs.Items.{Moves}
use Rattle.stream.specs.declared.Part.{Part}
use Rattle.stream.specs.Parts.{before, open_part, closed_part, last_part, part_of, part_read, NextPart, free_place}

-- ---- a part of what is read

-- A part from `from` on that is the one of these bytes.
abbrev pub Cut : (bytes : List ℕ) (from b : ℕ) → Part → Type 0
Cut bytes from b r = (r ≡ part_of bytes from b) × (r.from ≤ r.to) × (r.to ≤ length bytes)

module _ (bytes : List ℕ) (from b : ℕ) (inside : from ≤ length bytes) where
  closed_at : (n : ℕ) → n ≡ before b (drop from bytes) → n < length (drop from bytes) → Cut bytes from b (closed_part from (from + n) (length bytes))
  unfolding part_of
  closed_at n e less =
      let size = length-drop from bytes in
      let within : from + n < length bytes = omega arith in
      (rw (← e, lt-ltb _ _ within), omega arith, omega arith)

  open_at : (n : ℕ) → n ≡ before b (drop from bytes) → n ≡ length (drop from bytes) → Cut bytes from b (open_part from (length bytes) (length bytes))
  unfolding part_of
  open_at n e all =
      let size = length-drop from bytes in
      let place : from + n ≡ length bytes = omega arith in
      (rw (← e, place, le-ltb (length bytes) (length bytes) (omega arith)), inside, omega arith)

  -- The code looks in `&bytes[from..]`, of length bytes - from bytes.
  rest : take (length bytes - from) (drop from bytes) ≡ drop from bytes
  rest = let size = length-drop from bytes in take_all (length bytes - from) (drop from bytes) (omega arith)

  module _ {r : Option ℕ} (same : r ≡ position (λ x. x == b) (take (length bytes - from) (drop from bytes))) where
    pub cut_closed : {n : ℕ} → r ≡ Some n → Cut bytes from b (closed_part from (from + n) (length bytes))
    cut_closed {n} some = go (ltb (before b (drop from bytes)) (length (drop from bytes))) refl (rw rest at same)
      where
        go : (t : Bool) → ltb (before b (drop from bytes)) (length (drop from bytes)) ≡ t → r ≡ (if t then Some (before b (drop from bytes)) else None)
            → Cut bytes from b (closed_part from (from + n) (length bytes))
        go true e is = let place : n ≡ before b (drop from bytes) = cc in let less = ltb-true _ _ e in closed_at n place (omega arith)
        go false e is = absurd cc

    pub cut_open : r ≡ None → Cut bytes from b (open_part from (length bytes) (length bytes))
    cut_open none = go (ltb (before b (drop from bytes)) (length (drop from bytes))) refl (rw rest at same)
      where
        go : (t : Bool) → ltb (before b (drop from bytes)) (length (drop from bytes)) ≡ t → r ≡ (if t then Some (before b (drop from bytes)) else None)
            → Cut bytes from b (open_part from (length bytes) (length bytes))
        go true e is = absurd cc
        go false e is =
            let most = prefix_len-le-length (λ x. not (x == b)) (drop from bytes) in
            let least = ltb-false _ _ e in
            open_at (before b (drop from bytes)) refl (omega arith)

-- ---- the next part

module _ {buffer : List ℕ} {last : Part} {b : ℕ} {buffer' : List ℕ} (deny : last.filled ≤ length buffer → last.next < last.filled → ⊥) where
  pub next_read : {r : Part} (n : ℕ) → n ≤ length buffer' → (n ≡ 0 → ⊥) → Cut (take n buffer') 0 b r → NextPart buffer last b buffer' r
  unfolding part_read
  next_read {r} n h some p =
      let l = length-take-le n buffer' h in
      let to = p.2 in
      let part : r ≡ part_read n buffer' b = rw (ne_eqb n 0 some) p.0 in
      record { left = λ h' k'. absurd (deny h' k'); read = λ d. record { n = n; within = h; part = part }; bounds = (p.1, omega arith) }

  pub next_none : NextPart buffer last b buffer' last_part
  unfolding part_read
  next_none =
      record { left = λ h' k'. absurd (deny h' k'); read = λ d. record { n = 0; within = omega arith; part = refl }; bounds = (omega arith, omega arith) }

-- ---- the room for output

pub room_made : {out out' : Output} → Moves 0 out out' → length out.bytes.now < out.at + 128 → Moves (free_place (length out.bytes.now) out.at) out out'
unfolding free_place
room_made h less = rw (lt-leb _ _ less) h

pub room_left : {out : Output} → out.at + 128 ≤ length out.bytes.now → Moves (free_place (length out.bytes.now) out.at) out out
unfolding free_place
room_left h = record { same_bytes = refl; kept = refl; place = rw (le-leb _ _ h) }
