-- Parts of the input that a byte ends, and the place where output goes on.
use Rattle.std.specs.Prelude.{ℕ, ◌+◌, ◌≤◌, ◌<◌, List, ◌≡◌, ◌==◌, leb, ltb, eqb, length, take, drop, if◌then◌else◌}
use Rattle.std.specs.List.{position_or_len}
use Rattle.stream.specs.declared.Part.{Part}
use Rattle.stream.specs.declared.PartEnd.{PartEnd}
use Rattle.stream.specs.declared.PartEnd.TheVariants.{Open, Closed, Last}

-- How many bytes stand before the first b: all of them where there is none.
abbrev pub before : ℕ → List ℕ → ℕ
before b xs = position_or_len (λ x. x == b) xs

-- The text goes on in the next part.
abbrev pub open_part : (from to filled : ℕ) → Part
open_part from to filled = record { from = from; to = to; next = to; filled = filled; end = Open }

-- The byte that ends the text stands after the part, and the next part starts behind it.
abbrev pub closed_part : (from to filled : ℕ) → Part
closed_part from to filled = record { from = from; to = to; next = to + 1; filled = filled; end = Closed }

abbrev pub empty_part : PartEnd → Part
empty_part end = record { from = 0; to = 0; next = 0; filled = 0; end = end }

-- The input has ended.
abbrev pub last_part : Part
last_part = empty_part Last

abbrev pub part_to : (from to filled : ℕ) → Part
part_to from to filled = if ltb to filled then closed_part from to filled else open_part from to filled

-- The part of some bytes from `from` on: up to the first b, or up to their end.
unfoldable pub part_of : List ℕ → (from b : ℕ) → Part
part_of bytes from b = part_to from (from + before b (drop from bytes)) (length bytes)

-- The next part after a read that has put n bytes at the start of a buffer.
unfoldable pub part_read : ℕ → List ℕ → (b : ℕ) → Part
part_read n buffer b = if eqb n 0 then last_part else part_of (take n buffer) 0 b

pub record Read (buffer' : List ℕ) (b : ℕ) (r : Part) : Type 0 where
  pub n : ℕ
  pub within : n ≤ length buffer'
  pub part : r ≡ part_read n buffer' b

-- `next_part`: the part after `last`, in a buffer that is `buffer` at entry and `buffer'` at exit.
pub record NextPart (buffer : List ℕ) (last : Part) (b : ℕ) (buffer' : List ℕ) (r : Part) : Type 0 where
  -- With bytes left of what was read before: nothing is read, and the part is among them.
  pub left : last.filled ≤ length buffer → last.next < last.filled
      → (buffer' ≡ buffer) × (r ≡ part_of (take last.filled buffer) last.next b)
  -- Else there is one read. What it leaves in the buffer, and how many bytes it says it has put there, is the operating system's.
  pub read : (last.filled ≤ length buffer → last.next < last.filled → ⊥) → Read buffer' b r
  pub bounds : (r.from ≤ r.to) × (r.to ≤ length buffer')

-- The next free place of an output of so many bytes, which is used up to `at`: 0, after a flush, where fewer than 128 bytes are free.
unfoldable pub free_place : (size at : ℕ) → ℕ
free_place size at = if leb (at + 128) size then at else 0
