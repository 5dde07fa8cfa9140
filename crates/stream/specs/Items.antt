-- Words and numbers that are put into a list of bytes one after the other.
use Rattle.std.specs.Prelude.{ℕ, ◌+◌, ◌≤◌, List, [], ◌∷◌, ◌++◌, ◌≡◌, leb, length, take, drop, if◌then◌else◌}
use Rattle.text.specs.Decimal.{decimal}
use Rattle.text.specs.declared.Output.{Output}

-- Some bytes, or a number in decimal.
pub data Item : Type 0 where
  word : List ℕ → Item
  number : ℕ → Item

unfoldable pub item_bytes : Item → List ℕ
item_bytes (word bytes) = bytes
item_bytes (number x) = decimal x

-- The bytes that have to be free for an item to be put: a number takes at most 20.
unfoldable pub item_room : Item → ℕ
item_room (word bytes) = length bytes
item_room (number x) = 20

unfoldable pub bytes_of : List Item → List ℕ
bytes_of [] = []
bytes_of (p ∷ ps) = item_bytes p ++ bytes_of ps

unfoldable pub room_of : List Item → ℕ
room_of [] = 0
room_of (p ∷ ps) = item_room p + room_of ps

-- A list of bytes and the next free place in it.
pub record Buffer : Type 0 where
  pub out : List ℕ
  pub at : ℕ

abbrev pub buffer : List ℕ → ℕ → Buffer
buffer l n = record { out = l; at = n }

-- Bytes put from the free place on, over what stood there.
unfoldable pub put_bytes : List ℕ → Buffer → Buffer
put_bytes bytes b =
    buffer (take b.at b.out ++ bytes ++ drop (b.at + length bytes) b.out) (b.at + length bytes)

-- An item is put if there is room for it, else left out.
unfoldable pub put_item : Item → Buffer → Buffer
put_item p b = if leb (b.at + item_room p) (length b.out) then put_bytes (item_bytes p) b else b

unfoldable pub put_items : List Item → Buffer → Buffer
put_items [] b = b
put_items (p ∷ ps) b = put_items ps (put_item p b)

-- A function that puts items into `out` from `at` on, and answers r.
pub record PutsItems (items : List Item) (out : List ℕ) (at : ℕ) (out' : List ℕ) (r : ℕ) : Type 0 where
  -- With room for all: their bytes stand from `at` on, all other bytes are kept, and r is the place after them.
  pub fits : at + room_of items ≤ length out
      → (out' ≡ take at out ++ bytes_of items ++ drop (at + length (bytes_of items)) out) × (r ≡ at + length (bytes_of items))
  -- In every case: each item that has no room is left out.
  pub does : buffer out' r ≡ put_items items (buffer out at)

-- A function that puts items into an output, in the bytes that it lends.
pub record Prints (items : List Item) (out out' : Output) : Type 0 where
  pub same_bytes : out'.bytes.ghost_name ≡ out.bytes.ghost_name
  pub puts : PutsItems items out.bytes.now out.at out'.bytes.now out'.at

-- A function that only moves the next free place of an output, to `at`.
pub record Moves (at : ℕ) (out out' : Output) : Type 0 where
  pub same_bytes : out'.bytes.ghost_name ≡ out.bytes.ghost_name
  pub kept : out'.bytes.now ≡ out.bytes.now
  pub place : out'.at ≡ at
