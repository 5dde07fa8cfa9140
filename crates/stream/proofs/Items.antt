-- Laws of items that are put one after the other.
use Rattle.std.specs.Prelude.{if◌then◌else◌}
use Prim.Native.Nat.{ℕ, zero, suc, ◌+◌, ◌/◌, ◌%◌, ◌≤◌, ◌<◌}
use mathlib.Core.Bool.{Bool, true, false}
use mathlib.Core.List.{List, [], ◌∷◌, ◌++◌, append_assoc, append-nil}
use mathlib.Core.Path.{◌≡◌, refl, sym, ap, ◌∙◌}
use native.Mathlib.Omega.{arith}
use borrow.Author.Tests.{le-leb, lt-leb, leb-true, leb-false}
use lib.Dec.{leb, ltb}
use lib.ListN.{length, take, drop, length-append, length-drop, take-append-drop}
use lib.Seq.{length-take-le, take_at, drop-append-add, drop-drop}
use Rattle.text.specs.Decimal.{last_digits, decimal, Puts, PutsIn}
use Rattle.stream.specs.Items.{Item, word, number, item_bytes, item_room, bytes_of, room_of, Buffer, buffer, put_bytes, put_item, put_items, PutsItems, Prints}
use Rattle.text.specs.declared.Output.{Output}

-- ---- an item is no longer than its room

length_digits : (n x : ℕ) → length (last_digits n x) ≤ n
unfolding last_digits
length_digits zero x = omega arith
length_digits (suc n) x = go (ltb x 10) (length_digits n (x / 10))
  where
    go : (t : Bool) → length (last_digits n (x / 10)) ≤ n → length ((if t then [] else last_digits n (x / 10)) ++ ((48 + x % 10) ∷ [])) ≤ suc n
    go true h = omega arith
    go false h = rw length-append (omega arith)

item_short : (p : Item) → length (item_bytes p) ≤ item_room p
unfolding item_bytes item_room
item_short (word bytes) = omega arith
item_short (number x) = length_digits 20 x

pub items_short : (ps : List Item) → length (bytes_of ps) ≤ room_of ps
unfolding bytes_of room_of
items_short [] = omega arith
items_short (p ∷ ps) = let short = item_short p in let rest = items_short ps in rw length-append (omega arith)

-- Two rows of items take the room of both.
pub room_both : (ps qs : List Item) → room_of (ps ++ qs) ≡ room_of ps + room_of qs
unfolding room_of
room_both [] qs = omega arith
room_both (p ∷ ps) qs = let rest = room_both ps qs in omega arith

-- ---- bytes put after bytes

module _ (out xs : List ℕ) (at : ℕ) (room : at + length xs ≤ length out) where
  head_length : length (take at out ++ xs) ≡ at + length xs
  head_length = rw length-append (ap (λ n. n + length xs) (length-take-le at out (omega arith)))

  first_length : length (take at out ++ xs ++ drop (at + length xs) out) ≡ length out
  first_length = rw (length-append (take at out ++ xs), head_length, length-drop) (omega arith)

  then_take : take (at + length xs) (take at out ++ xs ++ drop (at + length xs) out) ≡ take at out ++ xs
  then_take = take_at (take at out ++ xs) _ (at + length xs) head_length

  then_drop : (n : ℕ) → drop (at + length xs + n) (take at out ++ xs ++ drop (at + length xs) out) ≡ drop (at + length xs + n) out
  then_drop n =
      ap (λ m. drop (m + n) (take at out ++ xs ++ drop (at + length xs) out)) (sym head_length)
      ∙ drop-append-add (take at out ++ xs) (drop (at + length xs) out) n
      ∙ drop-drop n (at + length xs) out

  put_put : (ys : List ℕ) → put_bytes ys (put_bytes xs (buffer out at)) ≡ put_bytes (xs ++ ys) (buffer out at)
  unfolding put_bytes
  put_put ys =
      let place : at + length xs + length ys ≡ at + length (xs ++ ys) = rw length-append (omega arith) in
      let rest : drop (at + length xs + length ys) (take at out ++ xs ++ drop (at + length xs) out) ≡ drop (at + length (xs ++ ys)) out =
      then_drop (length ys) ∙ ap (λ n. drop n out) place in
      let list : take (at + length xs) (take at out ++ xs ++ drop (at + length xs) out) ++ ys ++ drop (at + length xs + length ys) (take at out ++ xs ++ drop (at + length xs) out)
      ≡ take at out ++ (xs ++ ys) ++ drop (at + length (xs ++ ys)) out = rw (then_take, rest) (simp append_assoc) in
      cc

put_nothing : (out : List ℕ) (at : ℕ) → put_bytes [] (buffer out at) ≡ buffer out at
unfolding put_bytes
put_nothing out at =
    let place : at + 0 ≡ at = omega arith in
    rw (place, append-nil (take at out), take-append-drop at out)

-- ---- items

puts_room : (p : Item) (out : List ℕ) (at : ℕ) → at + item_room p ≤ length out → put_item p (buffer out at) ≡ put_bytes (item_bytes p) (buffer out at)
unfolding put_item
puts_room p out at h = rw (le-leb _ _ h)

puts_no_room : (p : Item) (out : List ℕ) (at : ℕ) → length out < at + item_room p → put_item p (buffer out at) ≡ buffer out at
unfolding put_item
puts_no_room p out at h = rw (lt-leb _ _ h)

put_all : (ps : List Item) (out : List ℕ) (at : ℕ) → at + room_of ps ≤ length out → put_items ps (buffer out at) ≡ put_bytes (bytes_of ps) (buffer out at)
unfolding put_items bytes_of room_of put_bytes
put_all [] out at h = sym (put_nothing out at)
put_all (p ∷ ps) out at h =
    let short = item_short p in
    let fits : at + length (item_bytes p) ≤ length out = omega arith in
    ap (put_items ps) (puts_room p out at (omega arith))
    ∙ put_all ps (put_bytes (item_bytes p) (buffer out at)).out (at + length (item_bytes p)) (rw (first_length out (item_bytes p) at fits) (omega arith))
    ∙ put_put out (item_bytes p) at fits (bytes_of ps)

put_both : (ps qs : List Item) (b : Buffer) → put_items (ps ++ qs) b ≡ put_items qs (put_items ps b)
unfolding put_items
put_both [] qs b = refl
put_both (p ∷ ps) qs b = put_both ps qs (put_item p b)

-- ---- contracts

-- All of the contract follows from what a call does.
puts_items : (ps : List Item) {out : List ℕ} {at : ℕ} {out' : List ℕ} {r : ℕ} → buffer out' r ≡ put_items ps (buffer out at) → PutsItems ps out at out' r
unfolding put_bytes
puts_items ps {out} {at} {out'} {r} e =
    record {
      fits =
          λ h.
          let all : buffer out' r ≡ put_bytes (bytes_of ps) (buffer out at) = e ∙ put_all ps out at h in
          (ap (λ (b : Buffer). b.out) all, ap (λ (b : Buffer). b.at) all);
      does = e;
    }

pub puts_none : (out : List ℕ) (at : ℕ) → PutsItems [] out at out at
unfolding put_items
puts_none out at = puts_items [] refl

module _ {out : List ℕ} {at : ℕ} {out' : List ℕ} {r : ℕ} where
  puts_item : (p : Item) → Puts (item_room p) (item_bytes p) out at out' r → PutsItems (p ∷ []) out at out' r
  unfolding put_bytes put_items
  puts_item p h = puts_items (p ∷ []) (go (leb (at + item_room p) (length out)) refl)
    where
      go : (t : Bool) → leb (at + item_room p) (length out) ≡ t → buffer out' r ≡ put_item p (buffer out at)
      go true e =
          let k = leb-true _ _ e in
          let list = (h.fits k).0 in
          let place = (h.fits k).1 in
          cc (puts_room p out at k)
      go false e =
          let k = leb-false _ _ e in
          let list = (h.full k).0 in
          let place = (h.full k).1 in
          cc (puts_no_room p out at k)

  pub puts_word : {bytes : List ℕ} → Puts (length bytes) bytes out at out' r → PutsItems (word bytes ∷ []) out at out' r
  unfolding item_room item_bytes
  puts_word {bytes} h = puts_item (word bytes) h

  pub puts_number : (x : ℕ) → Puts 20 (decimal x) out at out' r → PutsItems (number x ∷ []) out at out' r
  unfolding item_room item_bytes
  puts_number x h = puts_item (number x) h

  -- One call after another.
  pub puts_then : {ps qs : List Item} {out'' : List ℕ} {r' : ℕ} → PutsItems ps out at out' r → PutsItems qs out' r out'' r' → PutsItems (ps ++ qs) out at out'' r'
  puts_then {ps} {qs} {out''} {r'} h k = puts_items (ps ++ qs) (k.does ∙ ap (put_items qs) h.does ∙ sym (put_both ps qs (buffer out at)))

-- ---- outputs

module _ {out out' : Output} where
  pub prints_word : {bytes : List ℕ} → PutsIn (length bytes) bytes out out' → Prints (word bytes ∷ []) out out'
  prints_word h = record { same_bytes = h.same_bytes; puts = puts_word h.puts }

  pub prints_number : (x : ℕ) → PutsIn 20 (decimal x) out out' → Prints (number x ∷ []) out out'
  prints_number x h = record { same_bytes = h.same_bytes; puts = puts_number x h.puts }

pub prints_none : (out : Output) → Prints [] out out
prints_none out = record { same_bytes = refl; puts = puts_none out.bytes.now out.at }

pub prints_then : {ps qs : List Item} {out out' out'' : Output} → Prints ps out out' → Prints qs out' out'' → Prints (ps ++ qs) out out''
prints_then h k = record { same_bytes = k.same_bytes ∙ h.same_bytes; puts = puts_then h.puts k.puts }
