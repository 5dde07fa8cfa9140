-- Laws of kinds, their sorts, and the notes of children.
use Prim.Native.Nat.{ℕ, ◌+◌, ◌/◌, ◌≤◌, ◌<◌, ◌%◌}
use mathlib.Core.Bool.{Bool, true, false, not, ◌||◌, true≢false}
use mathlib.Core.Path.{◌≡◌, refl, sym, ◌∙◌}
use native.Mathlib.Omega.{arith}
use native.Mathlib.Decide.{dec_lt, ℕ_discrete}
use borrow.Author.Tests.{lt-ltb, le-ltb, lt-leb, le-leb, ltb-true, eqb-true, ne_eqb}
use lib.Dec.{leb, ltb, eqb}
use lib.ListN.{get_or-eq_default}
use Rattle.semantics.specs.Words.{Words, word}
use Rattle.semantics.specs.Table.{edition_1, nodes, item, known_type, variable, read, unknown, kinds, kind_of, Sort, place, value, neither, sort_of, node_kind, types_below, node_type}
use Rattle.semantics.specs.Check.{passes, ◌or_else◌, require, each, same_sort, is_child, node_fault}
use Rattle.semantics.proofs.Passed.{or_else_passes, require_passes, each_passes}
use Rattle.semantics.proofs.Trees.{types_at, types_known}
use Rattle.layout.specs.Notes.{bits, note}
use Rattle.layout.proofs.Notes.{type_noted, variable_noted, place_noted, place_high}
use Rattle.nodes.specs.Nodes.{read_bit}
use Rattle.nodes.specs.Promises.{NotedTo}
use Rattle.nodes.proofs.Lookups.{few_pointers}

-- ---- kinds

pub unknown_low : (k : ℕ) → k < 1 → kind_of k ≡ unknown
unfolding kind_of
unknown_low k h = let z : k ≡ 0 = omega arith in rw z

pub unknown_high : (k : ℕ) → 12 ≤ k → kind_of k ≡ unknown
unfolding kind_of
unknown_high k h = get_or-eq_default kinds unknown h

-- Of the kinds only 1 has all the bits of a variable.
one_variable : ℕ → Bool
one_variable k = ltb (bits (kind_of k) 0) 1536 || eqb k 1

variable_number : (k : ℕ) → kind_of k ≡ variable → k ≡ 1
unfolding one_variable each require ◌or_else◌ kind_of
variable_number k e = go (dec_lt k 12)
  where
    go : Dec (k < 12) → k ≡ 1
    go (yes less) = eqb-true k 1 (rw e at (require_passes (one_variable k) 7 0 (each_passes 12 (λ (i : ℕ). require (one_variable i) 7 0) refl k less)))
    go (no more) = absurd (let q = unknown_high k (omega arith) in let z : ◌≡◌ {A = ℕ} 0 1 = cc in omega arith)

-- ---- notes

only_value : (s : Sort) → same_sort neither s ≡ false → (s ≡ place → ⊥) → s ≡ value
only_value place h k = absurd (k refl)
only_value value h k = refl
only_value neither h k = absurd (true≢false h)

module _ {t notes : Words} {n : ℕ} (h : NotedTo t notes n) (x : ℕ) (less : x < n) where
  node_passes : node_fault t x ≡ passes
  node_passes = each_passes n (node_fault t) h.nodes_pass x less

  pub child_known : known_type t (node_type t x) ≡ true
  child_known = types_known h.types_pass n (each_passes n (node_fault t) h.nodes_pass) x less

  small : node_type t x < 128
  unfolding known_type
  small = omega (arith, ltb-true (node_type t x) _ child_known, few_pointers h.types_pass)

  -- Its kind has a sort.
  sorted : same_sort neither (sort_of (node_kind t x)) ≡ false
  unfolding node_fault
  sorted = no (same_sort neither (sort_of (node_kind t x))) (require_passes (not (same_sort neither (sort_of (node_kind t x)))) _ _ (or_else_passes _ _ node_passes).0)
    where
      no : (b : Bool) → not b ≡ true → b ≡ false
      no true e = sym e
      no false e = refl

  is : word notes x ≡ note edition_1 t x
  is = h.noted x less

  pub child_type : word notes x % 128 ≡ node_type t x
  child_type = rw is (type_noted edition_1 t x small)

  pub child_same : word notes x % 128 ≡ word (types_below t n) x
  child_same = child_type ∙ sym (types_at t n x less)

  low_value : word notes x < 1024 → sort_of (node_kind t x) ≡ value
  low_value l = only_value (sort_of (node_kind t x)) sorted (λ e. absurd (omega (arith, is, place_high edition_1 t x small e)))

  high_place : 1024 ≤ word notes x → sort_of (node_kind t x) ≡ place
  high_place l = place_noted edition_1 t x small (rw (← is) l)

  pub value_test : ltb (word notes x) 1024 ≡ is_child t value n x
  unfolding is_child
  value_test = go (dec_lt (word notes x) 1024)
    where
      go : Dec (word notes x < 1024) → ltb (word notes x) 1024 ≡ is_child t value n x
      go (yes low) = rw (lt-ltb (word notes x) 1024 low, lt-ltb x n less, low_value low)
      go (no high) = rw (le-ltb (word notes x) 1024 (omega arith), lt-ltb x n less, high_place (omega arith))

  pub place_test : leb 1024 (word notes x) ≡ is_child t place n x
  unfolding is_child
  place_test = go (dec_lt (word notes x) 1024)
    where
      go : Dec (word notes x < 1024) → leb 1024 (word notes x) ≡ is_child t place n x
      go (yes low) = rw (lt-leb 1024 (word notes x) low, lt-ltb x n less, low_value low)
      go (no high) = rw (le-leb 1024 (word notes x) (omega arith), lt-ltb x n less, high_place (omega arith))

  -- The bits of a read of place x.
  pub read_bits : sort_of (node_kind t x) ≡ place → read_bit (word notes x) ≡ bits read (item t nodes x 0)
  unfolding note node_kind kind_of
  read_bits s = go (ℕ_discrete (item t nodes x 0) 1) (ℕ_discrete (note edition_1 t x / 512 % 2) 1)
    where
      go : Dec (item t nodes x 0 ≡ 1) → Dec (note edition_1 t x / 512 % 2 ≡ 1) → read_bit (word notes x) ≡ bits read (item t nodes x 0)
      go (yes e) z = let v : word notes x ≡ node_type t x + 1536 = is ∙ rw e refl in rw e (omega (arith, small))
      go (no e) (yes z) = absurd (e (variable_number (item t nodes x 0) (variable_noted edition_1 t x small s z)))
      go (no e) (no z) = rw (is, ne_eqb (item t nodes x 0) 1 e) (omega arith)

pub child_late : (t : Words) (s : Sort) (n x : ℕ) → n ≤ x → false ≡ is_child t s n x
unfolding is_child
child_late t s n x late = rw (le-ltb x n late)
