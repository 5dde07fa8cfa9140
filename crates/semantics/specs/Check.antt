-- Document 01, "What is turned away", with what requests 1, 6 and 8 add to it and without 12, which request 7 takes off: the refusals by number and
-- place, in their order.
use Rattle.std.specs.Prelude.{ℕ, zero, suc, ◌+◌, Bool, true, false, not, ◌&&◌, ◌||◌, [], ◌∷◌, length, leb, ltb, eqb, if◌then◌else◌}
use Rattle.semantics.specs.Words.{Words, word, sum_below, seen_before}
use Rattle.semantics.specs.Table.{Edition, edition_1, edition_2, edition, records, fields, pointers, variables, nodes, commands, limits, count_place, count, item_place, item, int, is_pointer, known_type, known_target, points_to_type, points_to_record, pointed_record, entry_below, field_total, first_field, Kind, variable, deref, field, constant, sum, read, address, cast, size, malloc, copy, unknown, Sort, place, value, neither, sort_of, Operand, unused, variable_number, field_number, any_word, type_word, target_word, place_child, value_child, operand_a, operand_b, node_kind, node_a, node_b, children, node_type}
use Rattle.semantics.specs.Registers.{register_count, register_place, register_variable, register_start}

pub data Verdict : Type 0 where
  passes : Verdict
  refused : (number at : ℕ) → Verdict

-- The first refusal stands.
infixr 10 ◌or_else◌
unfoldable pub ◌or_else◌ : Verdict → Verdict → Verdict
passes or_else v = v
refused n p or_else v = refused n p

-- What must hold, or the refusal with this number and place is given.
unfoldable pub require : Bool → ℕ → ℕ → Verdict
require true n p = passes
require false n p = refused n p

-- The first refusal among f 0, f 1, .. below n.
unfoldable pub each : ℕ → (ℕ → Verdict) → Verdict
each zero f = passes
each (suc n) f = each n f or_else f n

-- Request 8: "16 when another edition follows the mark, place 1". Where nothing follows it, the sections are cut short.
abbrev pub edition_known : Edition → Words → Bool
edition_known edition_1 t = true
edition_known edition_2 t = leb (length t) 1 || eqb (word t 1) 2

unfoldable pub edition_fault : Words → Verdict
edition_fault t = require (edition_known (edition t) t) 16 1

-- "the sections in turn, each its count (1, then 3) and then its extent (1)"; "For a cut table the place is its length." Request 8: "1 at place 1 if the
-- table ends with the mark; 3 no longer for the mark".
unfoldable pub section_fault : Words → ℕ → Verdict
section_fault t s =
    require (ltb (count_place t s) (length t)) 1 (length t)
    or_else require (leb (count t s) (word limits s)) 3 (count_place t s)
    or_else require (leb (count_place t (suc s)) (length t)) 1 (length t)

-- "then 2": words after the last section.
unfoldable pub words_over : Words → Verdict
words_over t = require (leb (length t) (count_place t 6)) 2 (count_place t 6)

-- 4, a record without fields.
unfoldable pub record_fault : Words → ℕ → Verdict
record_fault t r = require (ltb 0 (field_total t r)) 4 (item_place t records r 0)

-- "a wrong sum of fields is placed at section 2's count, after all records' own words"
unfoldable pub field_sum_fault : Words → Verdict
field_sum_fault t = require (eqb (first_field t (count t records)) (count t fields)) 4 (count_place t fields)

-- "a type and a count of words, 1 to 4,096"
unfoldable pub field_fault : Words → ℕ → Verdict
field_fault t f =
    require (known_type t (item t fields f 0)) 5 (item_place t fields f 0)
    or_else require (ltb 0 (item t fields f 1) && leb (item t fields f 1) 4096) 4 (item_place t fields f 1)

-- 5, an unknown target; 6, "a pointer target seen before".
unfoldable pub pointer_fault : Words → ℕ → Verdict
pointer_fault t i =
    require (known_target t (item t pointers i 0)) 5 (item_place t pointers i 0)
    or_else require (not (seen_before (λ j. item t pointers j 0) i)) 6 (item_place t pointers i 0)

unfoldable pub variable_fault : Words → ℕ → Verdict
variable_fault t i = require (known_type t (item t variables i 0)) 5 (item_place t variables i 0)

-- x is a node below n of the sort wanted.
abbrev pub same_sort : Sort → Sort → Bool
same_sort place place = true
same_sort place value = false
same_sort place neither = false
same_sort value place = false
same_sort value value = true
same_sort value neither = false
same_sort neither place = false
same_sort neither value = false
same_sort neither neither = true

unfoldable pub is_child : Words → Sort → ℕ → ℕ → Bool
is_child t s n x = ltb x n && same_sort s (sort_of (node_kind t x))

-- 7 and 5: what must hold of word x, an operand of node n that stands at p. A field's number is judged with the types.
abbrev pub operand_fault : Words → ℕ → Operand → ℕ → ℕ → Verdict
operand_fault t n unused x p = require (eqb x 0) 7 p
operand_fault t n variable_number x p = require (ltb x (count t variables)) 7 p
operand_fault t n field_number x p = passes
operand_fault t n any_word x p = passes
operand_fault t n type_word x p = require (known_type t x) 5 p
operand_fault t n target_word x p = require (known_target t x) 5 p
operand_fault t n place_child x p = require (is_child t place n x) 7 p
operand_fault t n value_child x p = require (is_child t value n x) 7 p

-- 8: "types don't fit, or no such field in the record", for a node of this kind with these two other words. Request 6: "8 also where the two
-- pointer types differ or don't point to a record."
abbrev pub types_fit : Words → Kind → ℕ → ℕ → Bool
types_fit t variable a b = true
types_fit t deref a b = points_to_type t (node_type t a)
types_fit t field a b = points_to_record t (node_type t a) && ltb b (field_total t (pointed_record t (node_type t a)))
types_fit t constant a b = true
types_fit t sum a b = eqb (node_type t b) int
types_fit t read a b = true
types_fit t address a b = ltb (entry_below t (count t pointers) (node_type t a)) (count t pointers)
types_fit t cast a b = true
types_fit t size a b = true
types_fit t malloc a b = eqb (node_type t a) int
types_fit t copy a b = points_to_record t (node_type t a) && eqb (node_type t a) (node_type t b)
types_fit t unknown a b = true

-- "in a node kind, a, b (7 or 5), then 8". Request 7: "12 leaves the check, the list and the order".
unfoldable pub node_fault : Words → ℕ → Verdict
node_fault t n =
    require (not (same_sort neither (sort_of (node_kind t n)))) 7 (item_place t nodes n 0)
    or_else operand_fault t n (operand_a (node_kind t n)) (node_a t n) (item_place t nodes n 1)
    or_else operand_fault t n (operand_b (node_kind t n)) (node_b t n) (item_place t nodes n 2)
    or_else require (types_fit t (node_kind t n) (node_a t n) (node_b t n)) 8 (item_place t nodes n 0)

-- A command's place node and value node.
abbrev pub command_place : Words → ℕ → ℕ
command_place t c = item t commands c 0

abbrev pub command_value : Words → ℕ → ℕ
command_value t c = item t commands c 1

-- "in a command its two words (7), then 8"; "A command's place and value have the same type."
unfoldable pub command_fault : Words → ℕ → Verdict
command_fault t c =
    require (is_child t place (count t nodes) (command_place t c)) 7 (item_place t commands c 0)
    or_else require (is_child t value (count t nodes) (command_value t c)) 7 (item_place t commands c 1)
    or_else require (eqb (node_type t (command_place t c)) (node_type t (command_value t c))) 8 (item_place t commands c 0)

-- How often n stands in a list.
abbrev pub occurrences : ℕ → Words → ℕ
occurrences n [] = 0
occurrences n (x ∷ xs) = (if eqb x n then 1 else 0) + occurrences n xs

-- "Each node is used exactly once, by a node or a command."
unfoldable pub uses : Words → ℕ → ℕ
uses t n =
    sum_below (count t nodes) (λ m. occurrences n (children t m))
    + sum_below (count t commands) (λ c. occurrences n (command_place t c ∷ command_value t c ∷ []))

unfoldable pub use_fault : Words → ℕ → Verdict
use_fault t n = require (eqb (uses t n) 1) 9 (item_place t nodes n 0)

-- "The check alone gives 1 to 9 .. or passes." Request 8: 16 is given "before all others".
unfoldable pub check : Words → Verdict
check t =
    edition_fault t
    or_else each 6 (section_fault t)
    or_else words_over t
    or_else each (count t records) (record_fault t)
    or_else field_sum_fault t
    or_else each (count t fields) (field_fault t)
    or_else each (count t pointers) (pointer_fault t)
    or_else each (count t variables) (variable_fault t)
    or_else each (count t nodes) (node_fault t)
    or_else each (count t commands) (command_fault t)
    or_else each (count t nodes) (use_fault t)

-- 10: "the three lists differ in length, or the length isn't from 1 + variables to 65,536"
unfoldable pub lengths_fit : Words → ℕ → ℕ → ℕ → Bool
lengths_fit t values bases ends = eqb values bases && eqb values ends && ltb (count t variables) values && leb values 65536

-- 11: "a pointer's input not 0"
unfoldable pub input_fits : Words → Words → ℕ → Bool
input_fits t inputs i = eqb (item t variables i 0) int || eqb (word inputs i) 0

unfoldable pub input_fault : Words → Words → ℕ → Verdict
input_fault t inputs i = require (input_fits t inputs i) 11 i

-- "then 10, then 11", from the lengths of the lists of values, bases and ends.
unfoldable pub arguments_fault : Words → Words → ℕ → ℕ → ℕ → Verdict
arguments_fault t inputs values bases ends =
    require (lengths_fit t values bases ends) 10 0
    or_else require (eqb (length inputs) (count t variables)) 11 (count t variables)
    or_else each (count t variables) (input_fault t inputs)

-- 13: "the list is cut short, has words over or counts more than 16"; its place is "the count, else the list's length if cut short, else the
-- first word over".
unfoldable pub extent_fault : Words → Verdict
extent_fault l =
    require (leb (register_count l) 16) 13 0
    or_else require (leb (register_place l (register_count l)) (length l)) 13 (length l)
    or_else require (leb (length l) (register_place l (register_count l))) 13 (register_place l (register_count l))

-- 14: "a variable is unknown, not a pointer or named before"; its place is "the first variable word at fault".
unfoldable pub names_pointer : Words → ℕ → Bool
names_pointer t v = ltb v (count t variables) && is_pointer (item t variables v 0)

unfoldable pub name_fault : Words → Words → ℕ → Verdict
name_fault t l i =
    require (names_pointer t (register_variable l i) && not (seen_before (register_variable l) i)) 14 (register_place l i)

-- 15: "the registers don't fit in memory"; its place is "the length word of the first register that doesn't fit".
unfoldable pub room_fault : ℕ → Words → ℕ → ℕ → Verdict
room_fault first l memory i = require (leb (register_start first l (suc i)) memory) 15 (register_place l i + 1)

-- "all after 11 in that order": each number over the whole list before the next.
unfoldable pub registers_fault : Words → Words → ℕ → Verdict
registers_fault t l memory =
    extent_fault l
    or_else each (register_count l) (name_fault t l) or_else each (register_count l) (room_fault (1 + count t variables) l memory)

-- A call's refusals.
unfoldable pub call_fault : Words → Words → Words → ℕ → ℕ → ℕ → Verdict
call_fault t inputs registers values bases ends =
    check t or_else arguments_fault t inputs values bases ends or_else registers_fault t registers values
