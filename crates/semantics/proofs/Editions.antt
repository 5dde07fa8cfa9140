-- Request 8, "Edition 2 of the cast rule": what the check says of every table. After the mark the table ends (mark_alone), or another edition follows
-- (another_edition), or the 2 and a second mark (second_mark), or the 2 and a table without the mark (check_of_marked). A table without the mark is
-- judged as it was (check_of_unmarked). What stands behind the mark has the types, sizes and trees that it has without it, but for the trees' flags.
use Prim.Native.Nat.{ℕ, zero, suc, ◌+◌}
use mathlib.Core.Bool.{Bool, true, false}
use mathlib.Core.Path.{◌≡◌, refl, ap, fun_ext}
use mathlib.Core.List.{List, [], ◌∷◌, map, map-append}
use native.Mathlib.Omega.{arith}
use borrow.Author.Tests.{lt-ltb, lt-leb, ne_eqb}
use lib.Dec.{leb-suc-suc, eqb}
use lib.ListN.{length, get_or, get_or-map}
use Rattle.semantics.specs.Words.{Words, word, sum_below, grow}
use Rattle.semantics.specs.Table.{edition, edition_1, edition_mark, records, count_place, count, item_place, item, known_type, known_target, target, points_to_type, points_to_record, pointed_record, entry_below, field_total, first_field, field_type, field_count, field_offset, size_of, Kind, variable, deref, field, constant, sum, read, address, cast, size, malloc, copy, unknown, Operand, unused, variable_number, field_number, any_word, type_word, target_word, place_child, value_child, node_kind, node_a, node_b, children, type_by_kind, type_rule, types_below, node_type}
use Rattle.semantics.specs.Check.{Verdict, passes, refused, ◌or_else◌, require, each, edition_fault, section_fault, words_over, record_fault, field_sum_fault, field_fault, pointer_fault, variable_fault, is_child, operand_fault, types_fit, node_fault, command_place, command_value, command_fault, uses, use_fault, check, lengths_fit, input_fits, input_fault, arguments_fault, names_pointer, name_fault, registers_fault, call_fault}
use Rattle.semantics.specs.Syntax.{Place, Variable, Deref, Field, NoPlace, Value, Number, Sum, Read, Address, Cast, Malloc, Copy, NoValue, Tree, place, value, senseless, as_place, as_value, step_of, tree_by_kind, tree_rule, trees_below, tree_of, place_of, value_of}
use Rattle.semantics.specs.Rules.{assign}
use Rattle.semantics.specs.Run.{cleared, begin, command}

-- A table with the mark and the 2 before it.
abbrev pub marked : Words → Words
marked t = edition_mark ∷ 2 ∷ t

-- A refusal two words further on.
abbrev pub shifted : Verdict → Verdict
shifted passes = passes
shifted (refused n p) = refused n (2 + p)

-- ---- the first words

-- "1 at place 1 if the table ends with the mark"
pub mark_alone : check (edition_mark ∷ []) ≡ refused 1 1
unfolding check edition_fault section_fault count_place edition each require ◌or_else◌
mark_alone = refl

-- What 16 asks of the word behind the mark.
edition_asked : (t : Words) (x : ℕ) → edition_fault (edition_mark ∷ x ∷ t) ≡ require (eqb x 2) 16 1
unfolding edition_fault edition
edition_asked t x = rw (lt-leb (suc (suc (length t))) 1 (omega arith))

-- "16 when another edition follows the mark, place 1, before all others"
pub another_edition : (t : Words) (x : ℕ) → (x ≡ 2 → ⊥) → check (edition_mark ∷ x ∷ t) ≡ refused 16 1
unfolding check require ◌or_else◌
another_edition t x other = rw (edition_asked t x, ne_eqb x 2 other)

first_refusal : (n : ℕ) (f : ℕ → Verdict) {k p : ℕ} → f 0 ≡ refused k p → each (suc n) f ≡ refused k p
unfolding each ◌or_else◌
first_refusal zero f e = e
first_refusal (suc n) f e = rw (first_refusal n f e)

marked_start : (t : Words) → count_place (marked t) 0 ≡ 2
unfolding count_place edition
marked_start t = refl

mark_as_count : (t : Words) → section_fault (marked (edition_mark ∷ t)) 0 ≡ refused 3 2
unfolding section_fault count require ◌or_else◌
mark_as_count t = rw (marked_start (edition_mark ∷ t), lt-ltb 2 (suc (suc (suc (length t)))) (omega arith))

-- "3 no longer for the mark", but for a second one: it is a count.
pub second_mark : (t : Words) → check (marked (edition_mark ∷ t)) ≡ refused 3 2
unfolding check require ◌or_else◌
second_mark t = rw (edition_asked (edition_mark ∷ t) 2, first_refusal 5 _ (mark_as_count t))

pub unmarked : (t : Words) → (word t 0 ≡ edition_mark → ⊥) → edition t ≡ edition_1
unfolding edition
unmarked t other = rw (ne_eqb (word t 0) edition_mark other)

-- "Tables without the mark run as they did": 16 is not given, and the sections start at word 0. All else of the check stands behind these two.
pub check_of_unmarked : (t : Words) → edition t ≡ edition_1 → (edition_fault t ≡ passes) × (count_place t 0 ≡ 0)
unfolding edition_fault require count_place
check_of_unmarked t first = (rw first, rw first)

-- ---- shifted verdicts

shifted_or_else : (u v : Verdict) → shifted (u or_else v) ≡ shifted u or_else shifted v
unfolding ◌or_else◌
shifted_or_else passes v = refl
shifted_or_else (refused n p) v = refl

shifted_require : (b : Bool) (n p : ℕ) → shifted (require b n p) ≡ require b n (suc (suc p))
unfolding require
shifted_require true n p = refl
shifted_require false n p = ap (refused n) (omega arith)

shifted_each : (n : ℕ) (f : ℕ → Verdict) → shifted (each n f) ≡ each n (λ i. shifted (f i))
unfolding each
shifted_each zero f = refl
shifted_each (suc n) f = simp (shifted_or_else, shifted_each n f)

module _ (t : Words) (first : edition t ≡ edition_1) where
  -- ---- places and words

  count_places : (s : ℕ) → count_place (marked t) s ≡ suc (suc (count_place t s))
  unfolding count_place edition
  count_places zero = rw first
  count_places (suc s) = rw (count_places s) (omega arith)

  pub count_of_marked : (s : ℕ) → count (marked t) s ≡ count t s
  unfolding count
  count_of_marked s = rw (count_places s)

  item_places : (s i j : ℕ) → item_place (marked t) s i j ≡ suc (suc (item_place t s i j))
  unfolding item_place
  item_places s i j = rw (count_places s) (omega arith)

  pub item_of_marked : (s i j : ℕ) → item (marked t) s i j ≡ item t s i j
  unfolding item
  item_of_marked s i j = rw (item_places s i j)

  -- ---- sizes and types

  field_totals : field_total (marked t) ≡ field_total t
  unfolding field_total
  field_totals = fun_ext λ r. item_of_marked records r 0

  ruleset words_same = (count_of_marked, item_of_marked, field_totals)

  pub field_count_of_marked : (r f : ℕ) → field_count (marked t) r f ≡ field_count t r f
  unfolding field_count first_field
  field_count_of_marked r f = simp words_same

  pub field_offset_of_marked : (r f : ℕ) → field_offset (marked t) r f ≡ field_offset t r f
  unfolding field_offset
  field_offset_of_marked r f = ap (sum_below f) (fun_ext (field_count_of_marked r))

  pub size_of_marked : (x : ℕ) → size_of (marked t) x ≡ size_of t x
  unfolding size_of field_total
  size_of_marked x = simp (words_same, field_offset_of_marked)

  type_by_kind_same : (k : Kind) (a b : ℕ) (type : ℕ → ℕ) → type_by_kind (marked t) k a b type ≡ type_by_kind t k a b type
  unfolding target pointed_record entry_below field_type first_field
  type_by_kind_same variable a b type = simp words_same
  type_by_kind_same deref a b type = simp words_same
  type_by_kind_same field a b type = simp words_same
  type_by_kind_same constant a b type = refl
  type_by_kind_same sum a b type = refl
  type_by_kind_same read a b type = refl
  type_by_kind_same address a b type = simp words_same
  type_by_kind_same cast a b type = refl
  type_by_kind_same size a b type = refl
  type_by_kind_same malloc a b type = refl
  type_by_kind_same copy a b type = refl
  type_by_kind_same unknown a b type = refl

  type_rule_same : type_rule (marked t) ≡ type_rule t
  unfolding type_rule node_kind
  type_rule_same = fun_ext λ n. fun_ext λ types. simp (words_same, type_by_kind_same)

  pub node_type_of_marked : (n : ℕ) → node_type (marked t) n ≡ node_type t n
  unfolding node_type types_below
  node_type_of_marked n = rw type_rule_same

  -- ---- the parts of the check

  -- A part finds what it finds without the mark, two words further on.
  abbrev Moved : (Words → ℕ → Verdict) → Type 0
  Moved fault = fault (marked t) ≡ λ i. shifted (fault t i)

  ruleset part = (shifted_or_else, shifted_require, count_places, item_places, words_same, node_type_of_marked, leb-suc-suc)

  section_moved : Moved section_fault
  unfolding section_fault
  section_moved = fun_ext λ s. simp part

  over_moved : words_over (marked t) ≡ shifted (words_over t)
  unfolding words_over
  over_moved = simp part

  record_moved : Moved record_fault
  unfolding record_fault field_total
  record_moved = fun_ext λ r. simp part

  field_sum_moved : field_sum_fault (marked t) ≡ shifted (field_sum_fault t)
  unfolding field_sum_fault first_field
  field_sum_moved = simp part

  field_moved : Moved field_fault
  unfolding field_fault known_type
  field_moved = fun_ext λ f. simp part

  pointer_moved : Moved pointer_fault
  unfolding pointer_fault known_target known_type
  pointer_moved = fun_ext λ i. simp part

  variable_moved : Moved variable_fault
  unfolding variable_fault known_type
  variable_moved = fun_ext λ i. simp part

  operand_moved : (n : ℕ) (o : Operand) (x p : ℕ) → operand_fault (marked t) n o x (suc (suc p)) ≡ shifted (operand_fault t n o x p)
  unfolding known_target known_type is_child node_kind
  operand_moved n unused x p = simp part
  operand_moved n variable_number x p = simp part
  operand_moved n field_number x p = refl
  operand_moved n any_word x p = refl
  operand_moved n type_word x p = simp part
  operand_moved n target_word x p = simp part
  operand_moved n place_child x p = simp part
  operand_moved n value_child x p = simp part

  types_fit_same : (k : Kind) (a b : ℕ) → types_fit (marked t) k a b ≡ types_fit t k a b
  unfolding points_to_type points_to_record pointed_record target entry_below field_total
  types_fit_same variable a b = refl
  types_fit_same deref a b = simp part
  types_fit_same field a b = simp part
  types_fit_same constant a b = refl
  types_fit_same sum a b = simp part
  types_fit_same read a b = refl
  types_fit_same address a b = simp part
  types_fit_same cast a b = refl
  types_fit_same size a b = refl
  types_fit_same malloc a b = simp part
  types_fit_same copy a b = simp part
  types_fit_same unknown a b = refl

  node_moved : Moved node_fault
  unfolding node_fault node_kind
  node_moved = fun_ext λ n. simp (part, operand_moved, types_fit_same)

  command_moved : Moved command_fault
  unfolding command_fault is_child node_kind
  command_moved = fun_ext λ c. simp part

  use_moved : Moved use_fault
  unfolding use_fault uses children node_kind
  use_moved = fun_ext λ n. simp part

  ruleset all_parts = (shifted_or_else, shifted_each, count_of_marked, section_moved, over_moved, record_moved, field_sum_moved, field_moved, pointer_moved, variable_moved, node_moved, command_moved, use_moved)

  -- "An edition 2 table starts with the word 4,294,967,295 and the word 2; the sections follow." "Types are checked as before." "Places count the mark
  -- and the 2".
  pub check_of_marked : check (marked t) ≡ shifted (check t)
  unfolding check require ◌or_else◌
  check_of_marked = rw ((check_of_unmarked t first).0, edition_asked t 2) (simp all_parts)

  -- ---- a call's other refusals: their places are not in the table

  input_same : (inputs : Words) → input_fault (marked t) inputs ≡ input_fault t inputs
  unfolding input_fault input_fits
  input_same inputs = fun_ext λ i. simp words_same

  name_same : (registers : Words) → name_fault (marked t) registers ≡ name_fault t registers
  unfolding name_fault names_pointer
  name_same registers = fun_ext λ i. simp words_same

  pub call_fault_of_marked : (inputs registers : Words) (values bases ends : ℕ) → call_fault (marked t) inputs registers values bases ends
      ≡ shifted (check t) or_else arguments_fault t inputs values bases ends or_else registers_fault t registers values
  unfolding call_fault arguments_fault lengths_fit registers_fault
  call_fault_of_marked inputs registers values bases ends = simp (check_of_marked, words_same, input_same, name_same)

-- ---- trees

-- A tree with each flag true: bounds are read with every value and kept by every cast, and a sum may take those of either operand.
abbrev mutual
  pub flagged_place : Place → Place
  flagged_place (Variable n x) = Variable n x
  flagged_place (Deref n v) = Deref n (flagged_value v)
  flagged_place (Field n o k v) = Field n o k (flagged_value v)
  flagged_place NoPlace = NoPlace

  pub flagged_value : Value → Value
  flagged_value (Number n x) = Number n x
  flagged_value (Sum n either k v w) = Sum n true k (flagged_value v) (flagged_value w)
  flagged_value (Read n bounds p) = Read n true (flagged_place p)
  flagged_value (Address n p) = Address n (flagged_place p)
  flagged_value (Cast n keeps v) = Cast n true (flagged_value v)
  flagged_value (Malloc n v) = Malloc n (flagged_value v)
  flagged_value (Copy n k v w) = Copy n k (flagged_value v) (flagged_value w)
  flagged_value NoValue = NoValue

abbrev pub flagged : Tree → Tree
flagged (place p) = place (flagged_place p)
flagged (value v) = value (flagged_value v)
flagged senseless = senseless

as_flagged_place : (x : Tree) → as_place (flagged x) ≡ flagged_place (as_place x)
as_flagged_place (place p) = refl
as_flagged_place (value v) = refl
as_flagged_place senseless = refl

as_flagged_value : (x : Tree) → as_value (flagged x) ≡ flagged_value (as_value x)
as_flagged_value (place p) = refl
as_flagged_value (value v) = refl
as_flagged_value senseless = refl

module _ (t : Words) (first : edition t ≡ edition_1) where
  step_same : (ty : ℕ) → step_of (marked t) ty ≡ step_of t ty
  unfolding step_of points_to_record target
  step_same ty = simp (words_same, size_of_marked)

  ruleset tree_same = (as_flagged_place, as_flagged_value, words_same, field_count_of_marked, field_offset_of_marked, size_of_marked, node_type_of_marked, step_same)

  tree_by_kind_flagged : (n : ℕ) (k : Kind) (a b : ℕ) (tree : ℕ → Tree)
      → tree_by_kind (marked t) n k a b (λ x. flagged (tree x)) ≡ flagged (tree_by_kind t n k a b tree)
  unfolding edition target pointed_record
  tree_by_kind_flagged n variable a b tree = refl
  tree_by_kind_flagged n deref a b tree = simp tree_same
  tree_by_kind_flagged n field a b tree = simp tree_same
  tree_by_kind_flagged n constant a b tree = refl
  tree_by_kind_flagged n sum a b tree = simp tree_same
  tree_by_kind_flagged n read a b tree = simp tree_same
  tree_by_kind_flagged n address a b tree = simp tree_same
  tree_by_kind_flagged n cast a b tree = simp tree_same
  tree_by_kind_flagged n size a b tree = simp tree_same
  tree_by_kind_flagged n malloc a b tree = simp tree_same
  tree_by_kind_flagged n copy a b tree = simp tree_same
  tree_by_kind_flagged n unknown a b tree = refl

  tree_rule_flagged : (n : ℕ) (trees : List Tree) → tree_rule (marked t) n (map flagged trees) ≡ flagged (tree_rule t n trees)
  unfolding tree_rule node_kind
  tree_rule_flagged n trees =
      let below = fun_ext (λ x. get_or-map flagged trees x senseless) in
      rw below (simp words_same (tree_by_kind_flagged n (node_kind t n) (node_a t n) (node_b t n) (λ x. get_or trees x senseless)))

  trees_flagged : (n : ℕ) → trees_below (marked t) n ≡ map flagged (trees_below t n)
  unfolding trees_below grow
  trees_flagged zero = refl
  trees_flagged (suc n) =
      rw (trees_flagged n, tree_rule_flagged n (trees_below t n), map-append flagged (trees_below t n) (tree_rule t n (trees_below t n) ∷ []))

  -- "In edition 2 a cast changes nothing"; "Every read and every assignment moves value, base and end. A sum takes the left bounds if the left end isn't
  -- 0, else the right ones." All else of a node, of a command and of a run's start is as without the mark.
  pub tree_of_marked : (n : ℕ) → tree_of (marked t) n ≡ flagged (tree_of t n)
  unfolding tree_of
  tree_of_marked n = rw (trees_flagged n) (tree_rule_flagged n (trees_below t n))

  pub command_of_marked : (c : ℕ) → command (marked t) c
      ≡ assign true (flagged_place (place_of t (command_place t c))) (flagged_value (value_of t (command_value t c)))
  unfolding command place_of value_of edition
  command_of_marked c = simp (tree_same, tree_of_marked)

  pub begin_of_marked : (inputs registers : Words) (len : ℕ) → begin (marked t) inputs registers len ≡ begin t inputs registers len
  unfolding begin cleared
  begin_of_marked inputs registers len = simp words_same
