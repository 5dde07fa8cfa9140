-- The numbers of the refusals. Request 7: 12 "isn't used again". Request 8 adds 16.
use Prim.Native.Nat.{ℕ, zero, suc}
use mathlib.Core.Bool.{Bool, true, false, ◌||◌, false≢true}
use mathlib.Core.Path.{◌≡◌, refl}
use mathlib.Core.List.{[], ◌∷◌, ◌++◌, map, Memᴰ}
use native.Mathlib.Omega.{arith}
use borrow.Author.Tests.{eqb-true}
use lib.Dec.{eqb}
use lib.ListN.{length, replicate}
use Rattle.semantics.specs.Words.{Words}
use Rattle.semantics.specs.Table.{Operand, unused, variable_number, field_number, any_word, type_word, target_word, place_child, value_child, operand_a, operand_b, node_kind, node_a, node_b}
use Rattle.semantics.specs.Check.{Verdict, passes, refused, ◌or_else◌, require, each, edition_fault, section_fault, words_over, record_fault, field_sum_fault, field_fault, pointer_fault, variable_fault, operand_fault, node_fault, command_fault, use_fault, check, input_fault, arguments_fault, extent_fault, name_fault, room_fault, registers_fault, call_fault}
use Rattle.semantics.specs.Run.{Answer, refusal, ending}
use Rattle.semantics.specs.ExampleTables.{Judgement, Example}
use Rattle.semantics.specs.Examples.{verdicts, refusals, refused_lists}
use Rattle.semantics.proofs.Depth.{any_of, found}

-- "The check alone gives 1 to 9 .. or passes", and 16, which comes "before all others".
abbrev pub of_check : Words
of_check = 1 ∷ 2 ∷ 3 ∷ 4 ∷ 5 ∷ 6 ∷ 7 ∷ 8 ∷ 9 ∷ 16 ∷ []

-- What a call gives beside them, for its lists, its inputs and its registers.
abbrev pub of_arguments : Words
of_arguments = 10 ∷ 11 ∷ 13 ∷ 14 ∷ 15 ∷ []

abbrev pub of_call : Words
of_call = of_check ++ of_arguments

abbrev listed : Words → ℕ → Bool
listed numbers n = any_of (eqb n) numbers

-- If v is a refusal, its number is one of these.
record Numbered (numbers : Words) (v : Verdict) : Type 0 where
  number : {n p : ℕ} → v ≡ refused n p → listed numbers n ≡ true

module _ {numbers : Words} where
  passes_so : Numbered numbers passes
  passes_so = record { number = λ e. let z : ◌≡◌ {A = ℕ} 0 1 = cc in absurd (omega arith) }

  refused_so : (n p : ℕ) → listed numbers n ≡ true → Numbered numbers (refused n p)
  refused_so n p h = record { number = λ {n = m} e. let same : m ≡ n = cc in rw same h }

  or_else_so : (u : Verdict) {v : Verdict} → Numbered numbers u → Numbered numbers v → Numbered numbers (u or_else v)
  unfolding ◌or_else◌
  or_else_so passes h g = g
  or_else_so (refused n p) h g = h

  require_so : (b : Bool) (n p : ℕ) → listed numbers n ≡ true → Numbered numbers (require b n p)
  unfolding require
  require_so true n p h = passes_so
  require_so false n p h = refused_so n p h

  each_so : (n : ℕ) {f : ℕ → Verdict} → ((i : ℕ) → Numbered numbers (f i)) → Numbered numbers (each n f)
  unfolding each
  each_so zero h = passes_so
  each_so (suc n) h = or_else_so (each n _) (each_so n h) (h n)

operand_so : (t : Words) (n : ℕ) (o : Operand) (x p : ℕ) → Numbered of_check (operand_fault t n o x p)
operand_so t n unused x p = require_so _ 7 _ refl
operand_so t n variable_number x p = require_so _ 7 _ refl
operand_so t n field_number x p = passes_so
operand_so t n any_word x p = passes_so
operand_so t n type_word x p = require_so _ 5 _ refl
operand_so t n target_word x p = require_so _ 5 _ refl
operand_so t n place_child x p = require_so _ 7 _ refl
operand_so t n value_child x p = require_so _ 7 _ refl

check_so : (t : Words) → Numbered of_check (check t)
unfolding check edition_fault section_fault words_over record_fault field_sum_fault field_fault pointer_fault variable_fault node_fault command_fault use_fault
check_so t =
    or_else_so _ (require_so _ 16 _ refl)
    (or_else_so _ (each_so 6 (λ s. or_else_so _ (require_so _ 1 _ refl) (or_else_so _ (require_so _ 3 _ refl) (require_so _ 1 _ refl))))
    (or_else_so _ (require_so _ 2 _ refl)
    (or_else_so _ (each_so _ (λ r. require_so _ 4 _ refl))
    (or_else_so _ (require_so _ 4 _ refl)
    (or_else_so _ (each_so _ (λ f. or_else_so _ (require_so _ 5 _ refl) (require_so _ 4 _ refl)))
    (or_else_so _ (each_so _ (λ i. or_else_so _ (require_so _ 5 _ refl) (require_so _ 6 _ refl)))
    (or_else_so _ (each_so _ (λ i. require_so _ 5 _ refl))
    (or_else_so _ (each_so _ node_so)
    (or_else_so _ (each_so _ (λ c. or_else_so _ (require_so _ 7 _ refl) (or_else_so _ (require_so _ 7 _ refl) (require_so _ 8 _ refl))))
    (each_so _ (λ n. require_so _ 9 _ refl)))))))))))
  where
    node_so : (n : ℕ) → Numbered of_check (node_fault t n)
    node_so n =
        or_else_so _ (require_so _ 7 _ refl)
        (or_else_so _ (operand_so t n (operand_a (node_kind t n)) (node_a t n) _)
        (or_else_so _ (operand_so t n (operand_b (node_kind t n)) (node_b t n) _) (require_so _ 8 _ refl)))

-- A number of the check is one of a call.
of_both : {v : Verdict} → Numbered of_check v → Numbered of_call v
of_both h = record { number = λ {n} e. more n of_check of_arguments (h.number e) }
  where
    more : (n : ℕ) (xs ys : Words) → listed xs n ≡ true → listed (xs ++ ys) n ≡ true
    more n [] ys e = absurd (false≢true e)
    more n (x ∷ xs) ys e = go (eqb n x) e (more n xs ys)
      where
        go : (b : Bool) {c d : Bool} → b || c ≡ true → (c ≡ true → d ≡ true) → b || d ≡ true
        go true e step = refl
        go false e step = step e

call_so : (t inputs registers : Words) (values bases ends : ℕ) → Numbered of_call (call_fault t inputs registers values bases ends)
unfolding call_fault arguments_fault input_fault registers_fault extent_fault name_fault room_fault
call_so t inputs registers values bases ends =
    or_else_so _ (of_both (check_so t))
    (or_else_so _ (or_else_so _ (require_so _ 10 _ refl) (or_else_so _ (require_so _ 11 _ refl) (each_so _ (λ i. require_so _ 11 _ refl))))
    (or_else_so _ (or_else_so _ (require_so _ 13 _ refl) (or_else_so _ (require_so _ 13 _ refl) (require_so _ 13 _ refl)))
    (or_else_so _ (each_so _ (λ i. require_so _ 14 _ refl)) (each_so _ (λ i. require_so _ 15 _ refl)))))

member : {n : ℕ} (numbers : Words) → listed numbers n ≡ true → Memᴰ n numbers
member {n} numbers e = let f = found (eqb n) numbers e in rw (eqb-true n f.number f.holds) f.among

-- No other number is given,
pub check_numbers : (t : Words) (n p : ℕ) → check t ≡ refused n p → Memᴰ n of_check
check_numbers t n p e = member of_check ((check_so t).number e)

pub call_numbers : (t inputs registers : Words) (values bases ends n p : ℕ) → call_fault t inputs registers values bases ends ≡ refused n p → Memᴰ n of_call
call_numbers t inputs registers values bases ends n p e = member of_call ((call_so t inputs registers values bases ends).number e)

-- and each of them is, in the examples that Examples.antt computes.
abbrev number_judged : Verdict → ℕ
number_judged passes = 0
number_judged (refused n p) = n

abbrev number_answered : Answer → ℕ
number_answered (refusal n p) = n
number_answered (ending e u) = 0

pub check_gives_each : map (λ (x : Judgement). number_judged x.verdict) verdicts ≡ of_check
unfolding verdicts
check_gives_each = refl

pub call_gives_each : map (listed (map (λ (x : Example). number_answered x.result.answer) (refusals ++ refused_lists))) of_call ≡ replicate (length of_call) true
unfolding refusals refused_lists
call_gives_each = refl
