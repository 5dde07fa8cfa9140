-- Laws of what a text holds: how it goes on from a run of digits, and when nothing can mend it.
use Prim.Native.Nat.{ℕ, ◌+◌, ◌*◌, ◌-◌, ◌≤◌, ◌<◌}
use mathlib.Core.Bool.{Bool, true, false, ◌&&◌}
use mathlib.Core.Path.{◌≡◌, refl, sym, ap, ◌∙◌}
use mathlib.Core.List.{List, [], ◌∷◌, ◌++◌, append_assoc, append-nil}
use native.Mathlib.Omega.{arith}
use borrow.Author.Tests.{lt-ltb, le-ltb}
use lib.Dec.{ltb}
use Rattle.text.specs.Numbers.{limit, Contents, holds, malformed, separator, digit, digits, value_from, value, number, prepend, ◌then◌, at_byte, numbers_after, numbers}

-- ---- one part after another

pub then_none : (c : Contents) → (holds [] then c) ≡ c
unfolding ◌then◌ prepend
then_none (holds xs) = refl
then_none malformed = refl

pub then_holds : (xs ys : List ℕ) → (holds xs then holds ys) ≡ holds (xs ++ ys)
unfolding ◌then◌ prepend
then_holds xs ys = refl

pub then_end : (c : Contents) → (c then holds []) ≡ c
unfolding ◌then◌ prepend
then_end (holds xs) = ap holds (append-nil xs)
then_end malformed = refl

pub then_malformed : (c : Contents) → (c then malformed) ≡ malformed
unfolding ◌then◌ prepend
then_malformed (holds xs) = refl
then_malformed malformed = refl

pub then_then : (xs ys : List ℕ) (c : Contents) → (holds xs then (holds ys then c)) ≡ (holds (xs ++ ys) then c)
unfolding ◌then◌ prepend
then_then xs ys (holds zs) = ap holds (sym (append_assoc xs ys zs))
then_then xs ys malformed = refl

-- ---- runs

pub digits_append : (xs ys : List ℕ) → digits (xs ++ ys) ≡ digits xs && digits ys
unfolding digits
digits_append [] ys = refl
digits_append (x ∷ xs) ys = go (digit x) (digits_append xs ys)
  where
    go : (d : Bool) → digits (xs ++ ys) ≡ digits xs && digits ys → d && digits (xs ++ ys) ≡ (d && digits xs) && digits ys
    go true e = e
    go false e = refl

pub digits_one : (xs : List ℕ) (b : ℕ) → digits xs ≡ true → digit b ≡ true → digits (xs ++ b ∷ []) ≡ true
unfolding digits
digits_one xs b p q = digits_append xs (b ∷ []) ∙ simp (p, q)

pub value_append : (v : ℕ) (xs ys : List ℕ) → value_from v (xs ++ ys) ≡ value_from (value_from v xs) ys
unfolding value_from
value_append v [] ys = refl
value_append v (x ∷ xs) ys = value_append (10 * v + (x - 48)) xs ys

pub value_one : (xs : List ℕ) (b : ℕ) → value (xs ++ b ∷ []) ≡ 10 * value xs + (b - 48)
unfolding value_from
value_one xs b = value_append 0 xs (b ∷ [])

value_grows : (v : ℕ) (xs : List ℕ) → v ≤ value_from v xs
unfolding value_from
value_grows v [] = omega arith
value_grows v (x ∷ xs) = omega (arith, value_grows (10 * v + (x - 48)) xs)

pub number_good : (b : ℕ) (bs : List ℕ) → digits (b ∷ bs) ≡ true → value (b ∷ bs) < limit → number (b ∷ bs) ≡ holds (value (b ∷ bs) ∷ [])
unfolding number
number_good b bs p h = simp (p, lt-ltb (value (b ∷ bs)) limit h)

number_bad : (xs : List ℕ) (b : ℕ) (ys : List ℕ) → digits (xs ++ b ∷ ys) && ltb (value (xs ++ b ∷ ys)) limit ≡ false → number (xs ++ b ∷ ys) ≡ malformed
unfolding number
number_bad [] b ys e = simp e
number_bad (x ∷ xs) b ys e = simp e

-- No bytes after it make a run a number.
pub record Spoilt (run : List ℕ) : Type 0 where
  pub stays : (more : List ℕ) → number (run ++ more) ≡ malformed

pub spoilt_byte : (run : List ℕ) (b : ℕ) → digit b ≡ false → Spoilt (run ++ b ∷ [])
unfolding digits
spoilt_byte run b e = record { stays = λ more. rw append_assoc (number_bad run b more (false_and _ _ (digits_append run (b ∷ more) ∙ rw e (and_false (digits run))))) }
  where
    and_false : (t : Bool) → t && false ≡ false
    and_false true = refl
    and_false false = refl

    false_and : (t u : Bool) → t ≡ false → t && u ≡ false
    false_and t u q = rw q

pub spoilt_large : (run : List ℕ) (b : ℕ) → limit ≤ value (run ++ b ∷ []) → Spoilt (run ++ b ∷ [])
spoilt_large run b h = record { stays = λ more. rw append_assoc (number_bad run b more (and_false (digits (run ++ b ∷ more)) _ (le-ltb _ _ (large more)))) }
  where
    large : (more : List ℕ) → limit ≤ value (run ++ b ∷ more)
    large more = rw (← append_assoc run (b ∷ []) more, value_append) (omega (arith, value_grows (value (run ++ b ∷ [])) more))

    and_false : (t u : Bool) → u ≡ false → t && u ≡ false
    and_false true u q = q
    and_false false u q = refl

spoilt_more : {run : List ℕ} → Spoilt run → (b : ℕ) → Spoilt (run ++ b ∷ [])
spoilt_more {run} h b = record { stays = λ more. rw append_assoc (h.stays (b ∷ more)) }

-- ---- the next byte

pub after_separator : (run : List ℕ) (b : ℕ) (rest : List ℕ) → separator b ≡ true → numbers_after run (b ∷ rest) ≡ (number run then numbers rest)
unfolding numbers_after at_byte
after_separator run b rest e = simp e

pub after_other : (run : List ℕ) (b : ℕ) (rest : List ℕ) → separator b ≡ false → numbers_after run (b ∷ rest) ≡ numbers_after (run ++ b ∷ []) rest
unfolding numbers_after at_byte
after_other run b rest e = simp e

pub after_spoilt : {run : List ℕ} → Spoilt run → (rest : List ℕ) → numbers_after run rest ≡ malformed
unfolding numbers_after at_byte ◌then◌
after_spoilt {run} h [] = sym (ap number (append-nil run)) ∙ h.stays []
after_spoilt {run} h (b ∷ rest) = go (separator b) (after_spoilt (spoilt_more h b) rest)
  where
    here : number run ≡ malformed
    here = sym (ap number (append-nil run)) ∙ h.stays []

    go : (t : Bool) → numbers_after (run ++ b ∷ []) rest ≡ malformed → at_byte t run b (λ run'. numbers_after run' rest) ≡ malformed
    go true e = rw here
    go false e = e
