-- Laws of decimal digits: the loops that write them, and that the digits of a number are read back as that number.
use Rattle.std.specs.Prelude.{if◌then◌else◌}
use Prim.Native.Nat.{ℕ, zero, suc, ◌+◌, ◌-◌, ◌/◌, ◌%◌, ◌^◌, ◌≤◌, ◌<◌}
use mathlib.Core.Bool.{Bool, true, false, ◌&&◌, false≢true}
use mathlib.Core.Path.{◌≡◌, refl, sym, ap, ◌∙◌}
use mathlib.Core.List.{List, [], ◌∷◌, ◌++◌, append_assoc, append-nil}
use native.Mathlib.Omega.{arith}
use native.Mathlib.Nat.{pow-suc}
use borrow.Author.Tests.{lt-ltb, le-ltb, ltb-true}
use lib.Dec.{ltb}
use lib.ListN.{length, drop, set, length-set}
use lib.Seq.{drop-cons, drop-set-lt, get_or-set_same}
use Rattle.text.specs.Numbers.{limit, holds, separator, digit, digits, value_from, value, number, ◌then◌, numbers_after, numbers}
use Rattle.text.specs.Decimal.{last_digits, decimal, Written}
use Rattle.text.proofs.Numbers.{digits_one, value_one, number_good, after_separator, after_other}
use Rattle.text.proofs.Scanning.{is_digit, no_separator}

-- ---- digits written from the end of a list

-- Of the digits of x those from place i on are written; the others are those of y.
pub record Writing (x : ℕ) (list : List ℕ) (i y : ℕ) : Type 0 where
  pub long : length list ≡ 20
  pub rest : last_digits i y ++ drop i list ≡ decimal x

drop_set : (list : List ℕ) (i b : ℕ) → i < length list → drop i (set list i b) ≡ b ∷ drop (suc i) list
drop_set list i b inside =
    drop-cons (set list i b) i 0 (rw length-set inside) ∙ rw (get_or-set_same list i b 0 inside, drop-set-lt (suc i) list i b (omega arith))

one_digit : (n x : ℕ) → last_digits (suc n) x ≡ (if ltb x 10 then [] else last_digits n (x / 10)) ++ ((48 + x % 10) ∷ [])
unfolding last_digits
one_digit n x = refl

-- One digit more is written, at place i.
digit_written : {x : ℕ} {list : List ℕ} {i y : ℕ} → Writing x list (suc i) y → i < 20 → {b : ℕ} → b ≡ 48 + y % 10
    → (if ltb y 10 then [] else last_digits i (y / 10)) ++ drop i (set list i b) ≡ decimal x
digit_written {x} {list} {i} {y} h inside {b} e =
    let long = h.long in
    rw (drop_set list i b (omega arith), e)
    (sym (append_assoc (if ltb y 10 then [] else last_digits i (y / 10)) ((48 + y % 10) ∷ []) (drop (suc i) list)) ∙ (rw (one_digit i y) at h.rest))

before_suc : (n : ℕ) → suc n - 1 ≡ n
before_suc n = omega arith

pub writing_more : {x : ℕ} {list : List ℕ} {i y : ℕ} → Writing x list i y → 0 < i → i ≤ 20 → {b : ℕ} → b ≡ 48 + y % 10 → (y / 10 ≡ 0 → ⊥)
    → Writing x (set list (i - 1) b) (i - 1) (y / 10)
writing_more {i = zero} h some most e more = absurd (omega arith)
writing_more {x} {list} {i = suc n} {y} h some most {b} e more =
    rw (before_suc n)
    (record {
      long = length-set list n b ∙ h.long;
      rest = rw (le-ltb y 10 (omega arith)) at (digit_written h (omega arith) e);
    })

pub written : {x : ℕ} {list : List ℕ} {i y : ℕ} → Writing x list i y → 0 < i → i ≤ 20 → {b : ℕ} → b ≡ 48 + y % 10 → y / 10 ≡ 0 → Written x (set list (i - 1) b) (i - 1)
written {i = zero} h some most e last = absurd (omega arith)
written {x} {list} {i = suc n} {y} h some most {b} e last =
    rw (before_suc n)
    (record {
      long = length-set list n b ∙ h.long;
      start = omega arith;
      digits = rw (lt-ltb y 10 (omega arith)) at (digit_written h (omega arith) e);
    })

pub written_all : {x : ℕ} {list : List ℕ} {i y : ℕ} → Writing x list i y → i ≤ 0 → Written x list 0
unfolding last_digits
written_all {i = i} h none = let start : i ≡ 0 = omega arith in let h' = rw start at h in record { long = h'.long; start = omega arith; digits = h'.rest }

-- ---- bytes put into a list

-- ---- digits read back

pub digits_decimal : (n x : ℕ) → digits (last_digits n x) ≡ true
unfolding digits last_digits
digits_decimal zero x = refl
digits_decimal (suc n) x = go (ltb x 10) (digits_decimal n (x / 10))
  where
    last : digit (48 + x % 10) ≡ true
    last = is_digit (48 + x % 10) (omega arith) (omega arith)

    go : (t : Bool) → digits (last_digits n (x / 10)) ≡ true → digits ((if t then [] else last_digits n (x / 10)) ++ ((48 + x % 10) ∷ [])) ≡ true
    go true e = digits_one [] (48 + x % 10) refl last
    go false e = digits_one (last_digits n (x / 10)) (48 + x % 10) e last

pub value_decimal : (n x : ℕ) → x < 10 ^ n → value (last_digits n x) ≡ x
unfolding value_from last_digits
value_decimal zero x h = omega arith
value_decimal (suc n) x h = go (ltb x 10) refl (value_decimal n (x / 10) (omega (arith, pow-suc 10 n)))
  where
    go : (t : Bool) → ltb x 10 ≡ t → value (last_digits n (x / 10)) ≡ x / 10 → value ((if t then [] else last_digits n (x / 10)) ++ ((48 + x % 10) ∷ [])) ≡ x
    go true q e = omega (arith, ltb-true x 10 q)
    go false q e = omega (arith, value_one (last_digits n (x / 10)) (48 + x % 10), e)

number_run : (xs : List ℕ) (b : ℕ) → digits (xs ++ b ∷ []) ≡ true → value (xs ++ b ∷ []) < limit → number (xs ++ b ∷ []) ≡ holds (value (xs ++ b ∷ []) ∷ [])
number_run [] b p h = number_good b [] p h
number_run (x ∷ xs) b p h = number_good x (xs ++ b ∷ []) p h

pub number_decimal : (x : ℕ) → x < limit → number (decimal x) ≡ holds (x ∷ [])
number_decimal x h =
    let e : value (decimal x) ≡ x = value_decimal 20 x (omega arith) in
    ap number (one_digit 19 x)
    ∙ number_run (if ltb x 10 then [] else last_digits 19 (x / 10)) (48 + x % 10) (rw (one_digit 19 x) at (digits_decimal 20 x)) (omega (arith, rw (one_digit 19 x) at e))
    ∙ ap (λ v. holds (v ∷ [])) (rw (one_digit 19 x) at e)

after_digits : (run ds rest : List ℕ) → digits ds ≡ true → numbers_after run (ds ++ rest) ≡ numbers_after (run ++ ds) rest
unfolding digits
after_digits run [] rest e = ap (λ l. numbers_after l rest) (sym (append-nil run))
after_digits run (d ∷ ds) rest e = go (digit d) refl e (after_digits (run ++ d ∷ []) ds rest)
  where
    go : (t : Bool) → digit d ≡ t → t && digits ds ≡ true → (digits ds ≡ true → numbers_after (run ++ d ∷ []) (ds ++ rest) ≡ numbers_after (run ++ d ∷ [] ++ ds) rest)
        → numbers_after run (d ∷ ds ++ rest) ≡ numbers_after (run ++ d ∷ ds) rest
    go true q k more = after_other run d (ds ++ rest) (no_separator d q) ∙ more k ∙ ap (λ l. numbers_after l rest) (append_assoc run (d ∷ []) ds)
    go false q k more = absurd (false≢true k)

-- A number's digits hold that number, at the end of a text and before a separator.
pub read_back : (x : ℕ) → x < limit → numbers (decimal x) ≡ holds (x ∷ [])
unfolding numbers_after
read_back x h = ap numbers (sym (append-nil (decimal x))) ∙ after_digits [] (decimal x) [] (digits_decimal 20 x) ∙ number_decimal x h

pub read_back_before : (x b : ℕ) (rest : List ℕ) → x < limit → separator b ≡ true → numbers (decimal x ++ b ∷ rest) ≡ (holds (x ∷ []) then numbers rest)
read_back_before x b rest h e =
    after_digits [] (decimal x) (b ∷ rest) (digits_decimal 20 x) ∙ after_separator (decimal x) b rest e ∙ ap (λ c. c then numbers rest) (number_decimal x h)
