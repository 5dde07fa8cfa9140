-- What a list of numbers asks for, by its first two numbers and its length; and what the scanner's list says of the text.
use Rattle.std.specs.Prelude.{if◌then◌else◌, Some, None}
use Prim.Native.Nat.{ℕ, zero, suc, ◌+◌, ◌-◌, ◌≤◌, ◌<◌}
use mathlib.Core.Bool.{Bool, true, false, ◌&&◌, false≢true}
use mathlib.Core.List.{List, [], ◌∷◌}
use mathlib.Core.Path.{◌≡◌, refl, sym, ap, ◌∙◌}
use native.Mathlib.Omega.{arith}
use borrow.Author.Tests.{le-leb, lt-leb, leb-true, leb-false}
use lib.Dec.{leb}
use lib.ListN.{length, take, drop, get_or, length-drop}
use lib.Seq.{length-take-le, get_or-take, drop-drop, take-nil, take-take}
use Rattle.text.specs.Numbers.{Contents, holds, malformed, numbers}
use Rattle.text.specs.Scan.{within, Finished}
use Rattle.text.specs.declared.Scanner.{Scanner}
use Rattle.text.specs.declared.State.{State}
use Rattle.text.specs.declared.State.TheVariants.{Between, Within, Bad}
use Rattle.request.specs.Request.{Demand, run, input, demand_after, demand_of, demand, first_numbers, stored_in, stored, request_of, Requested}

refuse : (t : Bool) (x y : Demand) → (t ≡ true → ⊥) → (if t then x else y) ≡ y
refuse true x y deny = absurd (deny refl)
refuse false x y deny = refl

pub all_true : (a b c d : Bool) → a && b && c && d ≡ true → (a ≡ true) × (b ≡ true) × (c ≡ true) × (d ≡ true)
all_true true true true d e = (refl, refl, refl, e)
all_true true true false d e = absurd (false≢true e)
all_true true false c d e = absurd (false≢true e)
all_true false b c d e = absurd (false≢true e)

-- The limits of document 01 on a list of numbers.
pub record Sized (xs : List ℕ) : Type 0 where
  pub both : 2 ≤ length xs
  pub memory : get_or xs 0 0 ≤ 4096
  pub inputs : get_or xs 1 0 ≤ 64
  pub enough : 2 + get_or xs 1 0 ≤ length xs
  pub table : length xs ≤ 2 + get_or xs 1 0 + 2472

no_demand : (xs : List ℕ) → (Sized xs → ⊥) → demand_of xs ≡ input
unfolding demand_of demand_after
no_demand [] deny = refl
no_demand (m ∷ []) deny = refl
no_demand (m ∷ (n ∷ rest)) deny =
    refuse _ _ _
    (λ e.
    let q = all_true (leb m 4096) (leb n 64) (leb n (length rest)) (leb (length (drop n rest)) 2472) e in
    let d = leb-true n (length rest) q.2 in
    let f = leb-true (length (drop n rest)) 2472 q.3 in
    let enough : 2 + n ≤ length (m ∷ (n ∷ rest)) = omega arith in
    let table : length (m ∷ (n ∷ rest)) ≤ 2 + n + 2472 = omega (arith, length-drop n rest) in
    deny
    (record {
      both = omega arith;
      memory = leb-true m 4096 q.0;
      inputs = leb-true n 64 q.1;
      enough = enough;
      table = table;
    }))

a_demand : (xs : List ℕ) → Sized xs → demand_of xs ≡ run (get_or xs 0 0) (take (get_or xs 1 0) (drop 2 xs)) (drop (2 + get_or xs 1 0) xs)
unfolding demand_of demand_after
a_demand [] z = absurd (let h = z.both in omega arith)
a_demand (m ∷ []) z = absurd (let h = z.both in omega arith)
a_demand (m ∷ (n ∷ rest)) z =
    let d : n ≤ length rest = (let h = z.enough in omega arith) in
    let f : length (drop n rest) ≤ 2472 = (let h = z.table in omega (arith, length-drop n rest)) in
    simp (le-leb _ _ z.memory, le-leb _ _ z.inputs, le-leb _ _ d, le-leb _ _ f)
    (ap (run m (take n rest)) (drop-drop n 2 (m ∷ (n ∷ rest))))

-- A text with more numbers than the scanner's list has places asks for nothing.
too_long : (t : Bool) (xs : List ℕ) → (if t then holds xs else malformed) ≡ malformed → t ≡ false
too_long true xs e = absurd (let z : ◌≡◌ {A = ℕ} 0 1 = cc in omega arith)
too_long false xs e = refl

no_demand_long : (room : ℕ) (c : Contents) → 2538 ≤ room → within room c ≡ malformed → demand c ≡ input
unfolding demand within
no_demand_long room malformed h e = refl
no_demand_long room (holds xs) h e =
    let l = leb-false (length xs) room (too_long (leb (length xs) room) xs e) in
    no_demand xs (λ z. let i = z.inputs in let t = z.table in omega arith)

-- ---- parts of a part

drop_take : (m n : ℕ) (l : List ℕ) → m ≤ n → drop m (take n l) ≡ take (n - m) (drop m l)
drop_take zero n l h = let all : n - 0 ≡ n = omega arith in rw all
drop_take (suc m) zero l h = absurd (omega arith)
drop_take (suc m) (suc n) [] h = sym (take-nil (suc n - suc m))
drop_take (suc m) (suc n) (x ∷ xs) h = let less : suc n - suc m ≡ n - m = omega arith in drop_take m n xs (omega arith) ∙ ap (λ k. take k (drop m xs)) (sym less)

-- ---- answers

in_good : (t : State) (c : Contents) → (t ≡ Bad → ⊥) → stored_in t c ≡ c
unfolding stored_in
in_good Between c good = refl
in_good (Within v) c good = refl
in_good Bad c good = absurd (good refl)

module _ (list : List ℕ) (s : Scanner) where
  -- The limits on the numbers that the scanner has stored.
  pub record Stored : Type 0 where
    pub good : s.state ≡ Bad → ⊥
    pub count : s.count ≤ length list
    pub both : 2 ≤ s.count
    pub memory : get_or list 0 0 ≤ 4096
    pub inputs : get_or list 1 0 ≤ 64
    pub enough : 2 + get_or list 1 0 ≤ s.count
    pub table : s.count ≤ 2 + get_or list 1 0 + 2472

  stored_bad : s.state ≡ Bad → stored list s ≡ malformed
  unfolding stored_in
  stored_bad e = rw e

  stored_good : (s.state ≡ Bad → ⊥) → s.count ≤ length list → stored list s ≡ holds (take s.count list)
  unfolding first_numbers
  stored_good good n = in_good s.state _ good ∙ rw (le-leb _ _ n)

  stored_short : (s.state ≡ Bad → ⊥) → length list < s.count → stored list s ≡ malformed
  unfolding first_numbers
  stored_short good n = in_good s.state _ good ∙ rw (lt-leb _ _ n)

  -- By whether the text is malformed.
  by_state : {P : Type 0} → (s.state ≡ Bad → P) → ((s.state ≡ Bad → ⊥) → P) → P
  by_state {P} bad good = go s.state refl
    where
      go : (t : State) → s.state ≡ t → P
      go Between e = good (λ q. cc)
      go (Within v) e = good (λ q. cc)
      go Bad e = bad e

  pub text_demand : (text : List ℕ) → 2538 ≤ length list → Finished text list s → demand (stored list s) ≡ demand (numbers text)
  unfolding demand
  text_demand text h f =
      by_state (λ bad. ap demand (stored_bad bad) ∙ sym (no_demand_long (length list) (numbers text) h (f.bad bad)))
      (λ deny. let good = f.good deny in ap demand (stored_good deny good.0 ∙ sym good.1))

  refused_demand : (s.state ≡ Bad → ⊥) → (Stored → ⊥) → demand (stored list s) ≡ input
  unfolding demand
  refused_demand good deny = go (leb s.count (length list)) refl
    where
      go : (t : Bool) → leb s.count (length list) ≡ t → demand (stored list s) ≡ input
      go false e = ap demand (stored_short good (leb-false _ _ e))
      go true e =
          let n = leb-true s.count (length list) e in
          let l = length-take-le s.count list n in
          ap demand (stored_good good n)
          ∙ no_demand (take s.count list)
          (λ z.
          let b = z.both in
          let m = z.memory in
          let i = z.inputs in
          let en = z.enough in
          let ta = z.table in
          let g0 = get_or-take s.count list 0 0 (omega arith) in
          let g1 = get_or-take s.count list 1 0 (omega arith) in
          deny (record { good = good; count = n; both = omega arith; memory = omega arith; inputs = omega arith; enough = omega arith; table = omega arith }))

  pub of_refused : (Stored → ⊥) → Requested list s None
  unfolding demand
  of_refused deny =
      let nothing : demand (stored list s) ≡ input = by_state (λ bad. ap demand (stored_bad bad)) (λ good. refused_demand good deny) in
      record { does = ap request_of (sym nothing); meets = text_demand; parts = λ q k. absurd cc }

  run_demand : (memory inputs : ℕ) → memory ≡ get_or list 0 0 → inputs ≡ get_or list 1 0 → Stored
      → demand (stored list s) ≡ run memory (take inputs (drop 2 list)) (take (s.count - (2 + inputs)) (drop (2 + inputs) list))
  unfolding demand
  run_demand memory inputs e0 e1 z =
      let xs = take s.count list in
      let l = length-take-le s.count list z.count in
      let b = z.both in
      let g0 = get_or-take s.count list 0 0 (omega arith) in
      let g1 = get_or-take s.count list 1 0 (omega arith) in
      let m = z.memory in
      let i = z.inputs in
      let n = z.enough in
      let t = z.table in
      let sized : Sized xs = record { both = omega arith; memory = omega arith; inputs = omega arith; enough = omega arith; table = omega arith } in
      let good_is = ap demand (stored_good z.good z.count) in
      let front : take inputs (drop 2 xs) ≡ take inputs (drop 2 list) =
      ap (take inputs) (drop_take 2 s.count list (omega arith)) ∙ take-take inputs (s.count - 2) (drop 2 list) (omega arith) in
      let rest = drop_take (2 + inputs) s.count list (omega arith) in
      cc (good_is, a_demand xs sized)

  pub of_run : {memory inputs : ℕ} → memory ≡ get_or list 0 0 → inputs ≡ get_or list 1 0 → Stored → Requested list s (Some (record { memory = memory; from = 2 + inputs }))
  of_run {memory} {inputs} e0 e1 z =
      let d = run_demand memory inputs e0 e1 z in
      let a = z.memory in
      let b = z.enough in
      let l = z.count in
      let size : length (take inputs (drop 2 list)) ≡ inputs = length-take-le inputs (drop 2 list) (rw length-drop (omega arith)) in
      record {
        does = sym (ap request_of d ∙ ap (λ n. Some (record { memory = memory; from = 2 + n })) size);
        meets = text_demand;
        parts =
            λ q k.
            let m : memory ≡ q.memory = cc in
            let i : 2 + inputs ≡ q.from = cc in
            let i2 : inputs ≡ q.from - 2 = omega arith in
            record { most = omega arith; two = omega arith; upto = omega arith; count = z.count; asked = cc };
      }
