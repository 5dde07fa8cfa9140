-- Laws of a section's entries, which are pieces of the table.
use Prim.Native.Nat.{ℕ, zero, suc, ◌+◌, ◌*◌, ◌-◌, ◌/◌, ◌≤◌, ◌<◌}
use mathlib.Core.Path.{◌≡◌, ap, ◌∙◌}
use mathlib.Core.List.{List, []}
use native.Mathlib.Omega.{arith}
use native.Mathlib.Nat.{not-suc-le-zero}
use native.Mathlib.Numerals.{unary_clauses}
use lib.ListN.{length, take, drop, get_or}
use Rattle.std.specs.Simd.{first_chunks}
use Rattle.std.proofs.Math.Nat.{mul-div_cancel_left, mul-le-mul_left}
use Rattle.std.proofs.lemmas.List.{get_or-take, get_or-drop, length-take-le, length-drop}
use Rattle.semantics.specs.Words.{Words, word}

-- Word j of piece i.
chunk_at : (n k : ℕ) (xs : Words) (i j : ℕ) → i < k → j < n → word (get_or (first_chunks n k xs) i []) j ≡ word xs (n * i + j)
chunk_at n zero xs i j h l = absurd (not-suc-le-zero h)
chunk_at n (suc k) xs zero j h l = get_or-take n xs j 0 l ∙ ap (word xs) (simp unary_clauses (omega arith))
chunk_at n (suc k) xs (suc i) j h l =
    chunk_at n k (drop n xs) i j (omega arith) l ∙ get_or-drop n xs (n * i + j) 0 ∙ ap (word xs) (simp unary_clauses (omega arith))

product_step : (n i : ℕ) → n * suc i ≡ n * i + n
product_step n i = simp unary_clauses (omega arith)

-- The pieces of the words from `at` on.
module _ (n at count : ℕ) (t : Words) (some : 0 < n) (room : at + n * count ≤ length t) where
  abbrev pub cut : Words
  cut = take (at + n * count - at) (drop at t)

  whole : length (drop at t) ≡ length t - at
  whole = length-drop at t

  cut_length : length cut ≡ n * count
  cut_length = length-take-le (at + n * count - at) (drop at t) (omega (arith, whole)) ∙ omega arith

  pub entry_at : {es : List Words} → es ≡ first_chunks n (length cut / n) cut → (i j : ℕ) → i < count → j < n → word (get_or es i []) j ≡ word t (at + n * i + j)
  entry_at e i j h l =
      let many : length cut / n ≡ count = ap (λ (m : ℕ). m / n) cut_length ∙ mul-div_cancel_left count some in
      let inside : n * i + j < n * count = omega (arith, product_step n i, mul-le-mul_left {m = suc i} {n = count} n (omega arith)) in
      ap (λ (es : List Words). word (get_or es i []) j) e
      ∙ chunk_at n (length cut / n) cut i j (omega (arith, many)) l
      ∙ get_or-take (at + n * count - at) (drop at t) (n * i + j) 0 (omega arith)
      ∙ get_or-drop at t (n * i + j) 0
      ∙ ap (word t) (omega arith)
