-- Lists that a loop fills from some index on with another list; and lists of which a part is stored or cleared.
use Prim.Native.Nat.{ℕ, suc, ◌+◌, ◌-◌, ◌≤◌, ◌<◌}
use mathlib.Core.Path.{◌≡◌, refl, sym, ap, ◌∙◌}
use mathlib.Core.List.{List, [], ◌∷◌, ◌++◌, append_assoc}
use native.Mathlib.Omega.{arith}
use native.Mathlib.Numerals.{add-one}
use native.Mathlib.Nat.{add-zero, add-suc, suc-add}
use lib.ListN.{length, get_or, take, drop, set, replicate, length-append, length-drop, take-append-drop, length-replicate, get_or-replicate}
use lib.Seq.{sets, ext_get_or, take-suc, length-take-le, take_all, take_at, get_or-drop, drop-drop, sets-eq}

-- One more store at the end of a run of stores.
sets_more : (l : List ℕ) (i : ℕ) (xs : List ℕ) (x : ℕ) → sets l i (xs ++ (x ∷ [])) ≡ set (sets l i xs) (i + length xs) x
sets_more l i [] x = rw (add-zero i)
sets_more l i (y ∷ ys) x = sets_more (set l i y) (suc i) ys x ∙ ap (λ n. set (sets (set l i y) (suc i) ys) n x) (suc-add i (length ys) ∙ sym (add-suc i (length ys)))

-- The first i of xs are stored from index a on.
pub record Copied (l₀ : List ℕ) (a : ℕ) (xs l : List ℕ) (i : ℕ) : Type 0 where
  pub stores : l ≡ sets l₀ a (take i xs)

pub copied_none : (l : List ℕ) (a : ℕ) (xs : List ℕ) → Copied l a xs l 0
copied_none l a xs = record { stores = refl }

pub copied_more : {l₀ : List ℕ} {a : ℕ} {xs l : List ℕ} {i : ℕ} → Copied l₀ a xs l i → i < length xs → Copied l₀ a xs (set l (a + i) (get_or xs i 0)) (i + 1)
copied_more {l₀} {a} {xs} {l} {i} h inside =
    let e : a + length (take i xs) ≡ a + i = omega (arith, length-take-le i xs (omega arith)) in
    record {
      stores =
          ap (λ r. set r (a + i) (get_or xs i 0)) h.stores
          ∙ sym (ap (λ ys. sets l₀ a ys) (ap (λ n. take n xs) (add-one i) ∙ take-suc xs i 0 inside) ∙ sets_more l₀ a (take i xs) (get_or xs i 0) ∙ ap (λ n. set (sets l₀ a (take i xs)) n (get_or xs i 0)) e);
    }

pub copied_all : {l₀ : List ℕ} {a : ℕ} {xs l : List ℕ} {i : ℕ} → Copied l₀ a xs l i → length xs ≤ i → l ≡ sets l₀ a xs
copied_all {l₀} {a} {xs} {i = i} h all = h.stores ∙ ap (λ ys. sets l₀ a ys) (take_all i xs all)

-- ---- a part of a list

-- A part of n words that was lent from index a on came back as zeros: they are stored there.
pub part_zeroed : (l : List ℕ) (a n : ℕ) {ys : List ℕ} → a + n ≤ length l → ys ≡ replicate (length (take n (drop a l))) 0 → take a l ++ (ys ++ drop n (drop a l)) ≡ sets l a (replicate n 0)
part_zeroed l a n fits h =
    let zeros : List ℕ = replicate n 0 in
    let many : length zeros ≡ n = length-replicate n 0 in
    rw (h, length-take-le n (drop a l) (omega (arith, length-drop a l)), drop-drop n a l)
    (sym (sets-eq zeros l a (omega arith) ∙ ap (λ k. take a l ++ zeros ++ drop (a + k) l) many ∙ append_assoc (take a l) zeros (drop (a + n) l)))

-- Where words are stored from index i on, the list up to the last of them.
pub front_sets : (l : List ℕ) (i : ℕ) (xs : List ℕ) → i + length xs ≤ length l → take (i + length xs) (sets l i xs) ≡ take i l ++ xs
front_sets l i xs fits =
    ap (take (i + length xs)) (sets-eq xs l i fits)
    ∙ take_at (take i l ++ xs) (drop (i + length xs) l) (i + length xs) (length-append (take i l) xs ∙ ap (λ n. n + length xs) (length-take-le i l (omega arith)))

-- Clearing words that are clear changes nothing.
pub zeros_from : (l : List ℕ) (a : ℕ) → ((k : ℕ) → a ≤ k → get_or l k 0 ≡ 0) → take a l ++ replicate (length l - a) 0 ≡ l
zeros_from l a h =
    let zeros : List ℕ = replicate (length l - a) 0 in
    let many : length zeros ≡ length l - a = length-replicate (length l - a) 0 in
    ap (λ r. take a l ++ r)
    (ext_get_or 0 zeros (drop a l) (many ∙ sym (length-drop a l))
    (λ i less. get_or-replicate (length l - a) i 0 0 (omega arith) ∙ sym (get_or-drop a l i 0 ∙ h (a + i) (omega arith))))
    ∙ take-append-drop a l
