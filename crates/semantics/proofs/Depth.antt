-- Request 7: why refusal 12, "more than 512 nodes on a path downwards", could not be given. Paths and how long they are; then the check as it was, with
-- 12 in its order. What follows, for evaluation and for the check, is in Shallow.
use Prim.Native.Nat.{ℕ, zero, suc, ◌≤◌, ◌<◌}
use mathlib.Core.Bool.{Bool, true, false, not, ◌&&◌, ◌||◌, false≢true}
use mathlib.Core.Path.{◌≡◌, refl, sym}
use mathlib.Core.List.{[], ◌∷◌, ◌++◌, Memᴰ}
use mathlib.Core.Logic.{⊎_elim}
use native.Mathlib.Omega.{arith}
use borrow.Author.Tests.{lt-ltb}
use lib.Dec.{ltb}
use Rattle.semantics.specs.Words.{Words}
use Rattle.semantics.specs.Table.{records, fields, pointers, variables, nodes, commands, count, item_place, Sort, Operand, unused, variable_number, field_number, any_word, type_word, target_word, place_child, value_child, operand_a, operand_b, node_kind, node_a, node_b, child, children}
use Rattle.semantics.specs.Check.{Verdict, passes, ◌or_else◌, require, each, edition_fault, section_fault, words_over, record_fault, field_sum_fault, field_fault, pointer_fault, variable_fault, is_child, operand_fault, node_fault, command_fault, use_fault}
use Rattle.semantics.proofs.Tests.{and_true, and_both, or_true}
use Rattle.semantics.proofs.Passed.{require_passes, section_ok}
use Rattle.semantics.proofs.Trees.{node_ok, is_child_true}
use Rattle.semantics.proofs.Equations.{ChildrenBefore}

-- ---- paths

-- A path downwards from a node, and how many nodes are on it: the node alone, or the node and a path from one of its children.
pub data Path (t : Words) : ℕ → ℕ → Type 0 where
  alone : {n : ℕ} → Path t n 1
  down : {n c k : ℕ} → Memᴰ c (children t n) → Path t c k → Path t n (suc k)

-- "A child is a node with a smaller number": so it is with the children of a node that is not refused.
pub children_before : (t : Words) (n : ℕ) → node_fault t n ≡ passes → ChildrenBefore t n
unfolding children
children_before t n pass x among =
    let ok = node_ok t n pass in
    go (child (operand_a (node_kind t n)) (node_a t n)) (operand_before (operand_a (node_kind t n)) (node_a t n) _ ok.a_ok) (operand_before (operand_b (node_kind t n)) (node_b t n) _ ok.b_ok) among
  where
    named_before : (s : Sort) (y p : ℕ) → require (is_child t s n y) 7 p ≡ passes → Memᴰ x (y ∷ []) → x < n
    named_before s y p e (Memᴰ.head same) = rw same (is_child_true t s n y (require_passes (is_child t s n y) 7 p e)).0
    named_before s y p e (Memᴰ.tail none) = elim none [ ]

    operand_before : (o : Operand) (y p : ℕ) → operand_fault t n o y p ≡ passes → Memᴰ x (child o y) → x < n
    operand_before place_child y p e m = named_before Sort.place y p e m
    operand_before value_child y p e m = named_before Sort.value y p e m
    operand_before unused y p e none = elim none [ ]
    operand_before variable_number y p e none = elim none [ ]
    operand_before field_number y p e none = elim none [ ]
    operand_before any_word y p e none = elim none [ ]
    operand_before type_word y p e none = elim none [ ]
    operand_before target_word y p e none = elim none [ ]

    go : (xs : Words) {ys : Words} → (Memᴰ x xs → x < n) → (Memᴰ x ys → x < n) → Memᴰ x (xs ++ ys) → x < n
    go [] left right m = right m
    go (y ∷ ys) left right (Memᴰ.head same) = left (Memᴰ.head same)
    go (y ∷ ys) left right (Memᴰ.tail m) = go ys (λ h. left (Memᴰ.tail h)) right m

-- The nodes up to n are not refused.
abbrev pub UpTo : Words → ℕ → Type 0
UpTo t n = (m : ℕ) → m ≤ n → node_fault t m ≡ passes

-- Then a path from node n has at most n + 1 nodes: from 0 there is no way down.
pub path_nodes : {t : Words} {n k : ℕ} → UpTo t n → Path t n k → k ≤ suc n
path_nodes pass alone = omega arith
path_nodes {t} {n} pass (down {c = c} among path) =
    let less = children_before t n (pass n (omega arith)) c among in
    omega (arith, less, path_nodes (λ m h. pass m (omega arith)) path)

-- A table has come so far in the check that 12 was next for node n: its sections are not refused, and no node up to n is for what stood before 12.
pub record ComeTo (t : Words) (n : ℕ) : Type 0 where
  pub sections : (s : ℕ) → s < 6 → section_fault t s ≡ passes
  pub listed : n < count t nodes
  pub node_passes : UpTo t n

-- "Nodes, at most 512"
pub few_nodes : (t : Words) → section_fault t nodes ≡ passes → count t nodes ≤ 512
few_nodes t e = omega (arith, (section_ok t nodes e).limited)

-- So no path from it has more than 512 nodes.
pub no_path_is_longer : {t : Words} {n k : ℕ} → ComeTo t n → Path t n k → k ≤ 512
no_path_is_longer {t} h path = omega (arith, h.listed, few_nodes t (h.sections nodes (omega arith)), path_nodes h.node_passes path)

-- ---- the check as it was

abbrev pub any_of : (ℕ → Bool) → Words → Bool
any_of p [] = false
any_of p (x ∷ xs) = p x || any_of p xs

-- There are more than k nodes on a path downwards from node n. "A child is a node with a smaller number."
unfoldable pub deeper : Words → ℕ → ℕ → Bool
deeper t zero n = true
deeper t (suc k) n = any_of (λ c. ltb c n && deeper t k c) (children t n)

-- "in a node kind, a, b (7 or 5), then 8, then 12", whose place is "as for 8". As many nodes as `most` may be on a path.
unfoldable pub node_fault_before : ℕ → Words → ℕ → Verdict
node_fault_before most t n = node_fault t n or_else require (not (deeper t most n)) 12 (item_place t nodes n 0)

-- With 512 for `most` this is the check as it was.
unfoldable pub check_before : ℕ → Words → Verdict
check_before most t =
    edition_fault t
    or_else each 6 (section_fault t)
    or_else words_over t
    or_else each (count t records) (record_fault t)
    or_else field_sum_fault t
    or_else each (count t fields) (field_fault t)
    or_else each (count t pointers) (pointer_fault t)
    or_else each (count t variables) (variable_fault t)
    or_else each (count t nodes) (node_fault_before most t)
    or_else each (count t commands) (command_fault t)
    or_else each (count t nodes) (use_fault t)

-- ---- its test finds the paths with more nodes, and no others

pub record Found (p : ℕ → Bool) (xs : Words) : Type 0 where
  pub number : ℕ
  pub among : Memᴰ number xs
  pub holds : p number ≡ true

pub found : (p : ℕ → Bool) (xs : Words) → any_of p xs ≡ true → Found p xs
found p [] e = absurd (false≢true e)
found p (x ∷ xs) e =
    ⊎_elim
    (λ h. record { number = x; among = Memᴰ.head refl; holds = h })
    (λ h. let later = found p xs h in record { number = later.number; among = Memᴰ.tail later.among; holds = later.holds })
    (or_true (p x) (any_of p xs) e)

find : (p : ℕ → Bool) {x : ℕ} (xs : Words) → Memᴰ x xs → p x ≡ true → any_of p xs ≡ true
find p [] none h = elim none [ ]
find p (y ∷ ys) (Memᴰ.head same) h = let e : p y ≡ true = rw (sym same) h in rw e
find p (y ∷ ys) (Memᴰ.tail m) h = go (p y) (find p ys m h)
  where
    go : (b : Bool) {c : Bool} → c ≡ true → b || c ≡ true
    go true e = refl
    go false e = e

-- Where it holds there is a path with one node more than k.
pub deeper_has_path : (t : Words) (k n : ℕ) → deeper t k n ≡ true → Path t n (suc k)
unfolding deeper
deeper_has_path t zero n e = alone
deeper_has_path t (suc k) n e =
    let f = found (λ c. ltb c n && deeper t k c) (children t n) e in
    down f.among (deeper_has_path t k f.number (and_true (ltb f.number n) (deeper t k f.number) f.holds).1)

-- Where a path has more than k nodes it holds, if no node up to n is refused.
pub path_is_deeper : {t : Words} {n j : ℕ} → UpTo t n → Path t n j → (k : ℕ) → k < j → deeper t k n ≡ true
unfolding deeper
path_is_deeper pass path zero more = refl
path_is_deeper pass alone (suc k) more = absurd (omega arith)
path_is_deeper {t} {n} pass (down {c = c} among path) (suc k) more =
    let less = children_before t n (pass n (omega arith)) c among in
    find (λ x. ltb x n && deeper t k x) (children t n) among
    (and_both (ltb c n) (deeper t k c) (lt-ltb c n less) (path_is_deeper (λ m h. pass m (omega arith)) path k (omega arith)))
