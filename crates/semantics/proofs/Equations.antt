-- The plain equations of types and trees. The definitions make lists that grow with the node number; where a node's children are before it, as in
-- every table that passes, this is what they come to.
use Prim.Native.Nat.{ℕ, ◌<◌}
use mathlib.Core.Path.{◌≡◌, refl, ap, ap₂}
use mathlib.Core.List.{◌++◌, Memᴰ}
use lib.ListN.{get_or}
use Rattle.semantics.specs.Words.{Words, word}
use Rattle.semantics.specs.Table.{edition, pointers, count, target, pointed_record, entry_type, entry_below, field_type, field_offset, field_count, Kind, variable, deref, field, constant, sum, read, address, cast, size, malloc, copy, unknown, size_of, operand_a, operand_b, node_kind, node_a, node_b, child, children, type_by_kind, type_rule, types_below, node_type}
use Rattle.semantics.specs.Syntax.{Tree, senseless, as_place, as_value, place, value, Deref, Field, Sum, Read, Address, Cast, Malloc, Copy, step_of, moves_bounds, keeps_bounds, either_bounds, tree_by_kind, tree_rule, trees_below, tree_of}
use Rattle.semantics.proofs.Trees.{types_at, trees_at}

-- Each child of node n is a node before it.
abbrev pub ChildrenBefore : Words → ℕ → Type 0
ChildrenBefore t n = (x : ℕ) → Memᴰ x (children t n) → x < n

-- The last column of document 01's table, over the types of the children.
pub type_equation : (t : Words) (n : ℕ) → ChildrenBefore t n → node_type t n ≡ type_by_kind t (node_kind t n) (node_a t n) (node_b t n) (node_type t)
unfolding node_type type_rule children
type_equation t n before = go (node_kind t n) (node_a t n) (node_b t n) before
  where
    go : (k : Kind) (a b : ℕ) → ((x : ℕ) → Memᴰ x (child (operand_a k) a ++ child (operand_b k) b) → x < n)
        → type_by_kind t k a b (word (types_below t n)) ≡ type_by_kind t k a b (node_type t)
    go variable a b h = refl
    go deref a b h = ap (target t) (types_at t n a (h a (Memᴰ.head refl)))
    go field a b h = ap (λ y. field_type t (pointed_record t y) b) (types_at t n a (h a (Memᴰ.head refl)))
    go constant a b h = refl
    go sum a b h = types_at t n a (h a (Memᴰ.head refl))
    go read a b h = types_at t n a (h a (Memᴰ.head refl))
    go address a b h = ap (λ y. entry_type (entry_below t (count t pointers) y)) (types_at t n a (h a (Memᴰ.head refl)))
    go cast a b h = refl
    go size a b h = refl
    go malloc a b h = refl
    go copy a b h = refl
    go unknown a b h = refl

-- The tree of a node is made of the trees of its children.
pub tree_equation : (t : Words) (n : ℕ) → ChildrenBefore t n → tree_of t n ≡ tree_by_kind t n (node_kind t n) (node_a t n) (node_b t n) (tree_of t)
unfolding tree_of tree_rule children
tree_equation t n before = go (node_kind t n) (node_a t n) (node_b t n) before
  where
    one : {A : Type 0} (f : Tree → A) (x : ℕ) → x < n → f (get_or (trees_below t n) x senseless) ≡ f (tree_of t x)
    one f x less = ap f (trees_at t n x less)

    two : {A : Type 0} (f : Tree → Tree → A) (x y : ℕ) → x < n → y < n → f (get_or (trees_below t n) x senseless) (get_or (trees_below t n) y senseless) ≡ f (tree_of t x) (tree_of t y)
    two f x y less_x less_y = ap₂ f (trees_at t n x less_x) (trees_at t n y less_y)

    go : (k : Kind) (a b : ℕ) → ((x : ℕ) → Memᴰ x (child (operand_a k) a ++ child (operand_b k) b) → x < n)
        → tree_by_kind t n k a b (λ x. get_or (trees_below t n) x senseless) ≡ tree_by_kind t n k a b (tree_of t)
    go variable a b h = refl
    go deref a b h = one (λ y. place (Deref n (as_value y))) a (h a (Memᴰ.head refl))
    go field a b h =
        one (λ y. place (Field n (field_offset t (pointed_record t (node_type t a)) b) (field_count t (pointed_record t (node_type t a)) b) (as_value y))) a (h a (Memᴰ.head refl))
    go constant a b h = refl
    go sum a b h =
        two (λ y z. value (Sum n (either_bounds (edition t)) (step_of t (node_type t a)) (as_value y) (as_value z))) a b (h a (Memᴰ.head refl)) (h b (Memᴰ.tail (Memᴰ.head refl)))
    go read a b h = one (λ y. value (Read n (moves_bounds (edition t) (node_type t n)) (as_place y))) a (h a (Memᴰ.head refl))
    go address a b h = one (λ y. value (Address n (as_place y))) a (h a (Memᴰ.head refl))
    go cast a b h = one (λ y. value (Cast n (keeps_bounds (edition t) (node_type t a) b) (as_value y))) a (h a (Memᴰ.head refl))
    go size a b h = refl
    go malloc a b h = one (λ y. value (Malloc n (as_value y))) a (h a (Memᴰ.head refl))
    go copy a b h =
        two (λ y z. value (Copy n (size_of t (target t (node_type t a))) (as_value y) (as_value z))) a b (h a (Memᴰ.head refl)) (h b (Memᴰ.tail (Memᴰ.head refl)))
    go unknown a b h = refl
