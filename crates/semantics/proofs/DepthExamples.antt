-- The check as it was before request 7, on examples: how many nodes are on a path, and where 12 stood in the order. No table gets 12 with 512 nodes on a
-- path, so they have lower numbers. Examples.antt computes both lists.
use Prim.Native.Nat.{ℕ, ◌+◌, ◌*◌, ◌-◌}
use mathlib.Core.Bool.{Bool, true, false}
use mathlib.Core.List.{List, [], ◌∷◌, ◌++◌}
use lib.ListN.{length, take}
use Rattle.semantics.specs.Words.{Words}
use Rattle.semantics.specs.Check.{Verdict, passes, refused}
use Rattle.semantics.specs.ExampleTables.{section, of_type, types, node, var, deref, num, sum, read, address, cast, assign}
use Rattle.semantics.proofs.Depth.{deeper, check_before}

-- ---- the test by itself

-- Nodes 4 and 5 are sums of a constant, node 3, and a cast of a cast of a constant, nodes 2 to 0. Nodes 6 and 7 name themselves and a later node.
abbrev long_paths : Words
long_paths =
    types [] [] []
    ++ section (num 7 ∷ cast 0 0 ∷ cast 1 0 ∷ num 8 ∷ sum 3 2 ∷ sum 2 3 ∷ cast 6 0 ∷ cast 8 0 ∷ num 9 ∷ [])
    ++ section []

-- A number of nodes, a node, and whether more are on a path from it.
pub record Measure : Type 0 where
  pub nodes : ℕ
  pub from : ℕ
  pub more : Bool

abbrev depth : ℕ → ℕ → Bool → Measure
depth k n b = record { nodes = k; from = n; more = b }

unfoldable pub measured : Measure → Measure
measured x = depth x.nodes x.from (deeper long_paths x.nodes x.from)

unfoldable pub depths : List Measure
depths =
    depth 0 3 true ∷ depth 1 3 false ∷ depth 2 2 true ∷ depth 3 2 false
    ∷ depth 3 4 true ∷ depth 4 4 false ∷ depth 3 5 true ∷ depth 4 5 false
    ∷ depth 0 6 true ∷ depth 1 6 false ∷ depth 1 7 false
    ∷ []

-- ---- the whole check

-- How many nodes may be on a path, a table, and the verdict.
pub record JudgementBefore : Type 0 where
  pub most : ℕ
  pub table : Words
  pub verdict : Verdict

unfoldable pub judged_before : JudgementBefore → JudgementBefore
judged_before x = record { most = x.most; table = x.table; verdict = check_before x.most x.table }

-- Two ints, or an int and a pointer to int; then these nodes and commands. The nodes start at place 7 in both.
abbrev ints : List Words → List Words → Words
ints ns cs = types [] [] (0 ∷ 0 ∷ []) ++ section ns ++ section cs

abbrev with_pointer : List Words → List Words → Words
with_pointer ns cs = types [] (0 ∷ []) (0 ∷ []) ++ section ns ++ section cs

abbrev kind_at : ℕ → ℕ
kind_at n = 7 + 3 * n

abbrev judges : ℕ → Words → Verdict → JudgementBefore
judges k t v = record { most = k; table = t; verdict = v }

-- x = (int)(int)(int)7, where node 4 has a path of four nodes; the same nodes with another command or none.
abbrev casts : List Words
casts = var 0 ∷ num 7 ∷ cast 1 0 ∷ cast 2 0 ∷ cast 3 0 ∷ []

abbrev three_casts : Words
three_casts = ints casts (assign 0 4 ∷ [])

unfoldable pub verdicts_before : List JudgementBefore
verdicts_before =
    -- "more than": as many nodes as may be are not too many; the lowest node with more is at fault, at its kind word
    judges 512 three_casts passes
    ∷ judges 4 three_casts passes
    ∷ judges 3 three_casts (refused 12 (kind_at 4))
    ∷ judges 2 three_casts (refused 12 (kind_at 3))
    ∷ judges 1 three_casts (refused 12 (kind_at 2))
    ∷ judges 0 three_casts (refused 12 (kind_at 0))
    -- by the left operand of a sum, by the right one, and by places
    ∷ judges 3 (ints (var 0 ∷ num 7 ∷ cast 1 0 ∷ num 8 ∷ sum 2 3 ∷ []) (assign 0 4 ∷ [])) passes
    ∷ judges 2 (ints (var 0 ∷ num 7 ∷ cast 1 0 ∷ num 8 ∷ sum 2 3 ∷ []) (assign 0 4 ∷ [])) (refused 12 (kind_at 4))
    ∷ judges 3 (ints (var 0 ∷ num 7 ∷ num 8 ∷ cast 2 0 ∷ sum 1 3 ∷ []) (assign 0 4 ∷ [])) passes
    ∷ judges 2 (ints (var 0 ∷ num 7 ∷ num 8 ∷ cast 2 0 ∷ sum 1 3 ∷ []) (assign 0 4 ∷ [])) (refused 12 (kind_at 4))
    ∷ judges 4 (with_pointer (var 0 ∷ var 0 ∷ address 1 ∷ deref 2 ∷ read 3 ∷ []) (assign 0 4 ∷ [])) passes
    ∷ judges 3 (with_pointer (var 0 ∷ var 0 ∷ address 1 ∷ deref 2 ∷ read 3 ∷ []) (assign 0 4 ∷ [])) (refused 12 (kind_at 4))
    -- two short paths are not one long one
    ∷ judges 2 (ints (var 0 ∷ num 7 ∷ cast 1 0 ∷ var 1 ∷ num 8 ∷ cast 4 0 ∷ []) (assign 0 2 ∷ assign 3 5 ∷ [])) passes
    -- "in a node kind, a, b (7 or 5), then 8, then 12"
    ∷ judges 2 (ints (num 7 ∷ cast 0 0 ∷ cast 1 9 ∷ []) []) (refused 5 (kind_at 2 + 2))
    ∷ judges 2 (with_pointer (var 0 ∷ address 0 ∷ num 7 ∷ sum 2 1 ∷ []) []) (refused 8 (kind_at 3))
    ∷ judges 2 (with_pointer (var 0 ∷ address 0 ∷ num 7 ∷ sum 1 2 ∷ []) []) (refused 12 (kind_at 3))
    -- node by node: what a lower node is refused for comes first
    ∷ judges 2 (ints (num 7 ∷ cast 0 0 ∷ cast 1 0 ∷ node 99 0 0 ∷ []) []) (refused 12 (kind_at 2))
    ∷ judges 2 (ints (num 7 ∷ cast 0 0 ∷ node 99 0 0 ∷ cast 1 0 ∷ []) []) (refused 7 (kind_at 2))
    -- before the commands, and before 9
    ∷ judges 3 (ints casts (assign 0 9 ∷ [])) (refused 12 (kind_at 4))
    ∷ judges 4 (ints casts (assign 0 9 ∷ [])) (refused 7 (kind_at 5 + 2))
    ∷ judges 3 (ints casts []) (refused 12 (kind_at 4))
    ∷ judges 4 (ints casts []) (refused 9 (kind_at 0))
    -- after the sections, after words over, and after the records, their sum, the fields, the pointers and the variables
    ∷ judges 3 (take (length three_casts - 1) three_casts) (refused 1 (length three_casts - 1))
    ∷ judges 3 (three_casts ++ (0 ∷ [])) (refused 2 (length three_casts))
    ∷ judges 3 (types ([] ∷ []) [] (0 ∷ []) ++ section casts ++ section []) (refused 4 1)
    ∷ judges 3 ((1 ∷ 1 ∷ 0 ∷ 0 ∷ 1 ∷ 0 ∷ []) ++ section casts ++ section []) (refused 4 2)
    ∷ judges 3 (types ((of_type 9 1 ∷ []) ∷ []) [] (0 ∷ []) ++ section casts ++ section []) (refused 5 3)
    ∷ judges 3 (types [] (9 ∷ []) (0 ∷ []) ++ section casts ++ section []) (refused 5 3)
    ∷ judges 3 (types [] [] (0 ∷ 9 ∷ []) ++ section casts ++ section []) (refused 5 5)
    ∷ []
