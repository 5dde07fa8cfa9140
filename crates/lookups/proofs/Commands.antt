-- The words of a table's commands, and the nodes that they name.
use Prim.Native.Nat.{ℕ, ◌+◌, ◌*◌, ◌<◌}
use mathlib.Core.Path.{◌≡◌, refl}
use native.Mathlib.Omega.{arith}
use Rattle.semantics.specs.Words.{Words, word}
use Rattle.semantics.specs.Table.{variables, commands, count}
use Rattle.semantics.specs.Check.{command_place, command_value}
use Rattle.semantics.proofs.Trees.{command_ok}
use Rattle.layout.specs.Layout.{Stands}
use Rattle.layout.specs.declared.Section.{Section}
use Rattle.layout.proofs.Laws.{entry_word}
use Rattle.lookups.specs.declared.Lists.{Lists}
use Rattle.lookups.specs.Lists.{ListsOf}
use Rattle.lookups.specs.Nodes.{CommandNodes}

-- The words e of command c name its place and its value.
module _ {t : Words} {s : Section} (stands : Stands t commands s) (c : ℕ) (e : Words) (same : (j : ℕ) → j < 2 → word e j ≡ word t (s.at + 2 * c + j)) where
  pub place_named : word e 0 ≡ command_place t c
  place_named = entry_word stands c 0 _ refl (same 0 (omega arith))

  pub value_named : word e 1 ≡ command_value t c
  value_named = entry_word stands c 1 _ refl (same 1 (omega arith))

  pub nodes_named : {l : Lists} → ListsOf t l → c < s.count → CommandNodes t l (word e 0) (word e 1) (count t variables)
  nodes_named lists less =
      let k = command_ok lists.passed c (omega (arith, stands.total)) in
      record {
        lists_of = lists;
        place_node = rw place_named k.place_node;
        value_node = rw value_named k.value_node;
        place_tree = rw place_named k.place_tree;
        value_tree = rw value_named k.value_tree;
      }
