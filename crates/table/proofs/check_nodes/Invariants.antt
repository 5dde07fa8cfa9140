-- The nodes before n pass, are noted, and their uses are counted.
use Rattle.std.proofs.Common.{◌≡◌}
use Rattle.semantics.specs.Table.{edition_1}
use Rattle.layout.specs.Lists.{filled}
use Rattle.layout.specs.Notes.{note}
use Rattle.table.specs.Promises.{NodesNoted}
use Rattle.table.proofs.check_nodes.Given as goal

abbrev pub invariant-loop-n : goal.invariant-loop-n
invariant-loop-n l = record { noted : NodesNoted l.t l.notes l.uses l.n; list : l.notes ≡ filled l.initial.notes 0 l.n (note edition_1 l.t) }
