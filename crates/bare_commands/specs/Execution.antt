-- All commands of a table, without bounds: what they are run from, and how they end.
use Rattle.std.specs.Prelude.{ℕ, ◌≤◌, ◌<◌, ◌≡◌, length}
use Rattle.semantics.specs.Words.{Words}
use Rattle.semantics.specs.Table.{variables, commands, count}
use Rattle.semantics.specs.Bare as Bare
use Rattle.semantics.specs.Bare.{ending, done, out_of_memory, stuck, result_of, commands_below}
use Rattle.layout.specs.Layout.{Stands}
use Rattle.layout.specs.declared.Section.{Section}
use Rattle.lookups.specs.declared.Lists.{Lists}
use Rattle.lookups.specs.Lists.{ListsOf}
use Rattle.bare_commands.specs.declared.Ended.{Ended}
use Rattle.bare_commands.specs.declared.Ended.TheVariants.{Done, NoRoom, Stuck}

-- "Every run answers its ending and U"; no room and stuck add the command number.
abbrev pub ended_of : Ended → Bare.Answer
ended_of (Done u) = ending done u
ended_of (NoRoom c u) = ending (out_of_memory c) u
ended_of (Stuck c u) = ending (stuck c) u

-- s is the section of the commands, l are the table's lists, and the memory m has a word for each variable.
pub record Executable (t : Words) (l : Lists) (s : Section) (m : Words) : Type 0 where
  pub lists_of : ListsOf t l
  pub stands : Stands t commands s
  pub room : count t variables < length m
  pub most : length m ≤ 65536

-- The commands were run from this memory and this U, and ended so.
pub record Executed (t : Words) (m : Words) (u : ℕ) (r : Ended) (m' : Words) : Type 0 where
  pub is : record { answer = ended_of r; values = m' } ≡ result_of (commands_below t (count t commands) (record { values = m; unused = u }))
