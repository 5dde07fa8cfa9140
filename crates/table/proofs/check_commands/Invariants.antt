-- The commands before c pass and their uses are counted.
use Rattle.std.proofs.Common.{◌≡◌}
use Rattle.semantics.specs.Check.{passes, each, command_fault}
use Rattle.table.specs.Promises.{CommandsCounted}
use Rattle.table.proofs.check_commands.Given as goal

abbrev pub invariant-loop-c : goal.invariant-loop-c
invariant-loop-c l = record { pass : each l.c (command_fault l.t) ≡ passes; counted : CommandsCounted l.t l.initial.uses l.uses l.c }
