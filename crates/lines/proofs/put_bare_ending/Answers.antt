-- Each arm puts the line of its ending.
use Rattle.std.proofs.Common.{◌≡◌}
use Rattle.lines.specs.Lines.{ending_line, bare_ending_line}
use Rattle.lines.proofs.put_bare_ending.Goals as goal

pub returns-in-Err : goal.returns-in-Err
unfolding bare_ending_line
returns-in-Err c = rw c.in-Err.is c.put_refusal.ensures

pub returns-in-Ok-Done : goal.returns-in-Ok-Done
unfolding bare_ending_line ending_line
returns-in-Ok-Done c = let k = c.in-Ok-Done in let e : k.field-0 ≡ _ = rw k.is at k.field-0-is in rw (k.is, e) c.put_after.ensures

pub returns-in-Ok-NoRoom : goal.returns-in-Ok-NoRoom
unfolding bare_ending_line ending_line
returns-in-Ok-NoRoom c = let k = c.in-Ok-NoRoom in let e : k.field-0 ≡ _ = rw k.is at k.field-0-is in rw (k.is, e) c.put_pair.ensures

pub returns-in-Ok-Stuck : goal.returns-in-Ok-Stuck
unfolding bare_ending_line
returns-in-Ok-Stuck c = let k = c.in-Ok-Stuck in let e : k.field-0 ≡ _ = rw k.is at k.field-0-is in rw (k.is, e) c.put_pair-in-Ok-Stuck.ensures
