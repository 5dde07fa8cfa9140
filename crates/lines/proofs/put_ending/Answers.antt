-- Each arm puts the line of its ending.
use Rattle.std.proofs.Common.{◌≡◌}
use Rattle.lines.specs.Lines.{ending_line}
use Rattle.lines.proofs.put_ending.Goals as goal

pub returns-in-Ok-Done : goal.returns-in-Ok-Done
unfolding ending_line
returns-in-Ok-Done g c = let k = c.in-Ok-Done in let e : k.field-0 ≡ _ = rw k.is at k.field-0-is in rw (k.is, e) c.put_after.ensures

pub returns-in-Ok-Abort : goal.returns-in-Ok-Abort
unfolding ending_line
returns-in-Ok-Abort g c = let k = c.in-Ok-Abort in let e : k.field-0 ≡ _ = rw k.is at k.field-0-is in rw (k.is, e) c.put_pair.ensures

pub returns-in-Ok-NoRoom : goal.returns-in-Ok-NoRoom
unfolding ending_line
returns-in-Ok-NoRoom g c = let k = c.in-Ok-NoRoom in let e : k.field-0 ≡ _ = rw k.is at k.field-0-is in rw (k.is, e) c.put_pair-in-Ok-NoRoom.ensures
