use Rattle.std.proofs.Common.{◌≡◌}
use Rattle.stream.proofs.Items.{prints_then}
use Rattle.why.specs.Told.{told_lines}
use Rattle.why.proofs.put_told.Goals as goal

pub returns-in-Err : goal.returns-in-Err
unfolding told_lines
returns-in-Err c = let k = c.in-Err in rw k.is (rw k.is at c.put_ended.ensures)

pub returns-in-Ok-Abort : goal.returns-in-Ok-Abort
unfolding told_lines
returns-in-Ok-Abort c =
    let k = c.in-Ok-Abort in
    let e : k.field-0 ≡ _ = rw k.is at k.field-0-is in
    rw (k.is, e) (prints_then (rw (k.is, e) at c.put_ended-in-Ok-Abort.ensures) c.put_cause.ensures)

pub returns-in-Ok-Done : goal.returns-in-Ok-Done
unfolding told_lines
returns-in-Ok-Done c =
    let k = c.in-Ok-Done in
    let e : k.field-0 ≡ _ = rw k.is at k.field-0-is in
    rw (k.is, e) (rw (k.is, e) at c.put_not_aborted.ensures)

pub returns-in-Ok-NoRoom : goal.returns-in-Ok-NoRoom
unfolding told_lines
returns-in-Ok-NoRoom c =
    let k = c.in-Ok-NoRoom in
    let e : k.field-0 ≡ _ = rw k.is at k.field-0-is in
    rw (k.is, e) (rw (k.is, e) at c.put_not_aborted-in-Ok-NoRoom.ensures)
