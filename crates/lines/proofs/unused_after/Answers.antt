use Rattle.std.proofs.Common.{◌≡◌, refl}
use Rattle.lines.specs.Lines.{unused}
use Rattle.lines.proofs.unused_after.Goals as goal

pub returns-in-Err : goal.returns-in-Err
unfolding unused
returns-in-Err g c = rw c.in-Err.is refl

pub returns-in-Ok-Done : goal.returns-in-Ok-Done
unfolding unused
returns-in-Ok-Done g c = let k = c.in-Ok-Done in let e : k.field-0 ≡ _ = rw k.is at k.field-0-is in rw (k.is, e) refl

pub returns-in-Ok-Abort : goal.returns-in-Ok-Abort
unfolding unused
returns-in-Ok-Abort g c = let k = c.in-Ok-Abort in let e : k.field-0 ≡ _ = rw k.is at k.field-0-is in rw (k.is, e) refl

pub returns-in-Ok-NoRoom : goal.returns-in-Ok-NoRoom
unfolding unused
returns-in-Ok-NoRoom g c = let k = c.in-Ok-NoRoom in let e : k.field-0 ≡ _ = rw k.is at k.field-0-is in rw (k.is, e) refl
