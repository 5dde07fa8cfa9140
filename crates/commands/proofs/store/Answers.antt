-- Base and end are stored where they go with the value.
use Rattle.std.proofs.Common.{refl, arith, le-leb}
use Rattle.semantics.specs.Table.{is_pointer}
use Rattle.commands.proofs.store.Goals as goal

pub returns-then-bounds-ne0-clause-stored : goal.returns-then-bounds-ne0-clause-stored
unfolding is_pointer
returns-then-bounds-ne0-clause-stored c =
    let some = le-leb 1 c.args.bounds (omega (arith, c.if-bounds-ne0.true)) in
    record { values = refl; bases = rw some refl; ends = rw some refl }

pub returns-else-bounds-ne0-clause-stored : goal.returns-else-bounds-ne0-clause-stored
unfolding is_pointer
returns-else-bounds-ne0-clause-stored c =
    rw c.if-bounds-ne0.false (record { values = refl; bases = refl; ends = refl })
