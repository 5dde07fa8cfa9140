-- A type that is no entry has the step 1, and an entry that of its target.
use Rattle.std.proofs.Common.{arith, ◌∙◌}
use Rattle.lookups.proofs.Lookups.{target_word, step_word, step_size}
use Rattle.lookups.proofs.Lists.step.Goals as goal

pub returns-then-of-lt-ENTRY : goal.returns-then-of-lt-ENTRY
returns-then-of-lt-ENTRY c t h = step_word t _ (omega (arith, c.if-of-lt-ENTRY.true))

pub size_of-requires : goal.size_of-requires
size_of-requires c =
    let h = c.requires in
    record { table = h.table; is_known = target_word h.is_known c.if-of-lt-ENTRY.false (c.target.ensures _ h.is_known) }

pub returns : goal.returns
returns c t h =
    let entry = c.if-of-lt-ENTRY.false in
    let e = c.target.ensures t h in
    rw e at (c.size_of.ensures t (target_word h entry e)) ∙ step_size t _ entry
