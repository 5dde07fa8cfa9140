use Rattle.std.proofs.Common.{refl, sym}
use Rattle.layout.proofs.Sections.{laid_out}
use Rattle.why.proofs.Calls.{walkable, tells, tells_refused}
use Rattle.why.proofs.tell.Goals as goal

pub put_told-requires : goal.put_told-requires
put_told-requires c = (laid_out _ _ (sym c.in-Ok.ensures), walkable _ _ _ _ _ _ c.explain-e.result _ _ _ c.explain-e.ensures.explained)

pub returns-in-Ok : goal.returns-in-Ok
returns-in-Ok c = tells c.explain-e.result c.requires c.explain-e.ensures.explained (record { values = refl; bases = refl; ends = refl }) c.put_told.ensures

pub returns-in-Err : goal.returns-in-Err
returns-in-Err c = tells_refused _ c.requires (sym c.in-Err.ensures) c.put_ended.ensures
