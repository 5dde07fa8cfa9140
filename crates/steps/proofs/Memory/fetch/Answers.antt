use Rattle.std.proofs.Common.{refl, arith}
use Rattle.steps.proofs.Finish.{fetched_int, fetched_pointer}
use Rattle.steps.proofs.Memory.fetch.Goals as goal

pub returns-then-bounds-eq0 : goal.returns-then-bounds-eq0
returns-then-bounds-eq0 c = fetched_int c.args.self.now c.args.w c.if-bounds-eq0.true refl c.number.ensures

pub returns-else-bounds-eq0 : goal.returns-else-bounds-eq0
returns-else-bounds-eq0 c = fetched_pointer c.args.self.now c.args.w c.if-bounds-eq0.false c.bound.ensures refl refl refl (omega arith)
