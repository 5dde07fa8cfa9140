use Rattle.std.proofs.Common.{arith, ◌-◌}
use Rattle.words.proofs.Lists.{part_zeroed}
use Rattle.words.proofs.clear_part.Goals as goal

pub returns : goal.returns
returns c = part_zeroed _ c.args.at (c.args.to - c.args.at) (omega (arith, c.requires)) c.clear.ensures
