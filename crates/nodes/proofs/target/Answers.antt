-- `nodes::target` meets its contract.
use Rattle.std.proofs.Common.{arith, sym}
use Rattle.nodes.proofs.Lookups.{target_inside, target_found}
use Rattle.nodes.proofs.target.Goals as goal

pub overflow_add-result : goal.overflow_add-result
overflow_add-result c = omega (arith, target_inside c.requires)

pub offset_bounds-t-targets : goal.offset_bounds-t-targets
offset_bounds-t-targets c = omega (arith, target_inside c.requires)

pub bounds-t-targets : goal.bounds-t-targets
bounds-t-targets c = omega (arith, target_inside c.requires)

pub returns : goal.returns
returns c = sym (target_found c.requires)
