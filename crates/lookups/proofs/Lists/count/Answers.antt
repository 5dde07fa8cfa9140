-- A field's number is below 128, and its words stand in the list of the fields.
use Rattle.std.proofs.Common.{arith, ◌<◌}
use Rattle.lookups.proofs.Lookups.{field_inside, count_is}
use Rattle.lookups.proofs.Lists.count.Goals as goal

small : (c : goal.After-number) → c.number.result < 128
small c = (field_inside c.requires.is_field (c.number.ensures c.requires.table c.requires.is_field)).0

pub overflow_mul-result : goal.overflow_mul-result
overflow_mul-result c = omega (arith, small c)

pub overflow_add-result : goal.overflow_add-result
overflow_add-result c = omega (arith, small c)

pub offset_bounds-self-number : goal.offset_bounds-self-number
offset_bounds-self-number c = omega (arith, small c)

pub bounds-self-number : goal.bounds-self-number
bounds-self-number c = (field_inside c.requires.is_field (c.number.ensures c.requires.table c.requires.is_field)).1

pub returns : goal.returns
returns c t h = count_is h (c.number.ensures t h)
