-- A field's number is within the list of the offsets.
use Rattle.std.proofs.Common.{arith}
use Rattle.lookups.proofs.Lookups.{field_inside, offset_is}
use Rattle.lookups.proofs.Lists.offset.Goals as goal

pub offset_bounds-self-number : goal.offset_bounds-self-number
offset_bounds-self-number c =
    let h = field_inside c.requires.is_field (c.number.ensures c.requires.table c.requires.is_field) in
    omega arith

pub bounds-self-number : goal.bounds-self-number
bounds-self-number c = (field_inside c.requires.is_field (c.number.ensures c.requires.table c.requires.is_field)).2

pub returns : goal.returns
returns c t h = offset_is h (c.number.ensures t h)
