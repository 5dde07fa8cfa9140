-- A field's record, where its fields begin, and the field among them.
use Rattle.std.proofs.Common.{arith}
use Rattle.lookups.proofs.Lookups.{item_inside, record_inside, field_number}
use Rattle.lookups.proofs.Lists.number.Goals as goal

pub offset_bounds-self-record : goal.offset_bounds-self-record
offset_bounds-self-record c =
    let h = record_inside c.requires.is_field (c.record.ensures c.requires.table c.requires.is_field) in
    omega arith

pub bounds-self-record : goal.bounds-self-record
bounds-self-record c = (record_inside c.requires.is_field (c.record.ensures c.requires.table c.requires.is_field)).1

pub child-requires : goal.child-requires
child-requires c = item_inside c.requires.is_field.lists c.requires.is_field.node 2 (omega arith)

pub overflow_add-result : goal.overflow_add-result
overflow_add-result c =
    let p = c.requires in
    omega (arith, (field_number p.is_field (c.record.ensures p.table p.is_field) c.child.ensures).0)

pub returns : goal.returns
returns c t h = (field_number h (c.record.ensures t h) c.child.ensures).1
