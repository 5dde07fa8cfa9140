-- The child of a field is a pointer to one of the table's records.
use Rattle.std.proofs.Common.{arith}
use Rattle.lookups.proofs.Lookups.{item_inside, child_inside, pointer_type, record_target, record_is}
use Rattle.lookups.proofs.Lists.record.Goals as goal

pub child-requires : goal.child-requires
child-requires c = item_inside c.requires.is_field.lists c.requires.is_field.node 1 (omega arith)

pub type_of-requires : goal.type_of-requires
type_of-requires c = child_inside c.requires.is_field c.child.ensures

pub target-requires : goal.target-requires
target-requires c =
    let p = pointer_type c.requires.is_field c.child.ensures c.type_of.ensures in
    (record { table = c.requires.table; is_known = p.0 }, p.1)

pub overflow_sub-result : goal.overflow_sub-result
overflow_sub-result c =
    let h = c.requires.is_field in
    let e = c.child.ensures in
    let q = c.type_of.ensures in
    omega (arith, record_target h e q (c.target.ensures _ (pointer_type h e q).0))

pub returns : goal.returns
returns c t h =
    let e = c.child.ensures in
    let q = c.type_of.ensures in
    record_is h e q (c.target.ensures t (pointer_type h e q).0)
