-- `nodes::check_node` meets its contract.
use Rattle.std.proofs.Common.{arith, refl}
use Rattle.semantics.specs.Table.{kind_of, variable, deref, field, constant, sum, read, address, cast, size, malloc, copy, value, place}
use Rattle.nodes.proofs.Lookups.{few_records, few_pointers}
use Rattle.nodes.proofs.Sorts.{unknown_low, unknown_high}
use Rattle.nodes.proofs.Answers.{placed, noted, noted_read, unknown_noted, ready, child_ready, children_ready}
use Rattle.nodes.proofs.check_node.Goals as goal

pub enter-requires-clause-small : goal.enter-requires-clause-small
unfolding kind_of
enter-requires-clause-small c = let p = c.requires in ready p.0 variable (rw c.in-1.is) refl _ (c.variable-x.ensures (placed p.0)) p.2

pub returns-in-1 : goal.returns-in-1
unfolding kind_of
returns-in-1 c = let p = c.requires in noted p.0 variable (rw c.in-1.is) refl _ (c.variable-x.ensures (placed p.0)) (c.enter.ensures _) refl (λ q. refl)

pub with_child-requires-clause-small : goal.with_child-requires-clause-small
unfolding kind_of
with_child-requires-clause-small c = let p = c.requires in child_ready p.0 deref (rw c.in-2.is) refl _ c.deref-x.ensures p.2 value refl

pub returns-in-2 : goal.returns-in-2
unfolding kind_of
returns-in-2 c = let p = c.requires in noted p.0 deref (rw c.in-2.is) refl _ c.deref-x.ensures c.with_child.ensures refl (λ q. refl)

pub with_child-requires-in-3-clause-small : goal.with_child-requires-in-3-clause-small
unfolding kind_of
with_child-requires-in-3-clause-small c = let p = c.requires in child_ready p.0 field (rw c.in-3.is) refl _ c.field-x.ensures p.2 value refl

pub returns-in-3 : goal.returns-in-3
unfolding kind_of
returns-in-3 c = let p = c.requires in noted p.0 field (rw c.in-3.is) refl _ c.field-x.ensures c.with_child-in-3.ensures refl (λ q. refl)

pub enter-requires-in-4-clause-small : goal.enter-requires-in-4-clause-small
unfolding kind_of
enter-requires-in-4-clause-small c = let p = c.requires in ready p.0 constant (rw c.in-4.is) refl _ (c.constant.ensures _ (placed p.0)) p.2

pub returns-in-4 : goal.returns-in-4
unfolding kind_of
returns-in-4 c = let p = c.requires in noted p.0 constant (rw c.in-4.is) refl _ (c.constant.ensures _ (placed p.0)) (c.enter-in-4.ensures _) refl (λ q. refl)

pub with_children-requires-clause-small : goal.with_children-requires-clause-small
unfolding kind_of
with_children-requires-clause-small c = let p = c.requires in children_ready p.0 sum (rw c.in-5.is) refl _ (c.sum-x.ensures _ p.0) p.2 value refl refl

pub returns-in-5 : goal.returns-in-5
unfolding kind_of
returns-in-5 c = let p = c.requires in noted p.0 sum (rw c.in-5.is) refl _ (c.sum-x.ensures _ p.0) c.with_children.ensures refl (λ q. refl)

pub with_read-requires : goal.with_read-requires
unfolding kind_of
with_read-requires c = let p = c.requires in child_ready p.0 read (rw c.in-6.is) refl _ (c.read-x.ensures _ p.0) p.2 place refl

pub returns-in-6 : goal.returns-in-6
unfolding kind_of
returns-in-6 c = let p = c.requires in noted_read p.0 (rw c.in-6.is) (c.read-x.ensures _ p.0) c.with_read.ensures

pub with_child-requires-in-7-clause-small : goal.with_child-requires-in-7-clause-small
unfolding kind_of
with_child-requires-in-7-clause-small c = let p = c.requires in child_ready p.0 address (rw c.in-7.is) refl _ (c.address-x.ensures _ p.0 p.1.marks) p.2 place refl

pub returns-in-7 : goal.returns-in-7
unfolding kind_of
returns-in-7 c = let p = c.requires in noted p.0 address (rw c.in-7.is) refl _ (c.address-x.ensures _ p.0 p.1.marks) c.with_child-in-7.ensures refl (λ q. refl)

pub with_child-requires-in-8-clause-small : goal.with_child-requires-in-8-clause-small
unfolding kind_of
with_child-requires-in-8-clause-small c = let p = c.requires in child_ready p.0 cast (rw c.in-8.is) refl _ (c.cast-x.ensures _ p.0 p.1.pointers_stand.total) p.2 value refl

pub returns-in-8 : goal.returns-in-8
unfolding kind_of
returns-in-8 c = let p = c.requires in noted p.0 cast (rw c.in-8.is) refl _ (c.cast-x.ensures _ p.0 p.1.pointers_stand.total) c.with_child-in-8.ensures refl (λ q. refl)

pub enter-requires-in-9-clause-small : goal.enter-requires-in-9-clause-small
unfolding kind_of
enter-requires-in-9-clause-small c = let p = c.requires in ready p.0 size (rw c.in-9.is) refl _ (c.size.ensures _ p.1.record_count p.1.pointers_stand.total (placed p.0)) p.2

pub size-requires : goal.size-requires
size-requires c =
    let p = c.requires in
    omega (arith, p.1.record_count, p.1.pointers_stand.total, few_records p.0.noted_to.types_pass, few_pointers p.0.noted_to.types_pass, p.0.inside)

pub returns-in-9 : goal.returns-in-9
unfolding kind_of
returns-in-9 c = let p = c.requires in noted p.0 size (rw c.in-9.is) refl _ (c.size.ensures _ p.1.record_count p.1.pointers_stand.total (placed p.0)) (c.enter-in-9.ensures _) refl (λ q. refl)

pub with_child-requires-in-10-clause-small : goal.with_child-requires-in-10-clause-small
unfolding kind_of
with_child-requires-in-10-clause-small c = let p = c.requires in child_ready p.0 malloc (rw c.in-10.is) refl _ (c.malloc-x.ensures _ p.0) p.2 value refl

pub returns-in-10 : goal.returns-in-10
unfolding kind_of
returns-in-10 c = let p = c.requires in noted p.0 malloc (rw c.in-10.is) refl _ (c.malloc-x.ensures _ p.0) c.with_child-in-10.ensures refl (λ q. refl)

pub with_children-requires-in-11-clause-small : goal.with_children-requires-in-11-clause-small
unfolding kind_of
with_children-requires-in-11-clause-small c = let p = c.requires in children_ready p.0 copy (rw c.in-11.is) refl _ c.copy-x.ensures p.2 value refl refl

pub returns-in-11 : goal.returns-in-11
unfolding kind_of
returns-in-11 c = let p = c.requires in noted p.0 copy (rw c.in-11.is) refl _ c.copy-x.ensures c.with_children-in-11.ensures refl (λ q. refl)

pub returns-in_default-kind : goal.returns-in_default-kind
returns-in_default-kind c = unknown_noted c.requires.0 (unknown_low _ (omega arith))

pub returns-in_default : goal.returns-in_default
returns-in_default c = unknown_noted c.requires.0 (unknown_high _ (omega arith))
