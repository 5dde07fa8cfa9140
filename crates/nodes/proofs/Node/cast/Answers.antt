-- `nodes::Node::cast` meets its contract.
use Rattle.std.proofs.Common.{sym, refl}
use Rattle.semantics.specs.Table.{cast}
use Rattle.nodes.proofs.Answers.{both_pass, first_failed, second_failed, typed, placed}
use Rattle.nodes.proofs.Node.cast.Goals as goal

pub returns-in_err-require : goal.returns-in_err-require
returns-in_err-require c t p q = first_failed (placed p) cast _ _ c.from_residual.result _ c.from_residual.ensures.1 (rw (c.is_child.ensures.sorted _ p.noted_to) at c.in_err-require.ensures.faults)

pub returns-in_err-require-2 : goal.returns-in_err-require-2
returns-in_err-require-2 c t p q =
    second_failed (placed p) cast _ _ c.from_residual-in_err-require-2.result _ c.from_residual-in_err-require-2.ensures.1 (sym (rw (c.is_child.ensures.sorted _ p.noted_to) at c.in_ok-require.ensures.faults))
    (rw (c.known_type.ensures t q) at c.in_err-require-2.ensures.faults)

pub returns : goal.returns
returns c t p q = typed (placed p) cast _ _ (both_pass (sym (rw (c.is_child.ensures.sorted _ p.noted_to) at c.in_ok-require.ensures.faults)) (sym (rw (c.known_type.ensures t q) at c.in_ok-require-2.ensures.faults))) refl refl
