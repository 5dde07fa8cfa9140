-- `nodes::Node::size` meets its contract.
use Rattle.std.proofs.Common.{sym, refl}
use Rattle.semantics.specs.Table.{size}
use Rattle.nodes.proofs.Answers.{both_pass, first_failed, second_failed, typed}
use Rattle.nodes.proofs.Node.size.Goals as goal

pub returns-in_err-require : goal.returns-in_err-require
returns-in_err-require c t hr hp at = first_failed at size _ _ c.from_residual.result _ c.from_residual.ensures.1 (rw (c.known_target.ensures t hr hp) at c.in_err-require.ensures.faults)

pub returns-in_err-require-2 : goal.returns-in_err-require-2
returns-in_err-require-2 c t hr hp at =
    second_failed at size _ _ c.from_residual-in_err-require-2.result _ c.from_residual-in_err-require-2.ensures.1 (sym (rw (c.known_target.ensures t hr hp) at c.in_ok-require.ensures.faults)) c.in_err-require-2.ensures.faults

pub returns : goal.returns
returns c t hr hp at = typed at size _ _ (both_pass (sym (rw (c.known_target.ensures t hr hp) at c.in_ok-require.ensures.faults)) (sym c.in_ok-require-2.ensures.faults)) refl refl
