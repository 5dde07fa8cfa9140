-- `nodes::Node::constant` meets its contract.
use Rattle.std.proofs.Common.{sym, refl}
use Rattle.semantics.specs.Table.{constant}
use Rattle.nodes.proofs.Answers.{both_pass, second_failed, typed}
use Rattle.nodes.proofs.Node.constant.Goals as goal

pub returns-in_err-require : goal.returns-in_err-require
returns-in_err-require c t at = second_failed at constant _ _ c.from_residual.result _ c.from_residual.ensures.1 refl c.in_err-require.ensures.faults

pub returns : goal.returns
returns c t at = typed at constant _ _ (both_pass refl (sym c.in_ok-require.ensures.faults)) refl refl
