-- `nodes::Node::variable` meets its contract.
use Rattle.std.proofs.Common.{arith, sym, refl, ◌+◌}
use Rattle.semantics.specs.Table.{variable}
use Rattle.layout.proofs.Laws.{item_at}
use Rattle.nodes.proofs.Answers.{both_pass, first_failed, second_failed, typed}
use Rattle.nodes.proofs.Node.variable.Goals as goal

pub returns-in_err-require : goal.returns-in_err-require
returns-in_err-require c at = first_failed at variable _ _ c.from_residual.result _ c.from_residual.ensures.1 (rw c.requires.total at c.in_err-require.ensures.faults)

pub returns-in_err-require-2 : goal.returns-in_err-require-2
returns-in_err-require-2 c at =
    second_failed at variable _ _ c.from_residual-in_err-require-2.result _ c.from_residual-in_err-require-2.ensures.1 (sym (rw c.requires.total at c.in_ok-require.ensures.faults)) c.in_err-require-2.ensures.faults

pub returns : goal.returns
returns c at =
    typed at variable _ _ (both_pass (sym (rw c.requires.total at c.in_ok-require.ensures.faults)) (sym c.in_ok-require-2.ensures.faults)) refl
    (rw (item_at c.requires c.args.self.now.a 0 (c.args.variables.at + c.args.self.now.a) (omega arith)))
