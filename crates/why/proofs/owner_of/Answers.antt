use Rattle.std.proofs.Common.{arith, ◌∙◌}
use Rattle.why.proofs.Owners.{in_variable, below_variables, above_variables}
use Rattle.why.proofs.owner_of.Goals as goal
use Rattle.why.proofs.owner_of.Goals.{else-w-ge1-via-then-w-ge1+else-w-variables, else-w-ge1-via-else-w-ge1}

pub returns-then-w-variables : goal.returns-then-w-variables
returns-then-w-variables c = in_variable _ _ _ (omega arith) (omega arith)

pub returns : goal.returns
returns c =
    c.owner_above.ensures
    ∙ elim c.else-w-ge1.branch [
      | else-w-ge1-via-then-w-ge1+else-w-variables w ↦ above_variables _ _ _ (omega arith) (omega arith)
      | else-w-ge1-via-else-w-ge1 w ↦ below_variables _ _ _ (omega arith)
    ]
