-- Each test that turns the numbers away is of a limit that they break.
use Rattle.std.proofs.Common.{arith, refl}
use Rattle.request.proofs.Demands.{of_refused, of_run}
use Rattle.request.proofs.Request.of.Goals as goal
use Rattle.request.proofs.Request.of.Goals.{then-numbers-count-via-then-numbers-count, then-numbers-count-via-else-numbers-count+then-count-lt2, then-memory-gt-MEMORY-via-then-memory-gt-MEMORY, then-memory-gt-MEMORY-via-else-memory-gt-MEMORY+then-inputs-gt-INPUTS, then-count-from-via-then-count-from, then-count-from-via-else-count-from+then-count-from-gt-TABLE}

pub returns-in-Bad : goal.returns-in-Bad
returns-in-Bad c = of_refused _ _ (λ z. z.good c.in-Bad.is)

pub returns-then-numbers-count : goal.returns-then-numbers-count
returns-then-numbers-count c =
    of_refused _ _
    (elim c.then-numbers-count.branch [ then-numbers-count-via-then-numbers-count w ↦ λ z. omega arith | then-numbers-count-via-else-numbers-count+then-count-lt2 w ↦ λ z. omega arith ])

pub returns-then-memory-gt-MEMORY : goal.returns-then-memory-gt-MEMORY
returns-then-memory-gt-MEMORY c =
    of_refused _ _
    (elim c.then-memory-gt-MEMORY.branch [ then-memory-gt-MEMORY-via-then-memory-gt-MEMORY w ↦ λ z. omega arith | then-memory-gt-MEMORY-via-else-memory-gt-MEMORY+then-inputs-gt-INPUTS w ↦ λ z. omega arith ])

pub returns-then-count-from : goal.returns-then-count-from
returns-then-count-from c =
    of_refused _ _
    (elim c.then-count-from.branch [ then-count-from-via-then-count-from w ↦ λ z. omega arith | then-count-from-via-else-count-from+then-count-from-gt-TABLE w ↦ λ z. omega arith ])

pub returns : goal.returns
returns c =
    of_run _ _ refl refl
    (record { good = c.in_default.not-Bad; count = omega arith; both = omega arith; memory = omega arith; inputs = omega arith; enough = omega arith; table = omega arith })
