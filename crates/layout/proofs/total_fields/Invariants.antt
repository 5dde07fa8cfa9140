-- The sum is that of the records so far, each below 2 ^ 32.
use Rattle.std.proofs.Common.{◌≡◌, ◌≤◌, ◌*◌, ◌^◌}
use Rattle.semantics.specs.Table.{first_field}
use Rattle.layout.proofs.total_fields.Given as goal

abbrev pub invariant-loop-total : goal.invariant-loop-total
invariant-loop-total l = (l.sum ≡ first_field l.t l.total-index) × (l.sum ≤ l.total-index * 2 ^ 32)
