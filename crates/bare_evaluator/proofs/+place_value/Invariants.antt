-- The node number falls at each call.
use Rattle.bare_evaluator.proofs.+place_value.Given as goal

abbrev pub decreases-place : goal.decreases-place
decreases-place l = l.n

abbrev pub decreases-value : goal.decreases-value
decreases-value l = l.n
