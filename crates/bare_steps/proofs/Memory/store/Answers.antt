-- A word that the memory has is assigned, and no other.
use Rattle.std.proofs.Common.{refl, inl, inr, arith, length-set}
use Rattle.bare_steps.specs.Answers.{state_of}
use Rattle.bare_steps.proofs.Steps.{word_assigned, assign_stuck}
use Rattle.bare_steps.proofs.Memory.store.Goals as goal

pub returns-then-at-eq0-clause-stored : goal.returns-then-at-eq0-clause-stored
returns-then-at-eq0-clause-stored c = record { long = refl; meets = assign_stuck _ _ _ (inl c.if-at-eq0.true) }

pub returns-then-self-at-clause-stored : goal.returns-then-self-at-clause-stored
returns-then-self-at-clause-stored c = record { long = refl; meets = assign_stuck _ _ _ (inr (omega arith)) }

pub returns-clause-stored : goal.returns-clause-stored
returns-clause-stored c =
    let m = c.args.self.now.values.now in
    record { long = length-set m c.args.at c.args.v; meets = word_assigned (state_of c.args.self.now) c.args.at c.args.v (omega arith) (omega arith) }
