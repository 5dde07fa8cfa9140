-- `registers::set_registers` meets its contract. Assumes nothing.
use Rattle.std.proofs.Common.{arith, refl, ◌∙◌}
use Rattle.registers.proofs.Lists.{of_list}
use Rattle.registers.proofs.Blocks.{none_set, one_more_set, next_fits}
use Rattle.registers.proofs.set_registers.Goals as goal

pub loop-register-init : goal.loop-register-init
loop-register-init c =
    let start = c.of-register-items.ensures in
    rw (c.into_iter-register-iterator.ensures.into_iter_gives, start.1) (record { list = start.0; set = none_set _ _ _ _ _; values_length = refl; bases_length = refl; ends_length = refl })

pub set_register-at-requires : goal.set_register-at-requires
set_register-at-requires c =
    let inv = c.loop-register.invariant in
    let s = of_list c.in-Some.ensures.steps.0 inv.list in
    next_fits inv.set c.requires s.before_end s.place inv.values_length inv.bases_length inv.ends_length

pub loop-register-preserved : goal.loop-register-preserved
loop-register-preserved c =
    let inv = c.loop-register.invariant in
    let step = c.in-Some.ensures.steps in
    let s = of_list step.0 inv.list in
    rw step.2 (record { list = step.1 ∙ inv.list; set = one_more_set inv.set s.place c.set_register-at.ensures; values_length = omega arith; bases_length = omega arith; ends_length = omega arith })
