-- `registers::place_registers` meets its contract. Assumes nothing.
use Rattle.std.proofs.Common.{arith, refl, ◌∙◌}
use Rattle.registers.proofs.Lists.{of_list}
use Rattle.registers.proofs.Places.{none_placed, one_more_placed, next_placeable}
use Rattle.registers.proofs.place_registers.Goals as goal

pub loop-register-init : goal.loop-register-init
loop-register-init c =
    let start = c.of-register-items.ensures in
    rw (c.into_iter-register-iterator.ensures.into_iter_gives, start.1) (record { list = start.0; placed = none_placed _ _ _; values_length = refl })

pub place_register-at-requires : goal.place_register-at-requires
place_register-at-requires c =
    let inv = c.loop-register.invariant in
    let s = of_list c.in-Some.ensures.steps.0 inv.list in
    next_placeable inv.placed c.requires s.before_end s.place inv.values_length

pub loop-register-preserved : goal.loop-register-preserved
loop-register-preserved c =
    let inv = c.loop-register.invariant in
    let step = c.in-Some.ensures.steps in
    let s = of_list step.0 inv.list in
    rw step.2 (record { list = step.1 ∙ inv.list; placed = one_more_placed inv.placed s.place c.place_register-at.ensures; values_length = omega arith })
