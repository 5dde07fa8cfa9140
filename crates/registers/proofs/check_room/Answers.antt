-- `registers::check_room` meets its contract. Assumes nothing.
use Rattle.std.proofs.Common.{◌+◌, ◌∙◌, ap, sym, refl, arith, leb-true}
use Rattle.semantics.specs.Check.{each}
use Rattle.semantics.proofs.Registers.{register_inside}
use Rattle.layout.proofs.Laws.{each_more, each_refuses, verdict_on}
use Rattle.registers.proofs.Lists.{of_list, start_none, start_more, room_by}
use Rattle.registers.proofs.check_room.Goals as goal

pub loop-register-init : goal.loop-register-init
unfolding each
loop-register-init c =
    let start = c.of-register-items.ensures in
    rw (c.into_iter-register-iterator.ensures.into_iter_gives, start.1) (record { list = start.0; end = start_none _ _; room = c.requires.1; pass = refl })

pub overflow_add-register : goal.overflow_add-register
overflow_add-register c =
    let s = of_list c.in-Some.ensures.steps.0 c.loop-register.invariant.list in
    omega (arith, s.place, register_inside c.requires.0 _ s.before_end)

pub returns-in_err-require : goal.returns-in_err-require
returns-in_err-require c =
    let inv = c.loop-register.invariant in
    let s = of_list c.in-Some.ensures.steps.0 inv.list in
    let e = ap (c.loop-register.end +◌) s.words ∙ start_more _ _ _ s.place inv.end in
    verdict_on c.from_residual.result _ c.from_residual.ensures.1 (each_refuses _ _ inv.pass _ s.before_end (sym (room_by _ _ _ _ s.place e) ∙ sym c.in_err-require.ensures.faults))

pub loop-register-preserved : goal.loop-register-preserved
loop-register-preserved c =
    let inv = c.loop-register.invariant in
    let step = c.in-Some.ensures.steps in
    let s = of_list step.0 inv.list in
    let e = ap (c.loop-register.end +◌) s.words ∙ start_more _ _ _ s.place inv.end in
    rw step.2
    (record {
      list = step.1 ∙ inv.list;
      end = e;
      room = leb-true _ _ c.in_ok-require.ensures.met;
      pass = each_more _ _ inv.pass (sym (room_by _ _ _ _ s.place e) ∙ sym c.in_ok-require.ensures.faults);
    })
