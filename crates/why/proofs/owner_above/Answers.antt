use Rattle.std.proofs.Common.{◌+◌, ◌∙◌, arith, ap}
use Rattle.semantics.specs.Words.{word}
use Rattle.semantics.specs.Registers.{register_count}
use Rattle.registers.proofs.Lists.{of_list, start_none, start_more}
use Rattle.why.proofs.Owners.{past_none, past_more, in_register, past_all}
use Rattle.why.proofs.owner_above.Goals as goal

pub loop-register-init : goal.loop-register-init
loop-register-init c =
    let start = c.of-register-items.ensures in
    rw (c.into_iter-register-iterator.ensures.into_iter_gives, start.1) (record { list = start.0; end = start_none _ _; room = omega arith; past = past_none _ _ _ })

pub returns-then-w-end : goal.returns-then-w-end
returns-then-w-end c =
    let inv = c.loop-register.invariant in
    let s = of_list c.in-Some.ensures.steps.0 inv.list in
    let e = ap (c.loop-register.end +◌) s.words ∙ start_more _ _ _ s.place inv.end in
    rw s.number (in_register _ _ _ _ inv.past s.before_end (omega (arith, e, c.if-w-end.true)) (s.variable ∙ ap (word c.args.list.now) s.place))

pub loop-register-preserved : goal.loop-register-preserved
loop-register-preserved c =
    let inv = c.loop-register.invariant in
    let step = c.in-Some.ensures.steps in
    let s = of_list step.0 inv.list in
    let e = ap (c.loop-register.end +◌) s.words ∙ start_more _ _ _ s.place inv.end in
    rw step.2
    (record {
      list = step.1 ∙ inv.list;
      end = e;
      room = omega (arith, c.if-w-end.false);
      past = past_more _ _ _ _ inv.past (omega (arith, e, c.if-w-end.false));
    })

pub returns : goal.returns
returns c =
    let inv = c.loop-register.invariant in
    let all = c.in-None.ensures.steps.0 ∙ ap register_count inv.list in
    past_all _ _ _ (rw all at inv.past)
