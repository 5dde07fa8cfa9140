-- `registers::start_of` meets its contract. Assumes nothing.
use Rattle.std.proofs.Common.{◌+◌, ◌∙◌, ap, arith}
use Rattle.semantics.specs.Words.{word}
use Rattle.semantics.specs.Registers.{register_count, register_start}
use Rattle.registers.specs.Blocks.{in_register, past_all}
use Rattle.registers.proofs.Lists.{of_list, start_none, start_more}
use Rattle.registers.proofs.start_of.Goals as goal

pub loop-register-init : goal.loop-register-init
loop-register-init c =
    let start = c.of-register-items.ensures in
    rw (c.into_iter-register-iterator.ensures.into_iter_gives, start.1) (record { list = start.0; at = start_none _ _; past = c.requires.1 })

pub returns-then-w-end : goal.returns-then-w-end
returns-then-w-end c =
    let inv = c.loop-register.invariant in
    let s = of_list c.in-Some.ensures.steps.0 inv.list in
    rw inv.at (in_register _ s.before_end (omega (arith, inv.at)) (omega (arith, inv.at, s.words, ap (λ q. word c.args.list.now (q + 1)) s.place)))

pub loop-register-preserved : goal.loop-register-preserved
loop-register-preserved c =
    let inv = c.loop-register.invariant in
    let step = c.in-Some.ensures.steps in
    let s = of_list step.0 inv.list in
    rw step.2 (record { list = step.1 ∙ inv.list; at = ap (c.loop-register.at +◌) s.words ∙ start_more _ _ _ s.place inv.at; past = c.if-w-end.false })

pub returns : goal.returns
returns c =
    let inv = c.loop-register.invariant in
    let all = c.in-None.ensures.steps.0 ∙ ap register_count inv.list in
    past_all (omega (arith, inv.at, ap (register_start c.args.first c.args.list.now) all))
