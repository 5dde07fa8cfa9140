-- `registers::check_names` meets its contract. Assumes nothing.
use Rattle.std.proofs.Common.{refl, ap, ◌∙◌}
use Rattle.semantics.specs.Words.{word}
use Rattle.semantics.specs.Check.{each}
use Rattle.layout.proofs.Laws.{each_more, each_refuses, verdict_on}
use Rattle.registers.proofs.Lists.{unmet_as, of_list, none_marked, one_marked, has_mark, no_pointer, named_again, name_passes}
use Rattle.registers.proofs.check_names.Goals as goal

pub loop-register-init : goal.loop-register-init
unfolding each
loop-register-init c =
    let start = c.of-register-items.ensures in
    rw (c.into_iter-register-iterator.ensures.into_iter_gives, start.1) (record { list = start.0; pass = refl; marked = none_marked _ })

pub returns-in_err-require : goal.returns-in_err-require
returns-in_err-require c =
    let inv = c.loop-register.invariant in
    let s = of_list c.in-Some.ensures.steps.0 inv.list in
    let no = c.in_err-require.ensures in
    verdict_on c.from_residual.result _ c.from_residual.ensures.1
    (unmet_as _ 14 _ no.faults no.unmet (each_refuses _ _ inv.pass _ s.before_end (no_pointer _ _ _ s.place s.variable c.names_pointer-known.ensures no.unmet)))

pub bounds-named-k : goal.bounds-named-k
bounds-named-k c = has_mark c.requires.0 c.names_pointer-known.ensures c.in_ok-require.ensures.met

pub returns-in_err-require-2 : goal.returns-in_err-require-2
returns-in_err-require-2 c =
    let inv = c.loop-register.invariant in
    let s = of_list c.in-Some.ensures.steps.0 inv.list in
    let no = c.in_err-require-2.ensures in
    let on = c.from_residual-in_err-require-2 in
    let known = has_mark c.requires.0 c.names_pointer-known.ensures c.in_ok-require.ensures.met in
    verdict_on on.result _ on.ensures.1
    (unmet_as _ 14 _ no.faults no.unmet (each_refuses _ _ inv.pass _ s.before_end (named_again _ _ _ s.place s.variable c.names_pointer-known.ensures inv.marked known no.unmet)))

pub bounds-named-k-in-loop-register : goal.bounds-named-k-in-loop-register
bounds-named-k-in-loop-register c = has_mark c.requires.0 c.names_pointer-known.ensures c.in_ok-require.ensures.met

pub loop-register-preserved : goal.loop-register-preserved
loop-register-preserved c =
    let inv = c.loop-register.invariant in
    let step = c.in-Some.ensures.steps in
    let s = of_list step.0 inv.list in
    let known = has_mark c.requires.0 c.names_pointer-known.ensures c.in_ok-require.ensures.met in
    rw step.2
    (record {
      list = step.1 ∙ inv.list;
      pass = each_more _ _ inv.pass (name_passes _ _ _ s.place s.variable c.names_pointer-known.ensures inv.marked known c.in_ok-require.ensures.met c.in_ok-require-2.ensures.met);
      marked = one_marked inv.marked (s.variable ∙ ap (word c.args.list.now) s.place) known;
    })
