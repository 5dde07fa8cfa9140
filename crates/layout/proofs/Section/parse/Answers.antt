-- Each requirement is a part of `section_fault`.
use Rattle.layout.proofs.Laws.{outcome_on}
use Rattle.layout.proofs.Sections.{count_missing, over_limit, cut_short, section_is}
use Rattle.layout.proofs.Section.parse.Goals as goal

pub returns-in_err-require : goal.returns-in_err-require
returns-in_err-require c s p w l =
    let on = c.from_residual in
    outcome_on on.result _ on.ensures.1 (count_missing _ s _ _ _ p w l c.in_err-require.ensures.faults)

pub returns-in_err-require-2 : goal.returns-in_err-require-2
returns-in_err-require-2 c s p w l =
    let on = c.from_residual-in_err-require-2 in
    outcome_on on.result _ on.ensures.1 (over_limit _ s _ _ _ p w l c.in_ok-require.ensures.faults c.in_err-require-2.ensures.faults)

pub returns-in_err-require-3 : goal.returns-in_err-require-3
returns-in_err-require-3 c s p w l =
    let on = c.from_residual-in_err-require-3 in
    outcome_on on.result _ on.ensures.1 (cut_short _ s _ _ _ p w l c.in_ok-require.ensures.faults c.in_ok-require-2.ensures.faults c.in_err-require-3.ensures.faults)

pub returns : goal.returns
returns c s p w l = section_is _ s _ _ _ p w l c.in_ok-require.ensures.faults c.in_ok-require-2.ensures.faults c.in_ok-require-3.ensures.faults
