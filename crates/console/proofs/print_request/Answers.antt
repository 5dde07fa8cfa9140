use Rattle.std.proofs.Common.{arith}
use Rattle.console.proofs.Calls.{parts, left_by_run, printed_by_run, left_by_input, printed_by_input}
use Rattle.console.proofs.print_request.Goals as goal

pub run_request-requires-clause-parts : goal.run_request-requires-clause-parts
run_request-requires-clause-parts c = let p = parts _ _ c.of.ensures c.in-Some.is in (p.two, p.upto, p.count)

pub run_request-requires-clause-memory : goal.run_request-requires-clause-memory
run_request-requires-clause-memory c =
    let most = (parts _ _ c.of.ensures c.in-Some.is).most in
    let holds = c.requires.0 in
    let v = holds.values in
    let b = holds.bases in
    let e = holds.ends in
    (most, omega arith, omega arith, omega arith)

pub returns-in-Some-clause-left : goal.returns-in-Some-clause-left
returns-in-Some-clause-left c = left_by_run _ _ c.of.ensures c.in-Some.is c.run_request.ensures

pub returns-in-Some-clause-printed : goal.returns-in-Some-clause-printed
returns-in-Some-clause-printed c = printed_by_run _ _ c.of.ensures c.in-Some.is c.requires.0 c.run_request.ensures

pub returns-in-None-clause-left : goal.returns-in-None-clause-left
returns-in-None-clause-left c = left_by_input _ _ c.of.ensures c.in-None.is

pub returns-in-None-clause-printed : goal.returns-in-None-clause-printed
returns-in-None-clause-printed c = printed_by_input _ _ c.of.ensures c.in-None.is (omega arith) (omega arith) c.put_bytes.ensures
