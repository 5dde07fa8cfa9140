use Rattle.std.proofs.Common.{◌∙◌, arith, sym, rules, ap, length}
use Rattle.console.proofs.Calls.{room, too_short, answers}
use Rattle.console.proofs.answer.Goals as goal

pub returns-then-not-has_room-clause-answers : goal.returns-then-not-has_room-clause-answers
returns-then-not-has_room-clause-answers c = too_short _ _ _ _ (sym c.has_room.ensures ∙ c.if-not-has_room.true)

pub print_request-requires : goal.print_request-requires
print_request-requires c =
    let has = room _ _ _ _ (sym c.has_room.ensures ∙ c.if-not-has_room.false) in
    let same = ap length c.new-out.ensures.value in
    (record { values = has.0; bases = has.1; ends = has.2 }, omega arith, c.new-out.ensures.start)

pub returns-clause-answers : goal.returns-clause-answers
returns-clause-answers c =
    answers _ _ _ _ (sym c.has_room.ensures ∙ c.if-not-has_room.false) c.finish-s.ensures c.finish-s.auto.numbers c.print_request.ensures.left
    c.print_request.ensures.printed c.new-out.ensures.value (search rules)
