use Rattle.std.proofs.Common.{◌∙◌, sym}
use Rattle.text.proofs.Scanning.{takes_digit, takes_separator, takes_other}
use Rattle.text.proofs.take_byte.Goals as goal

pub returns-then-is_digit : goal.returns-then-is_digit
returns-then-is_digit c = takes_digit _ _ _ (sym c.is_digit.ensures ∙ c.if-is_digit.true) c.take_digit.ensures

pub returns-then-is_separator : goal.returns-then-is_separator
returns-then-is_separator c = takes_separator _ _ _ (sym c.is_separator.ensures ∙ c.if-is_separator.true) c.finish.ensures

pub returns : goal.returns
returns c = rw c.bad.ensures (takes_other _ _ _ (sym c.is_digit.ensures ∙ c.if-is_digit.false) (sym c.is_separator.ensures ∙ c.if-is_separator.false))
