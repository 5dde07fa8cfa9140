use Rattle.std.proofs.Common.{◌∙◌, sym}
use Rattle.text.proofs.Scanning.{longer_some, longer_none}
use Rattle.text.proofs.Scanner.take_digit.Goals as goal

pub returns-in-Some : goal.returns-in-Some
returns-in-Some c = c.longer.ensures ∙ longer_some _ _ _ (sym c.value.ensures ∙ c.in-Some.is)

pub returns-in-None : goal.returns-in-None
returns-in-None c = c.bad.ensures ∙ longer_none _ _ _ (sym c.value.ensures ∙ c.in-None.is)
