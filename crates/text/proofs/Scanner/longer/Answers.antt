use Rattle.std.proofs.Common.{◌∙◌, arith, sym}
use Rattle.text.proofs.Scanning.{longer_good, refused_value, digit_bounds}
use Rattle.text.proofs.Scanner.longer.Goals as goal

pub overflow_sub-value : goal.overflow_sub-value
overflow_sub-value c = (digit_bounds _ c.requires).0

pub returns-then-value-gt-MAX : goal.returns-then-value-gt-MAX
returns-then-value-gt-MAX c = c.bad.ensures ∙ sym (refused_value _ _ _ (omega arith))

pub returns : goal.returns
returns c = sym (longer_good _ _ _ c.requires (omega arith))
