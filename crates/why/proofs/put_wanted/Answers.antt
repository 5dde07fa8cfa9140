use Rattle.std.proofs.Common.{refl, eq-eqb, ne_eqb}
use Rattle.stream.proofs.Items.{prints_then}
use Rattle.why.specs.Ascii.{ascii}
use Rattle.why.specs.Told.{wanted_text}
use Rattle.why.proofs.Told.{prints_after}
use Rattle.why.proofs.put_wanted.Goals as goal

pub returns-then-x-eq1 : goal.returns-then-x-eq1
unfolding ascii wanted_text
returns-then-x-eq1 c =
    rw (eq-eqb _ 1 c.if-x-eq1.true)
    (prints_then (prints_after ": wanted " refl c.put_after.ensures) (prints_after " word at " refl c.put_after-then-x-eq1.ensures))

pub returns : goal.returns
unfolding ascii wanted_text
returns c =
    rw (ne_eqb _ 1 c.if-x-eq1.false)
    (prints_then (prints_after ": wanted " refl c.put_after.ensures) (prints_after " words at " refl c.put_after-2.ensures))
