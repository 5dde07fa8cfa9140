use Rattle.std.proofs.Common.{refl}
use Rattle.stream.proofs.Items.{prints_then}
use Rattle.why.specs.Ascii.{ascii}
use Rattle.why.specs.Told.{owner_text}
use Rattle.why.proofs.Told.{prints_after}
use Rattle.why.proofs.put_owner.Goals as goal

pub returns-in-Variable : goal.returns-in-Variable
unfolding ascii owner_text
returns-in-Variable c = rw c.in-Variable.is (prints_after "variable " refl c.put_after.ensures)

pub returns-in-Register : goal.returns-in-Register
unfolding ascii owner_text
returns-in-Register c =
    rw c.in-Register.is
    (prints_then (prints_after "register " refl c.put_after-in-Register.ensures)
    (prints_after " of variable " refl c.put_after-in-Register-2.ensures))

pub returns-in-Block : goal.returns-in-Block
unfolding ascii owner_text
returns-in-Block c = rw c.in-Block.is (prints_after "the block at " refl c.put_after-in-Block.ensures)
