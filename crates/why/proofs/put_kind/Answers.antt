use Rattle.std.proofs.Common.{refl, ne_eqb, arith}
use Rattle.why.specs.Ascii.{ascii}
use Rattle.why.specs.Told.{kind_text}
use Rattle.why.proofs.Told.{prints_text}
use Rattle.why.proofs.put_kind.Goals as goal

pub returns-in-11 : goal.returns-in-11
unfolding ascii kind_text
returns-in-11 c = rw c.in-11.is (prints_text " (a copy)" refl c.put_bytes.ensures)

pub returns-in-3 : goal.returns-in-3
unfolding ascii kind_text
returns-in-3 c = rw c.in-3.is (prints_text " (a field)" refl c.put_bytes-in-3.ensures)

pub returns-in_default : goal.returns-in_default
unfolding ascii kind_text
returns-in_default c = rw (ne_eqb c.args.kind 11 (λ e. omega arith), ne_eqb c.args.kind 3 (λ e. omega arith)) (prints_text " (a follow)" refl c.put_bytes-in_default.ensures)
