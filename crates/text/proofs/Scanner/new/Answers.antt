use Rattle.text.proofs.Scanning.{scanned_none}
use Rattle.text.proofs.Scanner.new.Goals as goal

pub returns-clause-meets : goal.returns-clause-meets
returns-clause-meets c = scanned_none
