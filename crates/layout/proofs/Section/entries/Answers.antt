-- The entries are the pieces of the words from its first on.
use Rattle.layout.proofs.Entries.{entry_at}
use Rattle.layout.proofs.Section.entries.Goals as goal

pub returns-clause-same : goal.returns-clause-same
returns-clause-same g c = entry_at g.row.N c.args.self.at c.args.self.count c.args.t.now c.requires.0 c.requires.1 c.as_chunks.ensures.front
