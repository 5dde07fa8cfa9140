-- A record's target is no type.
use Rattle.layout.proofs.Types.{target_by_record}
use Rattle.layout.proofs.known_target.Goals as goal

pub returns-else-x-lt-RECORD : goal.returns-else-x-lt-RECORD
returns-else-x-lt-RECORD c t r p = target_by_record t _ _ _ p r c.requires.1 c.if-x-lt-RECORD.false
