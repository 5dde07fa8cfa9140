-- A type is one word, and a record's size stands in the list of the sizes.
use Rattle.lookups.proofs.Lookups.{size_type, size_inside, size_is}
use Rattle.lookups.proofs.Lists.size_of.Goals as goal

pub returns-then-x-lt-RECORD : goal.returns-then-x-lt-RECORD
returns-then-x-lt-RECORD c t h = size_type t _ c.if-x-lt-RECORD.true

pub bounds-self-x : goal.bounds-self-x
bounds-self-x c = size_inside c.requires.is_known c.if-x-lt-RECORD.false

pub returns : goal.returns
returns c t h = size_is h c.if-x-lt-RECORD.false
