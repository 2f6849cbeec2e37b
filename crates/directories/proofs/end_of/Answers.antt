-- By the two tests.
use Rattle.std.proofs.Common.{le-ltb, lt-ltb, le-leb}
use borrow.Author.Tests.{lt-leb}
use Rattle.directories.specs.Space.{end_of}
use Rattle.directories.proofs.end_of.Goals as goal

pub returns-then-t-ge-TABLES : goal.returns-then-t-ge-TABLES
unfolding end_of
returns-then-t-ge-TABLES c = rw (le-ltb _ _ c.if-t-ge-TABLES.true)

pub returns-then-count-gt-ROOM : goal.returns-then-count-gt-ROOM
unfolding end_of
returns-then-count-gt-ROOM c = rw (lt-ltb _ _ c.if-t-ge-TABLES.false, lt-leb _ _ c.if-count-gt-ROOM.true)

pub returns : goal.returns
unfolding end_of
returns c = rw (lt-ltb _ _ c.if-t-ge-TABLES.false, le-leb _ _ c.if-count-gt-ROOM.false)
