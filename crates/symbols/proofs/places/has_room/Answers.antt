use borrow.Author.Tests.{lt-ltb, le-ltb}
use Rattle.symbols.specs.Arrays.{has_space}
use Rattle.symbols.proofs.places.has_room.Goals as goal

pub returns-then-n-words : goal.returns-then-n-words
unfolding has_space
returns-then-n-words c = rw (lt-ltb _ _ c.if-n-lt65535.true, lt-ltb _ _ c.if-n-words.true)

pub returns-then-n-lt65535 : goal.returns-then-n-lt65535
unfolding has_space
returns-then-n-lt65535 c = rw (lt-ltb _ _ c.if-n-lt65535.true, le-ltb _ _ c.if-n-words.false)

pub returns : goal.returns
unfolding has_space
returns c = rw (le-ltb _ _ c.if-n-lt65535.false)
