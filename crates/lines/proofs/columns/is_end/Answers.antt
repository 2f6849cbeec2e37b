-- The tests are those of the definition.
use Rattle.lines.proofs.columns.is_end.Goals as goal

pub returns-then-feeds : goal.returns-then-feeds
returns-then-feeds c = rw c.if-feeds.true
