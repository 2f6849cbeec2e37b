-- By the first naming, or the second.
use Rattle.named_rows.proofs.NameLaws.{named_first, named_second}
use Rattle.named_rows.proofs.names.Goals as goal

pub returns-then-holds_asked : goal.returns-then-holds_asked
returns-then-holds_asked c = named_first _ _ _ _ _ _ c.half.ensures _ c.holds_asked.ensures c.if-holds_asked.true

pub returns : goal.returns
returns c = named_second _ _ _ _ _ _ c.half.ensures _ c.holds_asked.ensures
    c.if-holds_asked.false _ c.half-2.ensures _ c.holds_asked-2.ensures
