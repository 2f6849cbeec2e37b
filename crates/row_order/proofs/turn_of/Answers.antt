-- By the reason.
use Rattle.row_order.proofs.TurnLaws.{turn_good, turn_formed, turn_naming, turn_digit, turn_keyed}
use Rattle.row_order.proofs.turn_of.Goals as goal

pub returns-then-reason-lt1 : goal.returns-then-reason-lt1
returns-then-reason-lt1 c = turn_good _ c.if-reason-lt1.true

pub returns-then-reason-lt9 : goal.returns-then-reason-lt9
returns-then-reason-lt9 c = turn_formed _ c.if-reason-lt1.false c.if-reason-lt9.true

pub returns-then-reason-eq11 : goal.returns-then-reason-eq11
returns-then-reason-eq11 c = turn_naming _ c.if-reason-lt1.false c.if-reason-lt9.false c.if-reason-eq11.true

pub returns-then-reason-gt12 : goal.returns-then-reason-gt12
returns-then-reason-gt12 c = turn_digit _ c.if-reason-lt1.false c.if-reason-lt9.false c.if-reason-eq11.false c.if-reason-gt12.true

pub returns : goal.returns
returns c = turn_keyed _ c.if-reason-lt1.false c.if-reason-lt9.false c.if-reason-eq11.false c.if-reason-gt12.false
