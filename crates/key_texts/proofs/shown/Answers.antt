-- By the byte.
use Rattle.key_texts.proofs.TextLaws.{shown_low, shown_high, shown_plain}
use Rattle.key_texts.proofs.shown.Goals as goal

pub returns-then-b-lt32 : goal.returns-then-b-lt32
returns-then-b-lt32 c = shown_low _ c.if-b-lt32.true

pub returns-then-b-gt126 : goal.returns-then-b-gt126
returns-then-b-gt126 c = shown_high _ c.if-b-lt32.false c.if-b-gt126.true

pub returns : goal.returns
returns c = shown_plain _ c.if-b-lt32.false c.if-b-gt126.false
