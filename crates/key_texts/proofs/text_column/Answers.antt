-- By the reason and the column.
use Rattle.key_texts.proofs.TextLaws.{key_other, key_name, key_same}
use Rattle.key_texts.proofs.text_column.Goals as goal

pub returns-then-reason-ne11 : goal.returns-then-reason-ne11
returns-then-reason-ne11 c = key_other _ _ c.if-reason-ne11.true

pub returns-then-column-eq-INTER : goal.returns-then-column-eq-INTER
returns-then-column-eq-INTER c = key_name _ _ c.if-reason-ne11.false c.if-column-eq-INTER.true

pub returns : goal.returns
returns c = key_same _ _ c.if-reason-ne11.false c.if-column-eq-INTER.false
