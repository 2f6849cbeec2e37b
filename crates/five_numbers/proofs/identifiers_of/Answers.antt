-- The row is found, and its fields are read.
use Rattle.outcomes.specs.Refusals.{said}
use Rattle.five_numbers.proofs.PicLaws.{no_fields, row_fields}
use Rattle.five_numbers.proofs.identifiers_of.Goals as goal

pub returns-then-at-eq0 : goal.returns-then-at-eq0
unfolding said
returns-then-at-eq0 c = no_fields _ _ _ _ (c.find_pic-at.ensures _) c.if-at-eq0.true

pub returns : goal.returns
returns c = row_fields _ _ _ _ (c.find_pic-at.ensures _) c.if-at-eq0.false c.pic_at.ensures c.read_fields.ensures
