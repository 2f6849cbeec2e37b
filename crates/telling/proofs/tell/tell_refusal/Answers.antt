-- What its two parts say; of eight values none is taken.
use mathlib.Core.Path.{ap₂}
use Rattle.telling.specs.Answers.{told_plainly, refused_with}
use Rattle.telling.proofs.tell.tell_refusal.Goals as goal

pub returns : goal.returns
unfolding told_plainly
returns c = ap₂ refused_with c.number_of-number.ensures c.place_of-place.ensures
