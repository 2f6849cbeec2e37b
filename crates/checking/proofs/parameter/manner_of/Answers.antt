-- Each part as it was asked.
use mathlib.Core.Path.{refl}
use Rattle.checking.proofs.parameter.manner_of.Goals as goal

pub returns : goal.returns
returns c = record {
  nbchck = refl;
  valid = c.validity-valid.ensures;
  scale = c.scale_under-scale.ensures.ys_after;
  long = c.scale_under-scale.ensures.xs_len;
}
