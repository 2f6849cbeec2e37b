-- `calibration::curve::point` meets its contract.
use Rattle.laws.proofs.Words.{kept}
use Rattle.calibration.specs.Curve.{point_numbered}
use Rattle.calibration.proofs.curve.point.Goals as goal

pub returns : goal.returns
unfolding point_numbered
returns c = rw (kept c.item.type_inv c.item.ensures, kept c.item-2.type_inv c.item-2.ensures)
