-- The cycle of readings and validity: the measure of validity is twice the rows that are left,
-- and that of a reading one more.
use Prim.Native.Nat.{◌+◌, ◌*◌}
use Rattle.readings.proofs.along.+read_along_valid_along.Given as goal

abbrev pub decreases-read_along : goal.decreases-read_along
decreases-read_along l = 2 * l.left + 1

abbrev pub decreases-valid_along : goal.decreases-valid_along
decreases-valid_along l = 2 * l.left
