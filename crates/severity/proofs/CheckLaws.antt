-- A value against the limits of a check, test by test.
use mathlib.Core.Path.{◌≡◌}
use mathlib.Core.Bool.{Bool, true, false}
use lib.IntN.{ℤ}
use lib.Signed.{lt_z}
use Rattle.severity.specs.Violations.{is_violated}

module _ (lvalu hvalu value : ℤ) where
  pub violated_below : lt_z value lvalu ≡ true → true ≡ is_violated lvalu hvalu value
  unfolding is_violated
  violated_below h = rw h

  pub violated_above : (b : Bool) → lt_z value lvalu ≡ false → b ≡ lt_z hvalu value → b ≡ is_violated lvalu hvalu value
  unfolding is_violated
  violated_above b h e = rw h e
