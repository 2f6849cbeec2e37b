-- 01: "Invalid readings change nothing": an accepted packet in which the parameter is invalid keeps run and announced.
use mathlib.Core.Path.{◌≡◌, ap}
use mathlib.Core.Bool.{Bool, false}
use mathlib.Core.List.{List, []}
use Prim.Native.Nat.{ℕ}
use lib.IntN.{ℤ}
use Rattle.laws.proofs.Cases.{false≢true}
use Rattle.outcomes.specs.Outcome.{Outcome, refused, answer, and_then}
use Rattle.database.specs.Rows.{Rows}
use Rattle.raw_values.specs.RawValues.{raw_of}
use Rattle.readings.specs.Readings.{validity}
use Rattle.curve_values.specs.Scale.{Scale}
use Rattle.announced.specs.Announced.{after_readings}
use Rattle.limit_state.specs.declared.state.LimitState.{LimitState}
use Rattle.occurrences.specs.Values.{occurrences_from, raws_of, values_on, values_of}
use Rattle.occurrences.specs.Progress.{progress_by}
use Rattle.accepting.specs.Accepted.{progress_of, accepted}
use Rattle.stepping.specs.Step.{step_by}
use Rattle.stepping.proofs.AcceptedLaws.{Accepted}

-- an invalid parameter has no values
none_valued : (scale : Scale) (valid : Bool) {values : List ℤ} (raws : Outcome (List ℤ)) → valid ≡ false
    → and_then raws (values_on scale valid) ≡ answer values → values ≡ []
unfolding values_on and_then
none_valued scale valid (refused n place) v e = absurd (false≢true cc)
none_valued scale valid (answer zs) v e = let h = rw v at e in cc

module _ {rows : Rows} {p name : List ℕ} {s t : LimitState} (a : Accepted rows p name s t) (v : validity rows p a.identity.spid a.at.pcf ≡ false) where
  no_values : a.values ≡ []
  unfolding values_of
  no_values = none_valued _ _ (raws_of (raw_of p a.at.plf a.at.pcf) (occurrences_from 0 a.at.plf.nbocc)) v a.valued

  -- by the rows that the step finds
  pub invalid_kept : (t.run ≡ s.run) × (t.announced ≡ s.announced)
  unfolding step_by accepted progress_by progress_of after_readings
  invalid_kept = let e = rw no_values at a.left in (ap (λ (x : LimitState). x.run) e, ap (λ (x : LimitState). x.announced) e)
