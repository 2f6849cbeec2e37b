-- What was gathered of a parameter makes the values that are checked.
use mathlib.Core.Path.{◌≡◌, refl}
use mathlib.Core.List.{List}
use Prim.Native.Nat.{ℕ}
use lib.IntN.{ℤ}
use Rattle.name_bytes.specs.declared.Name.{Name}
use Rattle.decoding.specs.Records.{plf_row, pcf_row}
use Rattle.rows.specs.declared.letters.LimitValue.{LimitValue}
use Rattle.rows.specs.declared.letters.LimitValue.TheVariants.{Raw, Engineering}
use Rattle.rows.specs.declared.records.OptionalCurve.{OptionalCurve}
use Rattle.rows.specs.declared.records.OcfRow.{OcfRow}
use Rattle.rows.specs.declared.records.PcfRow.{PcfRow}
use Rattle.outcomes.specs.Outcome.{Outcome, refused, answer, and_then}
use Rattle.database.specs.Rows.{Rows}
use Rattle.raw_values.specs.RawValues.{raw_of}
use Rattle.parameters.specs.Located.{Located, by_lines}
use Rattle.readings.specs.Readings.{validity}
use Rattle.curve_values.specs.Scale.{Scale, scale_of, scale_in}
use Rattle.curve_values.specs.declared.scale.Scale.TheVariants.{AsRead}
use Rattle.severity.specs.Checks.{Check}
use Rattle.announced.specs.declared.Progress.{Progress}
use Rattle.applying.specs.Checks.{applying}
use Rattle.occurrences.specs.Values.{occurrences_from, raws_of, values_on, scale_under, values_of}
use Rattle.occurrences.specs.Progress.{progress_by, checked_by, checked_of}
use Rattle.checking.specs.Manner.{MannerOf}
use Rattle.occurrences.specs.declared.Manner.{Manner}

then_then : {A B C : Type 0} (o : Outcome A) (f : A → Outcome B) (g : B → Outcome C) → and_then o (λ a. and_then (f a) g) ≡ and_then (and_then o f) g
unfolding and_then
then_then (refused n place) f g = refl
then_then (answer a) f g = refl

module _ (rows : Rows) (p : List ℕ) (spid : ℕ) (ocf : OcfRow) (progress : Progress) where
  -- by its manner, and any checks
  pub manner_checked : (checks : List Check) (place kind : List ℕ) {pcf : PcfRow} {manner : Manner} {xs ys : List ℤ}
      → pcf ≡ pcf_row kind → MannerOf rows p spid ocf pcf manner xs ys
      → checked_by (raw_of p (plf_row place) pcf) (plf_row place).nbocc (scale_in manner.scale xs ys) manner.valid checks manner.nbchck progress
      ≡ and_then (values_of rows p spid ocf (by_lines place kind)) (λ values. answer (progress_by checks ocf.nbchck progress values))
  unfolding checked_by values_of by_lines
  manner_checked checks place kind k m =
      rw (m.scale, m.valid, m.nbchck, k)
      (then_then (raws_of (raw_of p (plf_row place) (pcf_row kind)) (occurrences_from 0 (plf_row place).nbocc))
      (values_on (scale_under rows ocf.inter (pcf_row kind).curtx) (validity rows p spid (pcf_row kind)))
      (λ values. answer (progress_by checks ocf.nbchck progress values)))

  -- by the checks that apply
  pub applying_checked : (name : Name) (at : Located) {checks : List Check} → checks ≡ applying rows p spid name
      → and_then (values_of rows p spid ocf at) (λ values. answer (progress_by checks ocf.nbchck progress values)) ≡ checked_of rows p spid name ocf progress at
  unfolding checked_of
  applying_checked name at c = rw c

module _ (rows : Rows) (inter : LimitValue) (curtx : OptionalCurve) where
  pub under_raw : (xs ys : List ℤ) → inter ≡ Raw → scale_in AsRead xs ys ≡ scale_under rows inter curtx
  unfolding scale_in scale_under
  under_raw xs ys e = rw e

  pub under_engineering : {scale : Scale} → inter ≡ Engineering → scale ≡ scale_of rows curtx → scale ≡ scale_under rows inter curtx
  unfolding scale_under
  under_engineering e h = rw e h
