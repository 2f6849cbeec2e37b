-- How an engineering value comes from the raw one, where it is a number.
use Rattle.std.specs.Prelude.{◌≡◌, refl, false, cond, List, [], ℤ, pos}
use Rattle.std.proofs.Math.Option.{Option}
use Rattle.name_bytes.specs.Names.{curve_name_of}
use Rattle.rows.specs.declared.records.OptionalCurve.{OptionalCurve}
use Rattle.outcomes.specs.Outcome.{Outcome, answer}
use Rattle.verdicts.specs.Key.{curve}
use Rattle.database.specs.Rows.{Row, Rows}
use Rattle.database.specs.GoodRows.{among}
use Rattle.curve_points.specs.Curves.{Curve, curve_of}
use Rattle.curve_values.specs.Along.{along}
use Rattle.curve_points.specs.Points.{curve_in, points_of}
use Rattle.curve_values.specs.declared.scale.Scale as code
use Rattle.curve_values.specs.declared.scale.Scale.TheVariants.{AsRead, Along}

pub data Scale : Type 0 where
  as_read : Scale
  on_curve : Option Curve → Scale

-- 01: "N without CURTX and T answer the raw value"
unfoldable pub scale_of : Rows → OptionalCurve → Scale
scale_of rows curtx = cond curtx.given (on_curve (curve_of rows curtx.name)) as_read

-- the rows of its curve's points
unfoldable pub point_rows : Rows → OptionalCurve → List Row
point_rows rows curtx = cond curtx.given (rows.members (curve curtx.name)) []

unfoldable pub on_scale : Scale → ℤ → Outcome ℤ
on_scale as_read raw = answer raw
on_scale (on_curve c) raw = along c raw

-- the scale whose curve stands in lent arrays
unfoldable pub scale_in : code.Scale → (xs ys : List ℤ) → Scale
scale_in AsRead xs ys = as_read
scale_in (Along points) xs ys = on_curve (curve_in points xs ys)

-- what `gather_scale` answers
unfoldable pub scale_by : Rows → OptionalCurve → code.Scale
scale_by rows curtx = cond curtx.given (Along (points_of rows curtx.name)) AsRead

example : on_scale (scale_of (among []) (record { given = false; name = curve_name_of [] })) (pos 7) ≡ answer (pos 7)
unfolding on_scale scale_of
example = refl
