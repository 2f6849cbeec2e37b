-- Values on a scale, case by case.
use mathlib.Core.Path.{◌≡◌, refl, ap, ◌∙◌}
use mathlib.Core.Bool.{Bool, true, false, cond}
use mathlib.Core.List.{List, [], map}
use Prim.Native.Nat.{◌≤◌}
use lib.IntN.{ℤ}
use lib.ListN.{length}
use lib.Seq.{sets}
use Rattle.rows.specs.declared.records.OptionalCurve.{OptionalCurve}
use Rattle.verdicts.specs.Key.{curve}
use Rattle.outcomes.specs.Outcome.{Outcome, answer}
use Rattle.database.specs.Rows.{Row, Rows}
use Rattle.curve_points.specs.Curves.{xvals_of, yvals_of, curve_of}
use Rattle.curve_values.specs.Along.{along}
use Rattle.curve_points.specs.Points.{curve_in, points_of}
use Rattle.curve_values.specs.Scale.{as_read, on_curve, scale_of, point_rows, on_scale, scale_in, scale_by}
use Rattle.curve_points.specs.declared.Points.{Points}
use Rattle.curve_values.specs.declared.scale.Scale as code
use Rattle.curve_values.specs.declared.scale.Scale.TheVariants.{AsRead, Along}
use Rattle.curve_points.proofs.CurveLaws.{gathered_curve}

module _ (xs ys : List ℤ) (raw : ℤ) where
  pub on_read : {scale : code.Scale} → scale ≡ AsRead → answer raw ≡ on_scale (scale_in scale xs ys) raw
  unfolding on_scale scale_in
  on_read e = rw e

  pub on_points : {scale : code.Scale} {points : Points} {x : ℤ} {r : Outcome ℤ} → scale ≡ Along points → x ≡ raw
      → r ≡ along (curve_in points xs ys) x → r ≡ on_scale (scale_in scale xs ys) raw
  unfolding on_scale scale_in
  on_points e q k = k ∙ rw (e, q)

-- the scale of a parameter, by its CURTX
module _ (rows : Rows) (curtx : OptionalCurve) where
  pub scale_free : curtx.given ≡ false → AsRead ≡ scale_by rows curtx
  unfolding scale_by
  scale_free e = rw e

  pub scale_curve : {points : Points} → curtx.given ≡ true → points ≡ points_of rows curtx.name → Along points ≡ scale_by rows curtx
  unfolding scale_by
  scale_curve e k = rw (e, k)

  module _ (f : Row → ℤ) (xs₀ : List ℤ) where
    pub points_free : curtx.given ≡ false → xs₀ ≡ sets xs₀ 0 (map f (point_rows rows curtx))
    unfolding point_rows
    points_free e = rw e

    pub points_curve : {xs : List ℤ} → curtx.given ≡ true → xs ≡ sets xs₀ 0 (map f (rows.members (curve curtx.name)))
        → xs ≡ sets xs₀ 0 (map f (point_rows rows curtx))
    unfolding point_rows
    points_curve e k = rw e k

  -- what was gathered makes the scale, in arrays that have room for the points
  pub gathered_scale : (xs ys : List ℤ) → (let points = rows.members (curve curtx.name) in length points ≤ length xs → length points ≤ length ys
      → scale_in (scale_by rows curtx) (sets xs 0 (map xvals_of (point_rows rows curtx))) (sets ys 0 (map yvals_of (point_rows rows curtx))) ≡ scale_of rows curtx)
  unfolding scale_in scale_by scale_of point_rows
  gathered_scale xs ys h k = go curtx.given
    where
      go : (given : Bool) → (let points = cond given (rows.members (curve curtx.name)) [] in
          scale_in (cond given (Along (points_of rows curtx.name)) AsRead) (sets xs 0 (map xvals_of points)) (sets ys 0 (map yvals_of points))
          ≡ cond given (on_curve (curve_of rows curtx.name)) as_read)
      go true = ap on_curve (gathered_curve rows curtx.name xs ys h k)
      go false = refl
