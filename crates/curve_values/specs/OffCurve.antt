-- Raw values off an F curve.
use Rattle.std.specs.Prelude.{◌≡◌, refl, Bool, true, false, not, ◌&&◌, ◌||◌, List, [], ◌∷◌, ℤ, pos}
use Rattle.std.specs.Int.Signed.{le_z}
use Rattle.laws.specs.Lists.{any}
use Rattle.rows.specs.declared.letters.OffEnds.{OffEnds}
use Rattle.rows.specs.declared.letters.OffEnds.TheVariants.{Extrapolate, Refuse}
use Rattle.curve_points.specs.Curves.{Curve}

-- 01: "INTER 1 P/F"
unfoldable pub is_f : OffEnds → Bool
is_f Refuse = true
is_f Extrapolate = false

-- 01: "Off the ends": no X is at it or below it, or none is at it or above it
unfoldable pub is_off : List ℤ → ℤ → Bool
is_off xs raw = not (any (λ x. le_z x raw) xs) || not (any (λ x. le_z raw x) xs)

-- 01: "raw value off an F curve"
unfoldable pub is_off_curve : Curve → ℤ → Bool
is_off_curve c raw = is_f c.ends && is_off c.xs raw

pub record Examples : Type 0 where
  pub past : is_off_curve (record { ends = Refuse; xs = pos 20 ∷ pos 0 ∷ []; ys = pos 1 ∷ pos 2 ∷ [] }) (pos 21) ≡ true
  pub at_end : is_off_curve (record { ends = Refuse; xs = pos 20 ∷ pos 0 ∷ []; ys = pos 1 ∷ pos 2 ∷ [] }) (pos 20) ≡ false
  pub past_p : is_off_curve (record { ends = Extrapolate; xs = pos 20 ∷ pos 0 ∷ []; ys = pos 1 ∷ pos 2 ∷ [] }) (pos 21) ≡ false

pub examples : Examples
unfolding is_off_curve is_off is_f
examples = record { past = refl; at_end = refl; past_p = refl }
