-- Along a curve of sound points 31 comes up exactly where its result is out of range,
-- and the raw value isn't off an F curve.
use mathlib.Core.Path.{◌≡◌, refl, sym, ap, ◌∙◌}
use mathlib.Core.Logic.{◌↔◌}
use mathlib.Core.Bool.{Bool, true, false, not, cond, ◌&&◌}
use mathlib.Core.List.{List, ◌∷◌}
use mathlib.Core.Option.{Option, none, some}
use Rattle.std.specs.Prelude.{Some, None}
use Rattle.std.specs.Prelude as rust
use Prim.Native.Nat.{ℕ}
use native.Mathlib.Omega.{arith}
use lib.Dec.{eqb, leb}
use lib.IntN.{ℤ, pos, negsuc}
use lib.ListN.{length, get_or}
use lib.Signed.{lt_z}
use borrow.Author.Tests.{leb-true, le-leb}
use Rattle.laws.specs.Lists.{any}
use Rattle.laws.specs.Said.{Said, value, refused as refused_with, free}
use Rattle.laws.proofs.Cases.{false≢true, false_of, cond_cases, and_left, and_right, and_both}
use Rattle.rows.specs.declared.letters.OffEnds.{OffEnds}
use Rattle.rows.specs.declared.letters.OffEnds.TheVariants.{Extrapolate, Refuse}
use Rattle.curves.specs.Line.{is_between, is_coordinate, is_point, is_segment, is_raw, height_at, result_of, line_at}
use Rattle.curves.specs.declared.line.Point.{Point}
use Rattle.curves.proofs.LineLaws.{through_second}
use Rattle.calibration.specs.Nearest.{passes, not_above, below, above}
use Rattle.calibration.specs.Curve.{point_numbered, through, off_end, from_last, before_first, placed, curve_at}
use Rattle.calibration.specs.declared.nearest.Side.TheVariants.{NotAbove, Below}
use Rattle.calibration.proofs.OrderLaws.{le_not_lt}
use Rattle.calibration.proofs.NearestOf.{Nearest, not_above_nearest, below_nearest}
use Rattle.outcomes.specs.Outcome.{Outcome, answer, refused}
use Rattle.curve_points.specs.Curves.{Curve}
use Rattle.curve_values.specs.Along.{outcome_of, along}
use Rattle.curve_values.specs.OffCurve.{is_off_curve}
use Rattle.curve_values.proofs.OffCurveLaws.{Sound, off_f_curve}
use Rattle.at_verdicts.specs.OutOfRange.{height_by, height_placed, height_on, is_out_of_range}
use Rattle.at_verdicts.proofs.NumberLaws.{Numbered}

-- 01: "−2,147,483,648 to 2,147,483,647"
abbrev fits : ℤ → Bool
fits z = is_between (negsuc 2147483647) (pos 2147483647) z

-- an answer that isn't 30 is 31 where the height doesn't fit, and only there
record Told (o : Outcome ℤ) (height : ℤ) : Type 0 where
  only : (o ≡ refused 30 0 → ⊥) → o ≡ refused 31 0 → fits height ≡ false
  there : (o ≡ refused 30 0 → ⊥) → fits height ≡ false → o ≡ refused 31 0

off_told : (height : ℤ) → Told (refused 30 0) height
off_told height = record { only = λ n _. absurd (n refl); there = λ n _. absurd (n refl) }

value_told : (z height : ℤ) → fits height ≡ true → Told (answer z) height
value_told z height t =
    record { only = λ _ e. absurd (let w : ◌≡◌ {A = ℕ} 0 1 = cc in omega arith); there = λ _ f. absurd (false≢true (sym f ∙ t)) }

line_told : (p q : Point) (x : ℤ) → Told (outcome_of (line_at p q x)) (height_at p q x)
unfolding line_at result_of outcome_of
line_told p q x = by (is_segment p q && is_raw x) (fits (height_at p q x)) refl
  where
    by : (a b : Bool) → fits (height_at p q x) ≡ b → Told (outcome_of (cond a (cond b (value (height_at p q x)) (refused_with 31)) free)) (height_at p q x)
    by true true e = value_told (height_at p q x) (height_at p q x) e
    by true false e = record { only = λ _ _. e; there = λ _ _. refl }
    by false b e = off_told (height_at p q x)

through_told : (xs ys : List ℤ) (f g : rust.Option ℕ) (x : ℤ) → Told (outcome_of (through xs ys f g x)) (height_by xs ys f g x)
unfolding through height_by outcome_of
through_told xs ys (Some i) (Some j) x = line_told (point_numbered xs ys i) (point_numbered xs ys j) x
through_told xs ys (Some i) None x = off_told (pos 0)
through_told xs ys None g x = off_told (pos 0)

end_told : (ends : OffEnds) (l : Said) (height : ℤ) → Told (outcome_of l) height → Told (outcome_of (off_end ends l)) height
unfolding off_end outcome_of
end_told Extrapolate l height t = t
end_told Refuse l height t = off_told height

-- With which numbers a curve refuses

module _ (numbers : List ℕ) (n30 : any (eqb 30) (0 ∷ numbers) ≡ true) (n31 : any (eqb 31) (0 ∷ numbers) ≡ true) where
  abbrev Curved : Said → Type 0
  Curved l = Numbered numbers (outcome_of l)

  through_numbers : (xs ys : List ℤ) (f g : rust.Option ℕ) (x : ℤ) → Curved (through xs ys f g x)
  unfolding through line_at result_of outcome_of
  through_numbers xs ys (Some i) (Some j) x =
      cond_cases Curved (is_segment (point_numbered xs ys i) (point_numbered xs ys j) && is_raw x)
      (λ _. cond_cases Curved (fits (height_at (point_numbered xs ys i) (point_numbered xs ys j) x)) (λ _. refl) (λ _. n31)) (λ _. n30)
  through_numbers xs ys (Some i) None x = n30
  through_numbers xs ys None g x = n30

  end_numbers : (ends : OffEnds) (l : Said) → Curved l → Curved (off_end ends l)
  unfolding off_end outcome_of
  end_numbers Extrapolate l h = h
  end_numbers Refuse l h = n30

  placed_numbers : (ends : OffEnds) (xs ys : List ℤ) (x : ℤ) (low high : rust.Option ℕ) → Curved (placed ends xs ys x low high)
  unfolding placed from_last before_first outcome_of
  placed_numbers ends xs ys x (Some i) (Some j) = through_numbers xs ys (Some i) (Some j) x
  placed_numbers ends xs ys x (Some i) None =
      cond_cases Curved (lt_z (get_or xs i (pos 0)) x) (λ _. end_numbers ends _ (through_numbers xs ys (below xs (get_or xs i (pos 0))) (Some i) x)) (λ _. refl)
  placed_numbers ends xs ys x None (Some j) = end_numbers ends _ (through_numbers xs ys (Some j) (above xs (get_or xs j (pos 0))) x)
  placed_numbers ends xs ys x None None = n30

  -- 30 and 31 only
  pub along_numbers : (o : Option Curve) (raw : ℤ) → Numbered numbers (along o raw)
  unfolding along curve_at
  along_numbers none raw = n30
  along_numbers (some c) raw = placed_numbers c.ends c.xs c.ys raw (not_above c.xs raw) (above c.xs raw)

-- 01: "YVALS 14!, each −1,073,741,824 to 1,073,741,823"
coordinate_fits : (y : ℤ) → is_coordinate y ≡ true → fits y ≡ true
unfolding is_coordinate is_between
coordinate_fits (pos n) e = let h = leb-true n 1073741823 e in le-leb n 2147483647 (omega arith)
coordinate_fits (negsuc n) e = let h = leb-true n 1073741823 (and_left (leb n 1073741823) true e) in and_both (le-leb n 2147483647 (omega arith)) refl

not_false : (b : Bool) → not b ≡ true → b ≡ false
not_false true e = sym e
not_false false e = refl

module _ (c : Curve) (sound : Sound c.xs c.ys) (raw : ℤ) (is : is_raw raw ≡ true) where
  abbrev xs : List ℤ
  xs = c.xs

  abbrev ys : List ℤ
  ys = c.ys

  abbrev x : ℕ → ℤ
  x i = get_or xs i (pos 0)

  -- at the last point the line through it and the one below it is as high as it
  last_fits : (i : ℕ) → Nearest NotAbove xs raw (length xs) (Some i) → lt_z (x i) raw ≡ false → fits (height_by xs ys (below xs (x i)) (Some i) raw) ≡ true
  unfolding passes height_by is_between point_numbered is_point
  last_fits i a f = by (below xs (x i)) (below_nearest xs (x i))
    where
      by : (b : rust.Option ℕ) → Nearest Below xs (x i) (length xs) b → fits (height_by xs ys b (Some i) raw) ≡ true
      by (Some k) n =
          let at : x i ≡ raw = le_not_lt (x i) raw a.1 f in
          let y = and_right (is_coordinate (x i)) (is_coordinate (get_or ys i (pos 0))) (sound.points i a.0) in
          ap (λ (z : ℤ). fits (height_at (point_numbered xs ys k) (point_numbered xs ys i) z)) (sym at)
          ∙ ap fits (through_second (point_numbered xs ys k) (point_numbered xs ys i) n.1) ∙ coordinate_fits (get_or ys i (pos 0)) y
      by None n = refl

  placed_told : (ends : OffEnds) (low high : rust.Option ℕ) → Nearest NotAbove xs raw (length xs) low
      → Told (outcome_of (placed ends xs ys raw low high)) (height_placed xs ys low high raw)
  unfolding placed height_placed from_last before_first outcome_of
  placed_told ends (Some i) (Some j) a = through_told xs ys (Some i) (Some j) raw
  placed_told ends (Some i) None a =
      cond_cases (λ (l : Said). Told (outcome_of l) (height_by xs ys (below xs (x i)) (Some i) raw)) (lt_z (x i) raw)
      (λ _. end_told ends _ _ (through_told xs ys (below xs (x i)) (Some i) raw))
      (λ f. value_told (get_or ys i (pos 0)) _ (last_fits i a f))
  placed_told ends None (Some j) a = end_told ends _ _ (through_told xs ys (Some j) (above xs (x j)) raw)
  placed_told ends None None a = off_told (pos 0)

  curve_told : Told (along (some c) raw) (height_on c raw)
  unfolding along curve_at height_on
  curve_told = placed_told c.ends (not_above xs raw) (above xs raw) (not_above_nearest xs raw)

  -- 01: "31 … curve result outside −2,147,483,648 to 2,147,483,647"
  pub out_of_range : (along (some c) raw ≡ refused 31 0) ↔ (is_out_of_range c raw ≡ true)
  unfolding is_out_of_range
  out_of_range = (
    λ e.
        let n : along (some c) raw ≡ refused 30 0 → ⊥ = λ q. (let w : ◌≡◌ {A = ℕ} 30 31 = cc in omega arith) in
        let on : is_off_curve c raw ≡ false = false_of (is_off_curve c raw) (λ t. n ((off_f_curve c sound raw is).there t)) in
        and_both (ap not on) (ap not (curve_told.only n e)),
    λ t.
        let on : is_off_curve c raw ≡ false = not_false (is_off_curve c raw) (and_left (not (is_off_curve c raw)) (not (fits (height_on c raw))) t) in
        curve_told.there (λ q. false≢true (sym on ∙ (off_f_curve c sound raw is).only q))
        (not_false (fits (height_on c raw)) (and_right (not (is_off_curve c raw)) (not (fits (height_on c raw))) t)),
  )
