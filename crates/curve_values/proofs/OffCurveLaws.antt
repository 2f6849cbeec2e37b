-- 30 comes up exactly where the raw value is off an F curve: of a curve of two sound points or more,
-- no two of them with one X.
use mathlib.Core.Path.{◌≡◌, refl, sym, ap, ◌∙◌}
use mathlib.Core.Bool.{Bool, true, false, not, cond, ◌&&◌}
use mathlib.Core.List.{List}
use mathlib.Core.Option.{some}
use Rattle.std.specs.Prelude.{Option, Some, None}
use Prim.Native.Nat.{ℕ, zero, suc, ◌≤◌, ◌<◌}
use native.Mathlib.Omega.{arith}
use lib.IntN.{ℤ, pos}
use lib.ListN.{length, get_or}
use lib.Signed.{lt_z, le_z}
use Rattle.laws.specs.Said.{Said, value, refused as refused_with}
use Rattle.laws.specs.Lists.{any}
use Rattle.laws.proofs.Cases.{false≢true, false_of, bool_cases, cond_cases, and_both, and_false, or_right}
use Rattle.laws.proofs.At.{any_place, place_any}
use Rattle.rows.specs.declared.letters.OffEnds.{OffEnds}
use Rattle.rows.specs.declared.letters.OffEnds.TheVariants.{Extrapolate, Refuse}
use Rattle.curves.specs.Line.{is_between, is_point, is_segment, is_raw, height_at, result_of, line_at}
use Rattle.curves.specs.declared.line.Point.{Point}
use Rattle.curves.proofs.LineLaws.{line_is}
use Rattle.calibration.specs.Nearest.{passes, nearer, not_above, below, above}
use Rattle.calibration.specs.Curve.{point_numbered, through, off_end, from_last, before_first, placed, curve_at}
use Rattle.calibration.specs.declared.nearest.Side.TheVariants.{NotAbove, Below, Above}
use Rattle.calibration.proofs.OrderLaws.{le_not_lt}
use Rattle.calibration.proofs.NearestOf.{Nearest, not_above_nearest, below_nearest, above_nearest}
use Rattle.outcomes.specs.Outcome.{Outcome, answer, refused}
use Rattle.curve_points.specs.Curves.{Curve}
use Rattle.curve_values.specs.Along.{outcome_of, along}
use Rattle.curve_values.specs.OffCurve.{is_f, is_off, is_off_curve}
use Rattle.curve_values.proofs.OrderLaws.{not_lt, not_le, lt_le, le_lt}

-- as the rows of a good curve are. 01: "NCURVE 3! 2–100"; "XVALS 14! and YVALS 14!, each −1,073,741,824 to
-- 1,073,741,823"; "Key NUMBR and the value of XVALS"
pub record Sound (xs ys : List ℤ) : Type 0 where
  pub two : 2 ≤ length xs
  pub points : (i : ℕ) → i < length xs → is_point (point_numbered xs ys i) ≡ true
  pub apart : (i j : ℕ) → i < length xs → j < length xs → get_or xs i (pos 0) ≡ get_or xs j (pos 0) → i ≡ j

-- an answer is 30 where a test holds, and only there
pub record Exactly (o : Outcome ℤ) (test : Bool) : Type 0 where
  pub only : o ≡ refused 30 0 → test ≡ true
  pub there : test ≡ true → o ≡ refused 30 0

value_never : (z : ℤ) {test : Bool} → test ≡ false → Exactly (answer z) test
value_never z f =
    record {
      only = λ e. absurd (let w : ◌≡◌ {A = ℕ} 0 1 = cc in omega arith);
      there = λ t. absurd (false≢true (sym f ∙ t));
    }

-- nor on a line through two points
line_never : (p q : Point) (raw : ℤ) {test : Bool} → is_point p ≡ true → is_point q ≡ true → lt_z p.x q.x ≡ true → is_raw raw ≡ true → test ≡ false
    → Exactly (outcome_of (line_at p q raw)) test
unfolding is_segment result_of outcome_of
line_never p q raw {test} a b l r f = rw (← (line_is p q raw (and_both a (and_both b l)) r)) (go (is_between _ _ (height_at p q raw)))
  where
    go : (in_range : Bool) → Exactly (outcome_of (cond in_range (value (height_at p q raw)) (refused_with 31))) test
    go true = value_never (height_at p q raw) f
    go false = record { only = λ e. absurd (let w : ◌≡◌ {A = ℕ} 31 30 = cc in omega arith); there = λ t. absurd (false≢true (sym f ∙ t)) }

module _ (xs ys : List ℤ) (sound : Sound xs ys) (raw : ℤ) (is : is_raw raw ≡ true) where
  abbrev x : ℕ → ℤ
  x i = get_or xs i (pos 0)

  on : (i j : ℕ) → i < length xs → le_z (x i) raw ≡ true → j < length xs → le_z raw (x j) ≡ true → is_off xs raw ≡ false
  unfolding is_off
  on i j h a k b = rw (place_any (pos 0) (λ z. le_z z raw) xs i h a, place_any (pos 0) (λ z. le_z raw z) xs j k b)

  none : (f : ℤ → Bool) → ((k : ℕ) → k < length xs → f (x k) ≡ true → ⊥) → any f xs ≡ false
  none f h = false_of (any f xs) (λ t. let p = any_place (pos 0) f xs t in h p.at p.below p.holds)

  -- a point beside this one
  other : (i : ℕ) → i < length xs → (j : ℕ) × (j < length xs) × (x j ≡ x i → ⊥)
  other zero h = (1, omega (arith, sound.two), λ e. absurd (omega (arith, sound.apart 1 0 (omega (arith, sound.two)) h e)))
  other (suc i) h = (0, omega arith, λ e. absurd (omega (arith, sound.apart 0 (suc i) (omega arith) h e)))

  line : (i j : ℕ) {test : Bool} → i < length xs → j < length xs → lt_z (x i) (x j) ≡ true → test ≡ false
      → Exactly (outcome_of (line_at (point_numbered xs ys i) (point_numbered xs ys j) raw)) test
  unfolding point_numbered
  line i j h k l f = line_never (point_numbered xs ys i) (point_numbered xs ys j) raw (sound.points i h) (sound.points j k) l is f

  off_end_lem : (ends : OffEnds) (l : Said) → is_off xs raw ≡ true → Exactly (outcome_of l) false
      → Exactly (outcome_of (off_end ends l)) (is_f ends && is_off xs raw)
  unfolding off_end outcome_of is_f
  off_end_lem Refuse l t k = record { only = λ _. t; there = λ _. refl }
  off_end_lem Extrapolate l t k = k

  -- between two neighbours
  between : (ends : OffEnds) (i j : ℕ) → Nearest NotAbove xs raw (length xs) (Some i) → Nearest Above xs raw (length xs) (Some j)
      → Exactly (outcome_of (through xs ys (Some i) (Some j) raw)) (is_f ends && is_off xs raw)
  unfolding through passes
  between ends i j a b =
      line i j a.0 b.0 (le_lt (x i) raw (x j) a.1 b.1) (rw (on i j a.0 a.1 b.0 (lt_le raw (x j) b.1)) (and_false (is_f ends)))

  -- the last point
  module _ (i : ℕ) (a : Nearest NotAbove xs raw (length xs) (Some i)) (b : Nearest Above xs raw (length xs) None) where
    up_to : (k : ℕ) → k < length xs → le_z (x k) raw ≡ true
    unfolding passes
    up_to k h = not_lt raw (x k) (false_of (lt_z raw (x k)) (b k h))

    at_it : (k : ℕ) → k < length xs → le_z raw (x k) ≡ true → raw ≡ x k
    unfolding passes
    at_it k h t = le_not_lt raw (x k) t (false_of (lt_z raw (x k)) (b k h))

    off_last : lt_z (x i) raw ≡ true → is_off xs raw ≡ true
    unfolding is_off passes nearer
    off_last l =
        rw (none (λ z. le_z raw z) (λ k h t. false≢true (sym (a.2 k h (up_to k h)) ∙ ap (lt_z (x i)) (sym (at_it k h t)) ∙ l)))
        (or_right (not (any (λ z. le_z z raw) xs)) refl)

    lower : (o : (j : ℕ) × (j < length xs) × (x j ≡ x i → ⊥)) → lt_z (x o.0) (x i) ≡ true
    unfolding passes nearer
    lower o =
        bool_cases (lt_z (x o.0) (x i)) (λ t. t)
        (λ f. absurd (o.2 (sym (le_not_lt (x i) (x o.0) (not_lt (x o.0) (x i) f) (a.2 o.0 o.1 (up_to o.0 o.1))))))

    before_last : (f : Option ℕ) → Nearest Below xs (x i) (length xs) f → Exactly (outcome_of (through xs ys f (Some i) raw)) false
    unfolding through passes
    before_last (Some k) n = line k i n.0 a.0 n.1 refl
    before_last None n = let o = other i a.0 in absurd (n o.0 o.1 (lower o))

    last : (ends : OffEnds) → Exactly (outcome_of (from_last ends xs ys i raw)) (is_f ends && is_off xs raw)
    unfolding from_last outcome_of passes
    last ends =
        cond_cases (λ (l : Said). Exactly (outcome_of l) (is_f ends && is_off xs raw)) (lt_z (x i) raw)
        (λ t. off_end_lem ends (through xs ys (below xs (x i)) (Some i) raw) (off_last t) (before_last (below xs (x i)) (below_nearest xs (x i))))
        (λ f. value_never (get_or ys i (pos 0)) (rw (on i i a.0 a.1 a.0 (not_lt (x i) raw f)) (and_false (is_f ends))))

  -- the first point
  module _ (j : ℕ) (a : Nearest NotAbove xs raw (length xs) None) (b : Nearest Above xs raw (length xs) (Some j)) where
    from : (k : ℕ) → k < length xs → lt_z raw (x k) ≡ true
    unfolding passes
    from k h = not_le (x k) raw (false_of (le_z (x k) raw) (a k h))

    off_first : is_off xs raw ≡ true
    unfolding is_off passes
    off_first = rw (none (λ z. le_z z raw) a)

    higher : (o : (k : ℕ) × (k < length xs) × (x k ≡ x j → ⊥)) → lt_z (x j) (x o.0) ≡ true
    unfolding passes nearer
    higher o =
        bool_cases (lt_z (x j) (x o.0)) (λ t. t)
        (λ f. absurd (o.2 (le_not_lt (x o.0) (x j) (not_lt (x j) (x o.0) f) (b.2 o.0 o.1 (from o.0 o.1)))))

    after_first : (f : Option ℕ) → Nearest Above xs (x j) (length xs) f → Exactly (outcome_of (through xs ys (Some j) f raw)) false
    unfolding through passes
    after_first (Some k) n = line j k b.0 n.0 n.1 refl
    after_first None n = let o = other j b.0 in absurd (n o.0 o.1 (higher o))

    first : (ends : OffEnds) → Exactly (outcome_of (before_first ends xs ys j raw)) (is_f ends && is_off xs raw)
    unfolding before_first
    first ends = off_end_lem ends (through xs ys (Some j) (above xs (x j)) raw) off_first (after_first (above xs (x j)) (above_nearest xs (x j)))

  everywhere : (ends : OffEnds) (low high : Option ℕ) → Nearest NotAbove xs raw (length xs) low → Nearest Above xs raw (length xs) high
      → Exactly (outcome_of (placed ends xs ys raw low high)) (is_f ends && is_off xs raw)
  unfolding placed passes
  everywhere ends (Some i) (Some j) a b = between ends i j a b
  everywhere ends (Some i) None a b = last i a b ends
  everywhere ends None (Some j) a b = first j a b ends
  everywhere ends None None a b =
      let h : 0 < length xs = omega (arith, sound.two) in absurd (b 0 h (not_le (x 0) raw (false_of (le_z (x 0) raw) (a 0 h))))

-- 01: "30 … raw value off an F curve"
pub off_f_curve : (c : Curve) → Sound c.xs c.ys → (raw : ℤ) → is_raw raw ≡ true → Exactly (along (some c) raw) (is_off_curve c raw)
unfolding along is_off_curve curve_at
off_f_curve c sound raw is =
    everywhere c.xs c.ys sound raw is c.ends (not_above c.xs raw) (above c.xs raw) (not_above_nearest c.xs raw) (above_nearest c.xs raw)
