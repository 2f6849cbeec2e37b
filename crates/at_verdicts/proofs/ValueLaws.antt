-- Laws of the values that a limit step checks: which refusal decides, and what a scale refuses.
use mathlib.Core.Path.{◌≡◌, refl, sym, ap, ◌∙◌}
use mathlib.Core.Logic.{◌↔◌}
use mathlib.Core.Bool.{Bool, true, false, cond, ◌||◌}
use mathlib.Core.List.{List, [], ◌∷◌, map}
use mathlib.Core.Option.{none, some}
use Rattle.std.specs.Prelude.{None}
use Prim.Native.Nat.{ℕ}
use native.Mathlib.Omega.{arith}
use lib.IntN.{ℤ}
use borrow.Author.Tests.{eqb-true, eq-eqb}
use Rattle.laws.specs.Lists.{any}
use Rattle.laws.specs.Said.{Said, value, refused as refused_with, free}
use Rattle.laws.proofs.Cases.{false≢true}
use Rattle.laws.proofs.Tests.{any_never}
use Rattle.rows.specs.declared.letters.LimitValue.{LimitValue}
use Rattle.rows.specs.declared.letters.LimitValue.TheVariants.{Raw, Engineering}
use Rattle.rows.specs.declared.letters.Category.TheVariants.{Numeric}
use Rattle.rows.specs.declared.records.OptionalCurve.{OptionalCurve}
use Rattle.rows.specs.declared.records.PcfRow.{PcfRow}
use Rattle.calibration.specs.Curve.{curve_at}
use Rattle.outcomes.specs.Outcome.{Outcome, answer, refused, and_then}
use Rattle.outcomes.specs.Values.{Value, number, part, bits}
use Rattle.database.specs.Rows.{Rows}
use Rattle.curve_values.specs.Along.{outcome_of, along}
use Rattle.curve_values.specs.Scale.{Scale, as_read, on_curve, scale_of, on_scale}
use Rattle.polynomial_curves.specs.Polynomials.{polynomial_for}
use Rattle.engineering.specs.Engineering.{value as engineeredValue, as_value, by_polynomial, numeric_value, by_category, engineered}
use Rattle.occurrences.specs.Values.{integer_in, is_refusal, answered, unless_refused, scale_under}
use Rattle.at_verdicts.proofs.NumberLaws.{then_refused, first_only}

pub any_map : {A B : Type 0} (f : B → Bool) (g : A → B) (l : List A) → any f (map g l) ≡ any (λ a. f (g a)) l
any_map f g [] = refl
any_map f g (a ∷ l) = ap (λ (b : Bool). f (g a) || b) (any_map f g l)

-- 01: "then 30, then 31"

pub unless_30 : (values : List (Outcome ℤ)) → (unless_refused values ≡ refused 30 0) ↔ (any (is_refusal 30) values ≡ true)
unfolding unless_refused
unless_30 values = (only (any (is_refusal 30) values) (any (is_refusal 31) values), λ t. rw t)
  where
    only : (a b : Bool) → cond a (refused 30 0) (cond b (refused 31 0) (answer (answered values))) ≡ refused 30 0 → a ≡ true
    only true b e = refl
    only false true e = absurd (let z : ◌≡◌ {A = ℕ} 31 30 = cc in omega arith)
    only false false e = absurd (let z : ◌≡◌ {A = ℕ} 0 1 = cc in omega arith)

pub unless_31 : (values : List (Outcome ℤ))
    → (unless_refused values ≡ refused 31 0) ↔ ((any (is_refusal 30) values ≡ false) × (any (is_refusal 31) values ≡ true))
unfolding unless_refused
unless_31 values = (only (any (is_refusal 30) values) (any (is_refusal 31) values), λ t. rw (t.0, t.1))
  where
    only : (a b : Bool) → cond a (refused 30 0) (cond b (refused 31 0) (answer (answered values))) ≡ refused 31 0 → (a ≡ false) × (b ≡ true)
    only true b e = absurd (let z : ◌≡◌ {A = ℕ} 30 31 = cc in omega arith)
    only false true e = (refl, refl)
    only false false e = absurd (let z : ◌≡◌ {A = ℕ} 0 1 = cc in omega arith)

-- A refusal of a value

refusal_of : (n : ℕ) (o : Outcome ℤ) → is_refusal n o ≡ true → (place : ℕ) × (o ≡ refused n place)
unfolding is_refusal
refusal_of n (refused m place) e = (place, ap (λ (k : ℕ). refused k place) (eqb-true m n e))
refusal_of n (answer z) e = absurd (false≢true e)

pub is_refusal_lem : (n place : ℕ) (o : Outcome ℤ) → o ≡ refused n place → is_refusal n o ≡ true
unfolding is_refusal
is_refusal_lem n place o e = rw e (eq-eqb n n refl)

said_place : (l : Said) (n place : ℕ) → outcome_of l ≡ refused n place → place ≡ 0
unfolding outcome_of
said_place (value z) n place e = absurd (let w : ◌≡◌ {A = ℕ} 0 1 = cc in omega arith)
said_place (refused_with m) n place e = cc
said_place free n place e = cc

scale_place : (scale : Scale) (z : ℤ) (n place : ℕ) → on_scale scale z ≡ refused n place → place ≡ 0
unfolding on_scale along
scale_place as_read z n place e = absurd (let w : ◌≡◌ {A = ℕ} 0 1 = cc in omega arith)
scale_place (on_curve none) z n place e = cc
scale_place (on_curve (some c)) z n place e = said_place (curve_at c.ends c.xs c.ys z) n place e

-- 01: "else 0": a scale's refusal has no place
pub scale_refused : (n : ℕ) (scale : Scale) (z : ℤ) → is_refusal n (on_scale scale z) ≡ true → on_scale scale z ≡ refused n 0
scale_refused n scale z e =
    let w = refusal_of n (on_scale scale z) e in
    w.1 ∙ ap (λ (place : ℕ). refused n place) (scale_place scale z n w.0 w.1)

-- of a parameter of CATEG N without a polynomial it is that of the engineering value
module _ (rows : Rows) (r : PcfRow) (numeric : r.categ ≡ Numeric) (none : polynomial_for rows r.curtx ≡ None) (z : ℤ) where
  numeric_is : engineered rows r z ≡ and_then (on_scale (scale_of rows r.curtx) z) as_value
  unfolding engineered by_category numeric_value by_polynomial
  numeric_is = rw (numeric, none)

  pub scale_engineered : (n place : ℕ) → (on_scale (scale_of rows r.curtx) z ≡ refused n place) ↔ (engineered rows r z ≡ refused n place)
  unfolding as_value
  scale_engineered n place = (
    λ e. numeric_is ∙ then_refused (on_scale (scale_of rows r.curtx) z) as_value n place e,
    λ e. first_only n place (on_scale (scale_of rows r.curtx) z) as_value (λ z. (engineeredValue (number z), refl)) (sym numeric_is ∙ e),
  )

-- 01: "only … under INTER C"
pub under_c_lem : (rows : Rows) (inter : LimitValue) (curtx : OptionalCurve) (n : ℕ) (zs : List ℤ)
    → any (is_refusal n) (map (on_scale (scale_under rows inter curtx)) zs) ≡ true → inter ≡ Engineering
unfolding scale_under on_scale is_refusal
under_c_lem rows Raw curtx n zs e =
    absurd (false≢true (sym (any_map (is_refusal n) (on_scale as_read) zs ∙ any_never (λ z. is_refusal n (on_scale as_read z)) zs (λ z. refl)) ∙ e))
under_c_lem rows Engineering curtx n zs e = refl

-- What is made of a raw value

pub integer_is : (o : Outcome Value) (z : ℤ) → o ≡ answer (number z) → and_then o integer_in ≡ answer z
unfolding and_then integer_in
integer_is o z e = rw e

pub integer_refused : (o : Outcome Value) (n place : ℕ) → o ≡ refused n place → and_then o integer_in ≡ refused n place
unfolding and_then
integer_refused o n place e = rw e

pub integer_of_lem : (o : Outcome Value) (z : ℤ) → and_then o integer_in ≡ answer z → o ≡ answer (number z)
unfolding and_then integer_in
integer_of_lem (refused n place) z e = absurd (let w : ◌≡◌ {A = ℕ} 0 1 = cc in omega arith)
integer_of_lem (answer (number x)) z e = let q : x ≡ z = cc in ap (λ (y : ℤ). answer (number y)) q
integer_of_lem (answer (part start bytes)) z e = absurd (let w : ◌≡◌ {A = ℕ} 0 1 = cc in omega arith)
integer_of_lem (answer (bits pattern width)) z e = absurd (let w : ◌≡◌ {A = ℕ} 0 1 = cc in omega arith)
