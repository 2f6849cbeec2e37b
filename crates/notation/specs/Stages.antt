-- The language of coefficients, as a walk over the characters of a text.
use Rattle.std.specs.Prelude.{ℕ, ◌≡◌, refl, List, [], ◌∷◌, Bool, true, false, cond, ◌||◌, eqb}
use Rattle.laws.specs.Text.{ascii, char}
use Rattle.numbers.specs.Number.{between}
use Rattle.notation.specs.declared.Stage.{Stage}
use Rattle.notation.specs.declared.Stage.TheVariants.{Start, Minus, Whole, DecimalPoint, Fraction, ExponentMark, ExponentSign, Exponent, Stuck}

-- the stage that a digit leads to
unfoldable pub on_digit : Stage → ℕ → Stage
on_digit s c = cond (between (char "0") (char "9") c) s Stuck

-- the same where an e or E may end the digits
unfoldable pub in_digits : Stage → ℕ → Stage
in_digits s c = cond (eqb c (char "e") || eqb c (char "E")) ExponentMark (on_digit s c)

-- 02, P1: "optional minus, digits, at least one, with an optional point among or after them, optionally e or E, a sign
-- or none, and at least one digit"
-- the stage with one more character, c
unfoldable pub stage_after : Stage → ℕ → Stage
stage_after Start c = cond (eqb c (char "-")) Minus (on_digit Whole c)
stage_after Minus c = on_digit Whole c
stage_after Whole c = cond (eqb c (char ".")) DecimalPoint (in_digits Whole c)
stage_after DecimalPoint c = in_digits Fraction c
stage_after Fraction c = in_digits Fraction c
stage_after ExponentMark c = cond (eqb c (char "+") || eqb c (char "-")) ExponentSign (on_digit Exponent c)
stage_after ExponentSign c = on_digit Exponent c
stage_after Exponent c = on_digit Exponent c
stage_after Stuck c = Stuck

-- the stage after all characters of a text
unfoldable pub stage_from : Stage → List ℕ → Stage
stage_from s [] = s
stage_from s (c ∷ cs) = stage_from (stage_after s c) cs

-- whether a whole text that ends at this stage is a coefficient
unfoldable pub is_coefficient : Stage → Bool
is_coefficient Start = false
is_coefficient Minus = false
is_coefficient Whole = true
is_coefficient DecimalPoint = true
is_coefficient Fraction = true
is_coefficient ExponentMark = false
is_coefficient ExponentSign = false
is_coefficient Exponent = true
is_coefficient Stuck = false

pub record Examples : Type 0 where
  pub minus : stage_from Start (ascii "-") ≡ Minus
  pub point_last : stage_from Start (ascii "5.") ≡ DecimalPoint
  pub mark_last : stage_from Start (ascii "1e") ≡ ExponentMark
  pub sign_last : stage_from Start (ascii "1.5e+") ≡ ExponentSign
  -- the third character is the first at which no coefficient can go on
  pub goes_wrong : (stage_from Start (ascii "1.") ≡ DecimalPoint) × (stage_from Start (ascii "1..") ≡ Stuck)

pub examples : Examples
unfolding stage_from stage_after in_digits on_digit
examples = record { minus = refl; point_last = refl; mark_last = refl; sign_last = refl; goes_wrong = (refl, refl) }
