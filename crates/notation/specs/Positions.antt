-- Where a text goes wrong as a coefficient.
use Rattle.std.specs.Prelude.{ℕ, ◌≡◌, refl, List, [], ◌∷◌, Bool, true, false, eqb}
use Rattle.laws.specs.Text.{ascii, char}
use Rattle.laws.specs.Walks.{Walk, lead_on, wrong_at}
use Rattle.notation.specs.Stages.{on_digit, in_digits, stage_after, is_coefficient}
use Rattle.notation.specs.declared.Stage.{Stage}
use Rattle.notation.specs.declared.Stage.TheVariants.{Start, Minus, Whole, DecimalPoint, Fraction, ExponentMark, ExponentSign, Exponent, Stuck}

unfoldable pub is_stuck : Stage → Bool
is_stuck Start = false
is_stuck Minus = false
is_stuck Whole = false
is_stuck DecimalPoint = false
is_stuck Fraction = false
is_stuck ExponentMark = false
is_stuck ExponentSign = false
is_stuck Exponent = false
is_stuck Stuck = true

-- the language of coefficients as a walk: see `through_stages`
abbrev pub coefficient_walk : Walk Stage
coefficient_walk = record { start = Start; after = stage_after; ends = is_coefficient; stuck = is_stuck }

-- 02, P2: "the position, from 1, of the first character at which no allowed number can go on, or one past the end"
abbrev pub wrong_in_coefficient : List ℕ → ℕ
wrong_in_coefficient text = wrong_at coefficient_walk text

-- 02, P2: '6 becomes "no digits", for "-"', in mcf alone
unfoldable pub lone_minus : List ℕ → Bool
lone_minus [] = false
lone_minus (a ∷ []) = eqb a (char "-")
lone_minus (a ∷ b ∷ bs) = false

pub record Examples : Type 0 where
  pub minus : wrong_in_coefficient (ascii "-") ≡ 2
  pub hexadecimal : wrong_in_coefficient (ascii "0x") ≡ 2
  pub mark_last : wrong_in_coefficient (ascii "1e") ≡ 3
  pub sign_last : wrong_in_coefficient (ascii "1e+") ≡ 4
  pub minus_mark : wrong_in_coefficient (ascii "-e") ≡ 2
  pub point_first : wrong_in_coefficient (ascii ".5") ≡ 1
  pub comma : wrong_in_coefficient (ascii "2,2228E-02") ≡ 2
  pub alone : lone_minus (ascii "-") ≡ true
  pub not_alone : lone_minus (ascii "1e") ≡ false

pub examples : Examples
unfolding wrong_at lead_on is_stuck stage_after in_digits on_digit lone_minus
examples =
    record {
      minus = refl;
      hexadecimal = refl;
      mark_last = refl;
      sign_last = refl;
      minus_mark = refl;
      point_first = refl;
      comma = refl;
      alone = refl;
      not_alone = refl;
    }
