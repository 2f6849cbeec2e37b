-- Laws of how large the numbers are that some characters write.
use mathlib.Core.Path.{◌≡◌, subst}
use mathlib.Core.List.{List, [], ◌∷◌}
use mathlib.Core.Bool.{Bool, true, ◌||◌}
use Prim.Native.Nat.{ℕ, ◌+◌, ◌^◌, ◌<◌, ◌≤◌}
use native.Mathlib.Nat.{pow-suc, pow-le-pow_right, lt_of_lt_of_le}
use native.Mathlib.Numerals.{add-one}
use native.Mathlib.Omega.{arith}
use lib.Dec.{leb, eqb, ltb, lit<}
use lib.ListN.{length}
use borrow.Author.Tests.{leb-true, ltb-false}
use Rattle.laws.specs.Text.{char}
use Rattle.laws.proofs.Cases.{cond_cases, and_right}
use Rattle.numbers.specs.Number.{between}
use Rattle.notation.specs.Stages.{on_digit, in_digits, stage_after, stage_from, is_coefficient}
use Rattle.notation.specs.Scientific.{with_digit, parts, unwritten, with_character, scientific_from, parsed, parsed_of, Short}
use Rattle.notation.specs.declared.Stage.{Stage}
use Rattle.notation.specs.declared.Stage.TheVariants.{Start, Minus, Whole, DecimalPoint, Fraction, ExponentMark, ExponentSign, Exponent, Stuck}
use Rattle.notation.specs.declared.Scientific.{Scientific}
use Rattle.notation.specs.declared.Parsed.{Parsed}
use Rattle.notation.specs.declared.Parsed.TheVariants.{Parts, NotCoefficient, TooWide}

-- what some characters can write more can
pow_up : {i j n : ℕ} → i ≤ j → n < 10 ^ i → n < 10 ^ j
pow_up h k = lt_of_lt_of_le k (pow-le-pow_right (lit< tt) h)

pub short_up : {i j : ℕ} {n : Scientific} → i ≤ j → Short i n → Short j n
short_up {i} {j} h s = record { digits = pow_up {i = i} {j = j} h s.digits; places = omega arith; exponent = pow_up {i = i} {j = j} h s.exponent }

-- one character more, c
module _ (i c : ℕ) (n : Scientific) (h : Short i n) where
  Fine : Stage → Type 0
  Fine s = Short (i + 1) (with_character n s c)

  same : Short (i + 1) n
  same = short_up {i = i} {j = i + 1} (omega arith) h

  -- one digit more
  digit_up : (m : ℕ) → m < 10 ^ i → between (char "0") (char "9") c ≡ true → with_digit m c < 10 ^ (i + 1)
  unfolding with_digit
  digit_up m k t = rw (add-one i, pow-suc 10 i) (omega (arith, leb-true c 57 (and_right (leb 48 c) (leb c 57) t)))

  -- a sign leaves the digits
  sign_fine : {m l : Bool} → Short (i + 1) (parts m n.digits n.places l n.exponent)
  sign_fine = record { digits = same.digits; places = same.places; exponent = same.exponent }

  digit_fine : (s : Stage) → between (char "0") (char "9") c ≡ true → Fine s
  unfolding Fine with_character
  digit_fine Start t = same
  digit_fine Minus t = sign_fine
  digit_fine Whole t = record { digits = digit_up n.digits h.digits t; places = same.places; exponent = same.exponent }
  digit_fine DecimalPoint t = same
  digit_fine Fraction t = record { digits = digit_up n.digits h.digits t; places = omega arith; exponent = same.exponent }
  digit_fine ExponentMark t = same
  digit_fine ExponentSign t = sign_fine
  digit_fine Exponent t = record { digits = same.digits; places = same.places; exponent = digit_up n.exponent h.exponent t }
  digit_fine Stuck t = same

  on_digit_lem : (s : Stage) → Fine (on_digit s c)
  unfolding Fine with_character on_digit
  on_digit_lem s = cond_cases Fine (between (char "0") (char "9") c) (λ t. digit_fine s t) (λ t. same)

  in_digits_lem : (s : Stage) → Fine (in_digits s c)
  unfolding Fine with_character in_digits
  in_digits_lem s = cond_cases Fine (eqb c (char "e") || eqb c (char "E")) (λ t. same) (λ t. on_digit_lem s)

  pub short_after : (s : Stage) → Short (i + 1) (with_character n (stage_after s c) c)
  unfolding Fine with_character stage_after
  short_after Start = cond_cases Fine (eqb c (char "-")) (λ t. sign_fine) (λ t. on_digit_lem Whole)
  short_after Minus = on_digit_lem Whole
  short_after Whole = cond_cases Fine (eqb c (char ".")) (λ t. same) (λ t. in_digits_lem Whole)
  short_after DecimalPoint = in_digits_lem Fraction
  short_after Fraction = in_digits_lem Fraction
  short_after ExponentMark = cond_cases Fine (eqb c (char "+") || eqb c (char "-")) (λ t. sign_fine) (λ t. on_digit_lem Exponent)
  short_after ExponentSign = on_digit_lem Exponent
  short_after Exponent = on_digit_lem Exponent
  short_after Stuck = same

-- nothing written
pub short_none : Short 0 unwritten
short_none = record { digits = lit< tt; places = omega arith; exponent = lit< tt }

-- a whole text
short_from : (i : ℕ) (s : Stage) (n : Scientific) (t : List ℕ) → i + length t ≤ 14 → Short i n → Short 14 (scientific_from s n t)
unfolding scientific_from
short_from i s n [] h k = short_up {i = i} {j = 14} (omega arith) k
short_from i s n (c ∷ t) h k = short_from (i + 1) (stage_after s c) (with_character n (stage_after s c) c) t (omega arith) (short_after i c n k s)

abbrev AllShort : Parsed → Type 0
AllShort (Parts n) = Short 14 n
AllShort NotCoefficient = Unit
AllShort TooWide = Unit

all_short : (t : List ℕ) → AllShort (parsed_of t)
unfolding parsed_of parsed
all_short t =
    cond_cases AllShort (ltb 14 (length t)) (λ q. tt)
    (λ q. cond_cases AllShort (is_coefficient (stage_from Start t))
    (λ _. short_from 0 Start unwritten t (omega (arith, ltb-false 14 (length t) q)) short_none) (λ _. tt))

-- the digits of a column are at most 14, and so are those of its exponent
pub parsed_short : (t : List ℕ) {n : Scientific} → parsed_of t ≡ Parts n → Short 14 n
parsed_short t e = subst AllShort e (all_short t)
