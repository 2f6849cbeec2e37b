-- The numbers that the text of a coefficient writes.
use Rattle.std.specs.Prelude.{ℕ, ◌+◌, ◌-◌, ◌*◌, ◌^◌, ◌<◌, ◌≤◌, ◌≡◌, refl, List, [], ◌∷◌, Bool, true, false, cond, eqb, ltb, length}
use Rattle.laws.specs.Text.{ascii, char}
use Rattle.notation.specs.Stages.{on_digit, in_digits, stage_after, stage_from, is_coefficient}
use Rattle.notation.specs.declared.Stage.{Stage}
use Rattle.notation.specs.declared.Stage.TheVariants.{Start, Minus, Whole, DecimalPoint, Fraction, ExponentMark, ExponentSign, Exponent, Stuck}
use Rattle.notation.specs.declared.Scientific.{Scientific}
use Rattle.notation.specs.declared.Parsed.{Parsed}
use Rattle.notation.specs.declared.Parsed.TheVariants.{Parts, NotCoefficient, TooWide}

-- a number with one more digit
unfoldable pub with_digit : ℕ → ℕ → ℕ
with_digit n c = n * 10 + (c - char "0")

abbrev pub parts : (negative : Bool) (digits places : ℕ) (lowers : Bool) (exponent : ℕ) → Scientific
parts m n p l e = record { negative = m; digits = n; places = p; lowers = l; exponent = e }

-- nothing is written yet; the exponent is 0 if none is written
abbrev pub unwritten : Scientific
unwritten = parts false 0 0 false 0

-- the numbers with one more character, c, which led to this stage
unfoldable pub with_character : Scientific → Stage → ℕ → Scientific
with_character n Start c = n
with_character n Minus c = parts true n.digits n.places n.lowers n.exponent
with_character n Whole c = parts n.negative (with_digit n.digits c) n.places n.lowers n.exponent
with_character n DecimalPoint c = n
with_character n Fraction c = parts n.negative (with_digit n.digits c) (n.places + 1) n.lowers n.exponent
with_character n ExponentMark c = n
with_character n ExponentSign c = parts n.negative n.digits n.places (eqb c (char "-")) n.exponent
with_character n Exponent c = parts n.negative n.digits n.places n.lowers (with_digit n.exponent c)
with_character n Stuck c = n

-- the numbers after all characters of a text that goes on from a stage
unfoldable pub scientific_from : Stage → Scientific → List ℕ → Scientific
scientific_from s n [] = n
scientific_from s n (c ∷ cs) = scientific_from (stage_after s c) (with_character n (stage_after s c) c) cs

-- what a text is once it is walked
unfoldable pub parsed : Stage → Scientific → Parsed
parsed s n = cond (is_coefficient s) (Parts n) NotCoefficient

-- 02, P1: "POL1 14!, POL2 to POL5 14 each"
unfoldable pub parsed_of : List ℕ → Parsed
parsed_of text = cond (ltb 14 (length text)) TooWide (parsed (stage_from Start text) (scientific_from Start unwritten text))

-- numbers of at most i digits
pub record Short (i : ℕ) (n : Scientific) : Type 0 where
  pub digits : n.digits < 10 ^ i
  pub places : n.places ≤ i
  pub exponent : n.exponent < 10 ^ i

pub record Examples : Type 0 where
  pub whole : parsed_of (ascii "08") ≡ Parts (parts false 8 0 false 0)
  pub fraction : parsed_of (ascii "-12.50") ≡ Parts (parts true 1250 2 false 0)
  pub power : parsed_of (ascii "1.e5") ≡ Parts (parts false 1 0 false 5)
  pub tiny : parsed_of (ascii "0.5E-05") ≡ Parts (parts false 5 1 true 5)
  pub long : parsed_of (ascii "1e000000000022") ≡ Parts (parts false 1 0 false 22)
  pub wide : parsed_of (ascii "1e0000000000022") ≡ TooWide
  pub no_digit : parsed_of (ascii "") ≡ NotCoefficient

pub examples : Examples
unfolding parsed_of parsed is_coefficient scientific_from with_character with_digit stage_from stage_after in_digits on_digit
examples = record { whole = refl; fraction = refl; power = refl; tiny = refl; long = refl; wide = refl; no_digit = refl }
