-- `notation::with_character` meets its contract.
use mathlib.Core.List.{List, [], ◌∷◌}
use Prim.Native.Nat.{ℕ}
use denote.Enum.Declared.{tag_of}
use types.Run.{OneOf, miss}
use Rattle.notation.specs.declared.Scientific.{Scientific}
use Rattle.notation.specs.declared.Stage.{Stage}
use Rattle.notation.specs.declared.Stage.TheVariants.{Start, Minus, Whole, DecimalPoint, Fraction, ExponentMark, ExponentSign, Exponent, Stuck}
use Rattle.notation.specs.contracts.Stage.{the_type}
use mathlib.Core.Path.{◌≡◌, refl}
use Rattle.notation.specs.Scientific.{with_character}
use Rattle.notation.proofs.with_character.Goals as goal

-- the tags of the stages that no number is with_character at
abbrev others : List ℕ
others = 0 ∷ 3 ∷ 5 ∷ 8 ∷ []

other : (n : Scientific) (s : Stage) (b : ℕ) → OneOf others (tag_of the_type s) → n ≡ with_character n s b
unfolding with_character
other n Start b h = refl
other n Minus b h = absurd (miss others 1 tt h)
other n Whole b h = absurd (miss others 2 tt h)
other n DecimalPoint b h = refl
other n Fraction b h = absurd (miss others 4 tt h)
other n ExponentMark b h = refl
other n ExponentSign b h = absurd (miss others 6 tt h)
other n Exponent b h = absurd (miss others 7 tt h)
other n Stuck b h = refl

pub returns-in-Minus : goal.returns-in-Minus
unfolding with_character
returns-in-Minus c = rw c.in-Minus.is

pub returns-in-Whole : goal.returns-in-Whole
unfolding with_character
returns-in-Whole c = rw c.in-Whole.is (rw c.with_digit.ensures)

pub returns-in-Fraction : goal.returns-in-Fraction
unfolding with_character
returns-in-Fraction c = rw c.in-Fraction.is (rw c.with_digit-in-Fraction.ensures)

pub returns-in-ExponentSign : goal.returns-in-ExponentSign
unfolding with_character
returns-in-ExponentSign c = rw c.in-ExponentSign.is

pub returns-in-Exponent : goal.returns-in-Exponent
unfolding with_character
returns-in-Exponent c = rw c.in-Exponent.is (rw c.with_digit-in-Exponent.ensures)

pub returns-in_default : goal.returns-in_default
returns-in_default c = other _ c.args.s _ c.in_default.in_default-own.keys6
