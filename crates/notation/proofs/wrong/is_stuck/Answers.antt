-- One stage is stuck.
use mathlib.Core.Path.{◌≡◌, refl}
use mathlib.Core.Bool.{false}
use mathlib.Core.List.{List, [], ◌∷◌}
use Prim.Native.Nat.{ℕ}
use denote.Enum.Declared.{tag_of}
use types.Run.{OneOf, miss}
use borrow.Enum.Refused.{opened}
use Rattle.notation.specs.Positions.{is_stuck}
use Rattle.notation.specs.declared.Stage.{Stage}
use Rattle.notation.specs.declared.Stage.TheVariants.{Start, Minus, Whole, DecimalPoint, Fraction, ExponentMark, ExponentSign, Exponent, Stuck}
use Rattle.notation.specs.contracts.Stage.{the_type}
use Rattle.notation.proofs.wrong.is_stuck.Goals as goal

-- the tags of the others
abbrev others : List ℕ
others = 0 ∷ 1 ∷ 2 ∷ 3 ∷ 4 ∷ 5 ∷ 6 ∷ 7 ∷ []

other : (s : Stage) → OneOf others (tag_of the_type s) → false ≡ is_stuck s
unfolding is_stuck
other Start h = refl
other Minus h = refl
other Whole h = refl
other DecimalPoint h = refl
other Fraction h = refl
other ExponentMark h = refl
other ExponentSign h = refl
other Exponent h = refl
other Stuck h = absurd (miss others 8 tt h)

pub returns-in-Stuck : goal.returns-in-Stuck
unfolding is_stuck
returns-in-Stuck c = rw c.in-Stuck.is

pub returns-in_default : goal.returns-in_default
returns-in_default c = other c.args.s (opened c.in_default.in_default-own.keys2)
