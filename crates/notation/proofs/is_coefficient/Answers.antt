-- `notation::is_coefficient` meets its contract.
use mathlib.Core.Path.{◌≡◌, refl}
use mathlib.Core.Bool.{true, false}
use mathlib.Core.List.{List, [], ◌∷◌}
use Prim.Native.Nat.{ℕ}
use denote.Enum.Declared.{tag_of}
use types.Run.{OneOf, miss}
use borrow.Enum.Refused.{opened}
use Rattle.notation.specs.Stages.{is_coefficient}
use Rattle.notation.specs.declared.Stage.{Stage}
use Rattle.notation.specs.declared.Stage.TheVariants.{Start, Minus, Whole, DecimalPoint, Fraction, ExponentMark, ExponentSign, Exponent, Stuck}
use Rattle.notation.specs.contracts.Stage.{the_type}
use Rattle.notation.proofs.is_coefficient.Goals as goal

-- the tags of the stages that end a coefficient, and those of the others
abbrev ends : List ℕ
ends = 2 ∷ 3 ∷ 4 ∷ 7 ∷ []

abbrev others : List ℕ
others = 0 ∷ 1 ∷ 5 ∷ 6 ∷ 8 ∷ []

end : (s : Stage) → OneOf ends (tag_of the_type s) → true ≡ is_coefficient s
unfolding is_coefficient
end Start h = absurd (miss ends 0 tt h)
end Minus h = absurd (miss ends 1 tt h)
end Whole h = refl
end DecimalPoint h = refl
end Fraction h = refl
end ExponentMark h = absurd (miss ends 5 tt h)
end ExponentSign h = absurd (miss ends 6 tt h)
end Exponent h = refl
end Stuck h = absurd (miss ends 8 tt h)

other : (s : Stage) → OneOf others (tag_of the_type s) → false ≡ is_coefficient s
unfolding is_coefficient
other Start h = refl
other Minus h = refl
other Whole h = absurd (miss others 2 tt h)
other DecimalPoint h = absurd (miss others 3 tt h)
other Fraction h = absurd (miss others 4 tt h)
other ExponentMark h = refl
other ExponentSign h = refl
other Exponent h = absurd (miss others 7 tt h)
other Stuck h = refl

pub returns-in-Whole : goal.returns-in-Whole
returns-in-Whole c = end c.args.s c.in-Whole.in-Whole-own.keys1

pub returns-in_default : goal.returns-in_default
returns-in_default c = other c.args.s (opened c.in_default.in_default-own.keys2)
