-- Case by case.
use mathlib.Core.List.{List, ◌∷◌}
use mathlib.Core.Path.{refl, ap}
use lib.IntN.{ℤ, pos}
use Rattle.outcomes.specs.Values.{value_of}
use Rattle.plain_answers.specs.Values.{of_value}
use Rattle.telling.proofs.WordLaws.{kept}
use Rattle.telling.proofs.TellingLaws.{with_values}
use borrow.Author.Rules.{rules}
use Rattle.plain_answers.proofs.tell_value.Goals as goal

pub returns-in-Number : goal.returns-in-Number
unfolding value_of of_value
returns-in-Number c = with_values (λ x. of_value 4 (value_of x)) c.in-Number.is c.tell.ensures
    (ap (λ (zs : List ℤ). pos 0 ∷ zs) (kept {z = c.in-Number.v} refl (search rules) refl))

pub returns-in-Part : goal.returns-in-Part
unfolding value_of of_value
returns-in-Part c = with_values (λ x. of_value 4 (value_of x)) c.in-Part.is c.tell-in-Part.ensures
    (ap (λ (zs : List ℤ). pos 1 ∷ zs)
    (kept c.as_word-start.ensures (search rules)
    (kept c.as_word-length.ensures (search rules) refl)))

pub returns-in-Bits : goal.returns-in-Bits
unfolding value_of of_value
returns-in-Bits c = with_values (λ x. of_value 4 (value_of x)) c.in-Bits.is c.tell-in-Bits.ensures
    (ap (λ (zs : List ℤ). pos 4 ∷ zs)
    (kept c.as_word-bits.ensures (search rules)
    (kept c.as_word-count.ensures (search rules) refl)))
