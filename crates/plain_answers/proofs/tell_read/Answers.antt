-- Case by case.
use mathlib.Core.List.{List, ◌∷◌}
use mathlib.Core.Path.{refl, ap}
use lib.IntN.{ℤ, pos}
use Rattle.outcomes.specs.Values.{value_of}
use Rattle.plain_answers.specs.Values.{of_value, of_reading}
use Rattle.telling.proofs.WordLaws.{kept}
use Rattle.telling.proofs.TellingLaws.{with_values}
use borrow.Author.Rules.{rules}
use Rattle.plain_answers.proofs.tell_read.Goals as goal

pub returns-in-Number : goal.returns-in-Number
unfolding value_of of_value of_reading
returns-in-Number c = with_values (λ x. of_reading (record { value = value_of x; valid = c.args.valid })) c.in-Number.is c.tell.ensures
    (ap (λ (zs : List ℤ). pos 0 ∷ zs) (kept {z = c.in-Number.v} refl (search rules)
    (kept c.as_flag.ensures (search rules) refl)))

pub returns-in-Part : goal.returns-in-Part
unfolding value_of of_value of_reading
returns-in-Part c = with_values (λ x. of_reading (record { value = value_of x; valid = c.args.valid })) c.in-Part.is c.tell-in-Part.ensures
    (ap (λ (zs : List ℤ). pos 1 ∷ zs)
    (kept c.as_word-start.ensures (search rules)
    (kept c.as_word-length.ensures (search rules)
    (kept c.as_flag-in-Part.ensures (search rules) refl))))

pub returns-in-Bits : goal.returns-in-Bits
unfolding value_of of_value of_reading
returns-in-Bits c = with_values (λ x. of_reading (record { value = value_of x; valid = c.args.valid })) c.in-Bits.is c.tell-in-Bits.ensures
    (ap (λ (zs : List ℤ). pos 2 ∷ zs)
    (kept c.as_word-bits.ensures (search rules)
    (kept c.as_word-count.ensures (search rules)
    (kept c.as_flag-in-Bits.ensures (search rules) refl))))
