-- Case by case.
use mathlib.Core.List.{List, ◌∷◌}
use mathlib.Core.Path.{refl, ap, ◌∙◌}
use Rattle.std.specs.Prelude.{Ok}
use lib.IntN.{ℤ, pos}
use Rattle.engineering.specs.Engineering.{said_engineered}
use Rattle.plain_answers.specs.Values.{of_engineered}
use Rattle.telling.specs.Words.{word}
use Rattle.telling.proofs.WordLaws.{kept}
use Rattle.telling.proofs.TellingLaws.{plain_refused, plain_values}
use borrow.Author.Rules.{rules}
use Rattle.plain_answers.proofs.tell_engineered.Goals as goal

pub returns-in-Is : goal.returns-in-Is
unfolding said_engineered of_engineered
returns-in-Is c = plain_values of_engineered _ (ap said_engineered c.in-Ok.is ∙ ap (λ x. said_engineered (Ok x)) c.in-Is.is) c.tell_value.ensures refl

pub returns-in-Double : goal.returns-in-Double
unfolding said_engineered of_engineered
returns-in-Double c = plain_values of_engineered _ (ap said_engineered c.in-Ok.is ∙ ap (λ x. said_engineered (Ok x)) c.in-Double.is) c.tell.ensures
    (ap (λ (zs : List ℤ). pos 3 ∷ zs)
    (kept (c.as_word.ensures ∙ ap word c.bits_of.ensures) (search rules) refl))

pub returns-in-Text : goal.returns-in-Text
unfolding said_engineered of_engineered
returns-in-Text c = plain_values of_engineered _ (ap said_engineered c.in-Ok.is ∙ ap (λ x. said_engineered (Ok x)) c.in-Text.is) c.tell-in-Text.ensures
    (ap (λ (zs : List ℤ). pos 2 ∷ zs)
    (kept c.as_word-number.ensures (search rules)
    (kept c.as_word-start.ensures (search rules)
    (kept c.as_word-length.ensures (search rules) refl))))

pub returns-in-Err : goal.returns-in-Err
unfolding said_engineered
returns-in-Err c = plain_refused of_engineered _ (ap said_engineered c.in-Err.is) c.tell_refusal.ensures
