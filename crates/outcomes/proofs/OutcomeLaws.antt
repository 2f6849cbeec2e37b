-- Answers step by step.
use mathlib.Core.Path.{◌≡◌, sym, ap, ◌∙◌}
use Rattle.std.specs.Prelude.{Result, Ok, Err, IsErr}
use Rattle.std.specs.Result.{IsErrAnd}
use Rattle.outcomes.specs.Outcome.{Outcome, answer, and_then}
use Rattle.outcomes.specs.Refusals.{refused_by}
use Rattle.outcomes.specs.declared.Refusal.{Refusal}

-- what is said of a value is said of each of its cases
pub told : {X Y : Type 0} (said : X → Y) {x y : X} {s : Y} → said x ≡ s → x ≡ y → said y ≡ s
told said h e = ap said (sym e) ∙ h

-- what `?` returns is the refusal that it met
pub passed_on : {A : Type 0} {e : Refusal} (r : Result A Refusal) → IsErr r × IsErrAnd r (λ x. x ≡ e) → r ≡ Err e
passed_on (Ok a) h = absurd h.1
passed_on (Err x) h = ap Err h.1

module _ {A B : Type 0} (f : A → Outcome B) {s : Outcome A} where
  pub then_answer : {a : A} {t : Outcome B} → answer a ≡ s → t ≡ f a → t ≡ and_then s f
  unfolding and_then
  then_answer e h = h ∙ ap (λ (o : Outcome A). and_then o f) e

  pub then_refused : (refusal : Refusal) → refused_by refusal ≡ s → refused_by refusal ≡ and_then s f
  unfolding and_then refused_by
  then_refused refusal e = ap (λ (o : Outcome A). and_then o f) e
