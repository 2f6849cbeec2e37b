-- By the five numbers.
use mathlib.Core.Path.{sym, ◌∙◌}
use native.Mathlib.Omega.{arith}
use borrow.Author.Tests.{eq-eqb, ne_eqb}
use Rattle.scripts.proofs.NumeralLaws.{most_is}
use Rattle.settings.specs.Settings.{state_text, state_of}
use Rattle.settings.proofs.state_in.Goals as goal

pub returns-then-column_count-ne5 : goal.returns-then-column_count-ne5
unfolding state_text
returns-then-column_count-ne5 c = rw (ne_eqb _ 5 (λ p. c.if-column_count-ne5.true (c.column_count.ensures ∙ p)))

pub returns-in_default : goal.returns-in_default
unfolding state_text state_of
returns-in_default c = rw (
  eq-eqb _ 5 (sym c.column_count.ensures ∙ c.if-column_count-ne5.false),
  sym c.natural_at.ensures ∙ c.in_default.is,
)

pub returns-in_default-natural_at : goal.returns-in_default-natural_at
unfolding state_text state_of
returns-in_default-natural_at c = rw (
  eq-eqb _ 5 (sym c.column_count.ensures ∙ c.if-column_count-ne5.false),
  sym c.natural_at.ensures ∙ c.in-Some.is,
  sym c.natural_at-2.ensures ∙ c.in_default-natural_at.is,
)

pub returns-in_default-natural_at-2 : goal.returns-in_default-natural_at-2
unfolding state_text state_of
returns-in_default-natural_at-2 c = rw (
  eq-eqb _ 5 (sym c.column_count.ensures ∙ c.if-column_count-ne5.false),
  sym c.natural_at.ensures ∙ c.in-Some.is,
  sym c.natural_at-2.ensures ∙ c.in-Some-natural_at.is,
  sym c.natural_at-3.ensures ∙ c.in_default-natural_at-2.is,
)

pub returns-in_default-natural_at-3 : goal.returns-in_default-natural_at-3
unfolding state_text state_of
returns-in_default-natural_at-3 c = rw (
  eq-eqb _ 5 (sym c.column_count.ensures ∙ c.if-column_count-ne5.false),
  sym c.natural_at.ensures ∙ c.in-Some.is,
  sym c.natural_at-2.ensures ∙ c.in-Some-natural_at.is,
  sym c.natural_at-3.ensures ∙ c.in-Some-natural_at-2.is,
  sym c.natural_at-4.ensures ∙ c.in_default-natural_at-3.is,
)

pub returns-in_default-natural_at-4 : goal.returns-in_default-natural_at-4
unfolding state_text state_of
returns-in_default-natural_at-4 c = rw (
  eq-eqb _ 5 (sym c.column_count.ensures ∙ c.if-column_count-ne5.false),
  sym c.natural_at.ensures ∙ c.in-Some.is,
  sym c.natural_at-2.ensures ∙ c.in-Some-natural_at.is,
  sym c.natural_at-3.ensures ∙ c.in-Some-natural_at-2.is,
  sym c.natural_at-4.ensures ∙ c.in-Some-natural_at-3.is,
  sym c.natural_at-5.ensures ∙ c.in_default-natural_at-4.is,
)

pub overflow_cast-result : goal.overflow_cast-result
overflow_cast-result c = omega (arith, most_is 65535 _ _ (sym c.natural_at-2.ensures ∙ c.in-Some-natural_at.is))

pub overflow_cast-result-2 : goal.overflow_cast-result-2
overflow_cast-result-2 c = omega (arith, most_is 65535 _ _ (sym c.natural_at-3.ensures ∙ c.in-Some-natural_at-2.is))

pub overflow_cast-result-3 : goal.overflow_cast-result-3
overflow_cast-result-3 c = omega (arith, most_is 255 _ _ (sym c.natural_at-4.ensures ∙ c.in-Some-natural_at-3.is))

pub overflow_cast-result-4 : goal.overflow_cast-result-4
overflow_cast-result-4 c = omega (arith, most_is 255 _ _ (sym c.natural_at-5.ensures ∙ c.in-Some-natural_at-4.is))

pub returns : goal.returns
unfolding state_text state_of
returns c = rw (
  eq-eqb _ 5 (sym c.column_count.ensures ∙ c.if-column_count-ne5.false),
  sym c.natural_at.ensures ∙ c.in-Some.is,
  sym c.natural_at-2.ensures ∙ c.in-Some-natural_at.is,
  sym c.natural_at-3.ensures ∙ c.in-Some-natural_at-2.is,
  sym c.natural_at-4.ensures ∙ c.in-Some-natural_at-3.is,
  sym c.natural_at-5.ensures ∙ c.in-Some-natural_at-4.is,
)
