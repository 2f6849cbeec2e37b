-- By the five numbers.
use mathlib.Core.Path.{◌≡◌, sym, ap, ◌∙◌}
use borrow.Author.Tests.{eq-eqb, ne_eqb}
use mir.Facts.{to_z-of_z}
use mir.Val.{SFits, to_z, of_z}
use mir.Syntax.{w64}
use Rattle.inside.specs.Inside.{line_answer}
use Rattle.inside.specs.Inside.{line_reply, line_asked}
use borrow.Author.Rules.{rules}
use Rattle.inside.proofs.inner.ask_line.Goals as goal

pub returns-then-column_count-ne5 : goal.returns-then-column_count-ne5
unfolding line_reply
returns-then-column_count-ne5 c = c.unread.ensures ∙ rw (ne_eqb _ 5 (λ p. c.if-column_count-ne5.true (c.column_count.ensures ∙ p)))

pub returns-in_default : goal.returns-in_default
unfolding line_reply line_asked
returns-in_default c = c.unread-in_default.ensures ∙ rw (
  eq-eqb _ 5 (sym c.column_count.ensures ∙ c.if-column_count-ne5.false),
  sym c.integer_at.ensures ∙ c.in_default.is,
)

pub returns-in_default-integer_at : goal.returns-in_default-integer_at
unfolding line_reply line_asked
returns-in_default-integer_at c = c.unread-in_default-integer_at.ensures ∙ rw (
  eq-eqb _ 5 (sym c.column_count.ensures ∙ c.if-column_count-ne5.false),
  sym c.integer_at.ensures ∙ c.in-Some.is,
  sym c.integer_at-2.ensures ∙ c.in_default-integer_at.is,
)

pub returns-in_default-integer_at-2 : goal.returns-in_default-integer_at-2
unfolding line_reply line_asked
returns-in_default-integer_at-2 c = c.unread-in_default-integer_at-2.ensures ∙ rw (
  eq-eqb _ 5 (sym c.column_count.ensures ∙ c.if-column_count-ne5.false),
  sym c.integer_at.ensures ∙ c.in-Some.is,
  sym c.integer_at-2.ensures ∙ c.in-Some-integer_at.is,
  sym c.integer_at-3.ensures ∙ c.in_default-integer_at-2.is,
)

pub returns-in_default-integer_at-3 : goal.returns-in_default-integer_at-3
unfolding line_reply line_asked
returns-in_default-integer_at-3 c = c.unread-in_default-integer_at-3.ensures ∙ rw (
  eq-eqb _ 5 (sym c.column_count.ensures ∙ c.if-column_count-ne5.false),
  sym c.integer_at.ensures ∙ c.in-Some.is,
  sym c.integer_at-2.ensures ∙ c.in-Some-integer_at.is,
  sym c.integer_at-3.ensures ∙ c.in-Some-integer_at-2.is,
  sym c.integer_at-4.ensures ∙ c.in_default-integer_at-3.is,
)

pub returns-in_default-integer_at-4 : goal.returns-in_default-integer_at-4
unfolding line_reply line_asked
returns-in_default-integer_at-4 c = c.unread-in_default-integer_at-4.ensures ∙ rw (
  eq-eqb _ 5 (sym c.column_count.ensures ∙ c.if-column_count-ne5.false),
  sym c.integer_at.ensures ∙ c.in-Some.is,
  sym c.integer_at-2.ensures ∙ c.in-Some-integer_at.is,
  sym c.integer_at-3.ensures ∙ c.in-Some-integer_at-2.is,
  sym c.integer_at-4.ensures ∙ c.in-Some-integer_at-3.is,
  sym c.integer_at-5.ensures ∙ c.in_default-integer_at-4.is,
)

pub returns : goal.returns
unfolding line_reply line_asked
returns c =
    let word1 : to_z w64 (of_z w64 c.in-Some.x0) ≡ c.in-Some.x0 = let f : SFits w64 c.in-Some.x0 = search rules in
    to_z-of_z f in
    let word2 : to_z w64 (of_z w64 c.in-Some-integer_at.y0) ≡ c.in-Some-integer_at.y0 = let f : SFits w64 c.in-Some-integer_at.y0 = search rules in
    to_z-of_z f in
    let word3 : to_z w64 (of_z w64 c.in-Some-integer_at-2.x1) ≡ c.in-Some-integer_at-2.x1 = let f : SFits w64 c.in-Some-integer_at-2.x1 = search rules in
    to_z-of_z f in
    let word4 : to_z w64 (of_z w64 c.in-Some-integer_at-3.y1) ≡ c.in-Some-integer_at-3.y1 = let f : SFits w64 c.in-Some-integer_at-3.y1 = search rules in
    to_z-of_z f in
    let word5 : to_z w64 (of_z w64 c.in-Some-integer_at-4.x) ≡ c.in-Some-integer_at-4.x = let f : SFits w64 c.in-Some-integer_at-4.x = search rules in
    to_z-of_z f in
    rw (
      eq-eqb _ 5 (sym c.column_count.ensures ∙ c.if-column_count-ne5.false),
      sym c.integer_at.ensures ∙ c.in-Some.is,
      sym c.integer_at-2.ensures ∙ c.in-Some-integer_at.is,
      sym c.integer_at-3.ensures ∙ c.in-Some-integer_at-2.is,
      sym c.integer_at-4.ensures ∙ c.in-Some-integer_at-3.is,
      sym c.integer_at-5.ensures ∙ c.in-Some-integer_at-4.is,
    )
    (c.say_line.ensures
    ∙ ap line_answer (simp (word1, word2, word3, word4, word5) at c.on_line.ensures))
