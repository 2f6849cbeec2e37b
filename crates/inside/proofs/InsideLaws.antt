-- Laws of two numbers that a question names, one for each case.
use mathlib.Core.Path.{◌≡◌, sym, ◌∙◌}
use mathlib.Core.List.{List}
use Prim.Native.Nat.{ℕ}
use lib.ListN.{length}
use borrow.Author.Tests.{eq-eqb, ne_eqb}
use Rattle.lines.specs.Columns.{columns_of, column_at}
use Rattle.std.specs.Prelude.{Option, Some, None}
use Rattle.scripts.specs.Numerals.{natural_in, at_most}
use Rattle.answers.specs.declared.answer.Answer.{Answer}
use Rattle.answers.specs.Answers.{unreadable}
use Rattle.inside.specs.declared.inner.Pair.{Pair}
use Rattle.inside.specs.Inside.{pair_of, pair_in, by_pair}

pub by_pair_lem : (f : ℕ → ℕ → Answer) (o : Option Pair) (p : Pair) → o ≡ Some p → f p.first p.second ≡ by_pair f o
unfolding by_pair
by_pair_lem f o p e = rw e

pub by_no_pair : (f : ℕ → ℕ → Answer) (o : Option Pair) → o ≡ None → unreadable ≡ by_pair f o
unfolding by_pair
by_no_pair f o e = rw e

module _ (m n : ℕ) (text : List ℕ) (count : ℕ) (c : count ≡ length (columns_of text)) where
  pub pair_count : (count ≡ 2 → ⊥) → None ≡ pair_in m n text
  unfolding pair_in
  pair_count h = rw (ne_eqb (length (columns_of text)) 2 (λ p. h (c ∙ p)))

  pub pair_first : count ≡ 2 → at_most m (natural_in (column_at (columns_of text) 0)) ≡ None → None ≡ pair_in m n text
  unfolding pair_in pair_of
  pair_first h e = rw (eq-eqb (length (columns_of text)) 2 (sym c ∙ h), e)

  pub pair_second : (a : ℕ) → count ≡ 2 → at_most m (natural_in (column_at (columns_of text) 0)) ≡ Some a
      → at_most n (natural_in (column_at (columns_of text) 1)) ≡ None → None ≡ pair_in m n text
  unfolding pair_in pair_of
  pair_second a h e f = rw (eq-eqb (length (columns_of text)) 2 (sym c ∙ h), e, f)

  pub pair_both : (a b : ℕ) → count ≡ 2 → at_most m (natural_in (column_at (columns_of text) 0)) ≡ Some a
      → at_most n (natural_in (column_at (columns_of text) 1)) ≡ Some b → ◌≡◌ {A = Option Pair} (Some (record { first = a; second = b })) (pair_in m n text)
  unfolding pair_in pair_of
  pair_both a b h e f = rw (eq-eqb (length (columns_of text)) 2 (sym c ∙ h), e, f)
