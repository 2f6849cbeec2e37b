-- Laws of a cell and its position in words.
use mathlib.Core.Path.{◌≡◌}
use mathlib.Core.Bool.{false}
use mathlib.Core.List.{[], ◌∷◌}
use Prim.Native.Nat.{ℕ, ◌/◌, ◌%◌}
use borrow.Author.Tests.{eq-eqb, ne_eqb}
use Rattle.laws.specs.Text.{ascii}
use Rattle.answers.specs.Answers.{saying, words_answer, one, two}
use Rattle.replies.specs.Replies.{cell_answer}

module _ (cell position : ℕ) where
  pub cell_position : (position ≡ 0 → ⊥)
      → saying (ascii "#:#@#") false (cell / 256 ∷ cell % 256 ∷ position ∷ 0 ∷ 0 ∷ 0 ∷ 0 ∷ []) ≡ cell_answer cell position
  unfolding cell_answer
  cell_position n = rw (ne_eqb position 0 n)

  pub cell_zero : position ≡ 0 → cell ≡ 0 → saying (ascii "good") false (one 0) ≡ cell_answer cell position
  unfolding cell_answer words_answer
  cell_zero p e = rw (eq-eqb position 0 p, eq-eqb cell 0 e)

  pub cell_reason : position ≡ 0 → (cell ≡ 0 → ⊥) → saying (ascii "#:#") false (two (cell / 256) (cell % 256)) ≡ cell_answer cell position
  unfolding cell_answer
  cell_reason p n = rw (eq-eqb position 0 p, ne_eqb cell 0 n)
