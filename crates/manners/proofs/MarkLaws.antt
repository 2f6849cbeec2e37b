-- The marks of a row, the conditions that it meets, and the mark of a second row.
use mathlib.Core.Path.{◌≡◌, refl, sym, ap, ◌∙◌}
use mathlib.Core.Bool.{Bool, true, false}
use Prim.Native.Nat.{ℕ, ◌+◌, ◌*◌, ◌/◌, ◌%◌, ◌≤◌}
use native.Mathlib.Omega.{arith}
use lib.Dec.{eqb}
use borrow.Author.Tests.{eq-eqb, ne_eqb}
use Rattle.laws.proofs.Cases.{cond_cases}
use Rattle.verdicts.specs.Facts.{Condition, any_row, locatable, whole, numeric, points}
use Rattle.manners.specs.Manners.{second_column, second_condition, second_weight, bit, mark, weight, manner_at, marks_of, is_met_by, is_second, with_second}

-- a mark is at most its weight
pub mark_most : (met : Bool) {r : ℕ} (weight : ℕ) → r ≡ mark met weight → r ≤ weight
mark_most met weight e = rw e (cond_cases (λ (m : ℕ). m ≤ weight) met (λ _. omega arith) (λ _. omega arith))

bit_most : (b : Bool) → bit b ≤ 1
bit_most true = omega arith
bit_most false = omega arith

pub bit_back : (b : Bool) → eqb (bit b) 1 ≡ b
bit_back true = refl
bit_back false = refl

mark_bit : (b : Bool) (w : ℕ) → mark b w ≡ bit b * w
mark_bit true w = omega arith
mark_bit false w = omega arith

module _ (meets : Condition → Bool) where
  abbrev at : Condition → ℕ
  at c = bit (meets c)

  bits : marks_of meets ≡ at any_row + at locatable * 2 + at whole * 4 + at numeric * 8 + at points * 16
  unfolding marks_of weight
  bits =
      rw (mark_bit (meets any_row) 1, mark_bit (meets locatable) 2, mark_bit (meets whole) 4, mark_bit (meets numeric) 8, mark_bit (meets points) 16)
      (omega arith)

  -- the bit of a condition in the sum
  bit_of : (c : Condition) → marks_of meets / weight c % 2 ≡ at c
  unfolding weight
  bit_of any_row =
      rw bits
      (omega (arith, bit_most (meets any_row), bit_most (meets locatable), bit_most (meets whole), bit_most (meets numeric), bit_most (meets points)))
  bit_of locatable =
      rw bits
      (omega (arith, bit_most (meets any_row), bit_most (meets locatable), bit_most (meets whole), bit_most (meets numeric), bit_most (meets points)))
  bit_of whole =
      rw bits
      (omega (arith, bit_most (meets any_row), bit_most (meets locatable), bit_most (meets whole), bit_most (meets numeric), bit_most (meets points)))
  bit_of numeric =
      rw bits
      (omega (arith, bit_most (meets any_row), bit_most (meets locatable), bit_most (meets whole), bit_most (meets numeric), bit_most (meets points)))
  bit_of points =
      rw bits
      (omega (arith, bit_most (meets any_row), bit_most (meets locatable), bit_most (meets whole), bit_most (meets numeric), bit_most (meets points)))

  -- a condition is met where its mark says so
  pub marked : (c : Condition) → meets c ≡ is_met_by (marks_of meets) (weight c)
  unfolding is_met_by
  marked c = sym (bit_back (meets c)) ∙ ap (λ (n : ℕ). eqb n 1) (sym (bit_of c))

-- whether what a naming found is a second row, by the naming's column
module _ (code marks column : ℕ) (is : column ≡ (manner_at code).column) where
  pub second_column_lem : column ≡ second_column → (b : Bool) → b ≡ is_met_by marks (weight second_condition) → b ≡ is_second code marks
  unfolding is_second
  second_column_lem h b met = rw (← is, eq-eqb column second_column h) met

  pub second_other : (column ≡ second_column → ⊥) → false ≡ is_second code marks
  unfolding is_second
  second_other h = rw (← is, ne_eqb column second_column h)

module _ (marks : ℕ) (t : Bool) where
  pub second_yes : t ≡ true → marks % second_weight + second_weight ≡ with_second marks t
  unfolding with_second
  second_yes h = rw h

  pub second_no : t ≡ false → marks % second_weight ≡ with_second marks t
  unfolding with_second
  second_no h = rw h (omega arith)

  -- the mark of a second row leaves the others
  other_bits : (c : Condition) → (marks % second_weight + bit t * second_weight) / weight c % 2 ≡ marks / weight c % 2
  unfolding weight
  other_bits any_row = omega (arith, bit_most t)
  other_bits locatable = omega (arith, bit_most t)
  other_bits whole = omega (arith, bit_most t)
  other_bits numeric = omega (arith, bit_most t)
  other_bits points = omega (arith, bit_most t)

  pub second_apart : (c : Condition) → is_met_by (with_second marks t) (weight c) ≡ is_met_by marks (weight c)
  unfolding is_met_by with_second
  second_apart c = rw (mark_bit t second_weight, other_bits c)

  -- and tells of itself
  last_bit : (marks % second_weight + bit t * second_weight) / second_weight % 2 ≡ bit t
  last_bit = omega (arith, bit_most t)

  pub second_told : is_met_by (with_second marks t) second_weight ≡ t
  unfolding is_met_by with_second
  second_told = rw (mark_bit t second_weight, last_bit) (bit_back t)
