-- The reasons of a column, case by case as the code tells them apart.
use mathlib.Core.Path.{◌≡◌, refl, sym}
use mathlib.Core.List.{List, [], ◌∷◌}
use mathlib.Core.Bool.{Bool, true, false, cond}
use mathlib.Core.Option.{Option, some, none}
use Prim.Native.Nat.{ℕ, ◌+◌, ◌-◌, ◌^◌, ◌≤◌, ◌<◌}
use native.Mathlib.Numerals.{add-one}
use native.Mathlib.Omega.{arith}
use lib.Dec.{ltb}
use lib.ListN.{length, get_or, take, drop_of_length-le, get_or-eq_default}
use lib.Seq.{slice, slice-cons, length-take-le}
use borrow.Author.Tests.{eq-eqb, ne_eqb}
use lib.IntN.{ℤ, nat_abs}
use lib.Signed.{le_z}
use Rattle.numbers.proofs.Answers.{Large, large_outside}
use Rattle.column_checks.specs.Schema.{Column}
use Rattle.column_checks.specs.ColumnReasons.{is_in, listed, number_reason, kind_reason, column_reason}
use Rattle.column_checks.specs.ColumnKinds.{letter_lists, letters_at}

pub listed_one : (letters text : List ℕ) → length text ≡ 1 → listed letters text ≡ is_in (get_or text 0 0) letters
unfolding listed
listed_one letters [] h = absurd (omega arith)
listed_one letters (b ∷ []) h = refl
listed_one letters (b ∷ x ∷ bs) h = absurd (omega arith)

pub listed_not_one : (letters text : List ℕ) → (length text ≡ 1 → ⊥) → listed letters text ≡ false
unfolding listed
listed_not_one letters [] h = refl
listed_not_one letters (b ∷ []) h = absurd (h refl)
listed_not_one letters (b ∷ x ∷ bs) h = refl

-- a byte sought among the letters from i to before e
module _ (b : ℕ) (l : List ℕ) (i e : ℕ) (k : e ≤ length l) where
  pub among_none : e ≤ i → is_in b (slice i e l) ≡ false
  unfolding is_in
  among_none h = let n : length (take e l) ≤ i = omega (arith, length-take-le e l k) in rw (drop_of_length-le (take e l) n)

  module _ (h : i < e) where
    pub among_here : get_or l i 0 ≡ b → is_in b (slice i e l) ≡ true
    unfolding is_in
    among_here p = rw (slice-cons i e l 0 h k, eq-eqb b (get_or l i 0) (sym p))

    pub among_more : (get_or l i 0 ≡ b → ⊥) → is_in b (slice i e l) ≡ is_in b (slice (i + 1) e l)
    unfolding is_in
    among_more n = rw (add-one, slice-cons i e l 0 h k, ne_eqb b (get_or l i 0) (λ p. n (sym p)))

-- a number that is neither n nor below it
pub above : (n : ℕ) {k : ℕ} → n ≤ k → (k ≡ n → ⊥) → n + 1 ≤ k
above n h e = omega arith

-- a kind past the last has no letters
pub letters_none : (k : ℕ) → 137 ≤ k → letters_at k ≡ []
unfolding letters_at
letters_none k h = let n : 9 ≤ k - 128 = omega arith in get_or-eq_default letter_lists [] n

-- an empty column, and one that isn't
pub empty_reason : (column : Column) (text : List ℕ) → length text ≡ 0 → column_reason column text ≡ cond column.mandatory 4 0
unfolding column_reason
empty_reason column [] h = refl
empty_reason column (b ∷ bs) h = absurd (omega arith)

pub full_reason : (column : Column) (text : List ℕ) → (length text ≡ 0 → ⊥)
    → column_reason column text ≡ cond (ltb column.width (length text)) 5 (kind_reason column.kind text)
unfolding column_reason
full_reason column [] h = absurd (h refl)
full_reason column (b ∷ bs) h = refl

-- the reason of a number by the tests of its range
module _ (lowest highest : ℤ) (bare : Bool) {n : Option ℤ} where
  pub in_range : {v : ℤ} → n ≡ some v → le_z lowest v ≡ true → le_z v highest ≡ true → 0 ≡ number_reason lowest highest bare n
  unfolding number_reason
  in_range e p q = rw (e, p, q)

  pub too_high : {v : ℤ} → n ≡ some v → le_z lowest v ≡ true → le_z v highest ≡ false → 7 ≡ number_reason lowest highest bare n
  unfolding number_reason
  too_high e p q = rw (e, p, q)

  pub too_low : {v : ℤ} → n ≡ some v → le_z lowest v ≡ false → 7 ≡ number_reason lowest highest bare n
  unfolding number_reason
  too_low e p = rw (e, p)

  pub without_digits : n ≡ none → bare ≡ true → 6 ≡ number_reason lowest highest bare n
  unfolding number_reason
  without_digits e b = rw (e, b)

  pub wrong_digit : n ≡ none → bare ≡ false → 13 ≡ number_reason lowest highest bare n
  unfolding number_reason
  wrong_digit e b = rw (e, b)

  pub too_large : nat_abs lowest < 2 ^ 60 → nat_abs highest < 2 ^ 60 → Large n → 7 ≡ number_reason lowest highest bare n
  unfolding number_reason
  too_large p q w = rw (w.number, large_outside lowest w.value highest p q w.large)
