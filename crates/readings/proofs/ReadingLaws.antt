-- Laws of readings: integers as their words hold them, a reading by the rows of its parameter,
-- and one step of its validity.
use mathlib.Core.Path.{◌≡◌, refl, sym, ap, ◌∙◌}
use mathlib.Core.Bool.{Bool, true, false, not}
use mathlib.Core.List.{List}
use Prim.Native.Nat.{ℕ, zero, suc, ◌-◌, ◌^◌, ◌<◌}
use native.Mathlib.Omega.{arith}
use lib.Dec.{eqb}
use lib.IntN.{ℤ, pos, negsuc}
use lib.Signed.{mag}
use mir.Syntax.{w64}
use mir.Val.{to_z, of_z}
use borrow.Author.Tests.{eq-eqb, eqb-true, eqb-false}
use Rattle.laws.proofs.Cases.{bool_cases, false_of, false≢true}
use Rattle.laws.proofs.Words.{through_word}
use Rattle.std.specs.Prelude.{Option, Some, None}
use Rattle.name_bytes.specs.declared.Name.{Name}
use Rattle.decoding.specs.Records.{plf_row, pcf_row}
use Rattle.rows.specs.declared.records.PcfRow.{PcfRow}
use Rattle.outcomes.specs.Outcome.{Outcome, refused, and_then}
use Rattle.outcomes.specs.Values.{Value}
use Rattle.database.specs.Rows.{Rows}
use Rattle.database.specs.Arrays.{row_at}
use Rattle.raw_values.specs.RawValues.{raw_of}
use Rattle.parameters.specs.Located.{by_lines, located, at_places}
use Rattle.readings.specs.Readings.{Reading, same_integer, agrees, with_validity, reading_with, valid_within}
use Rattle.parameters.specs.declared.Places.{Places}
use Rattle.parameters.proofs.LocatedLaws.{at_found, at_missing}

pub not_true : (b : Bool) → not b ≡ true → b ≡ false
not_true true e = sym e
not_true false e = refl

pub not_false : (b : Bool) → not b ≡ false → b ≡ true
not_false true e = refl
not_false false e = sym e

-- Integers

same_integer_is : (a b : ℤ) → same_integer a b ≡ true → a ≡ b
unfolding same_integer
same_integer_is (pos m) (pos n) e = ap pos (eqb-true m n e)
same_integer_is (pos m) (negsuc n) e = absurd (false≢true e)
same_integer_is (negsuc m) (pos n) e = absurd (false≢true e)
same_integer_is (negsuc m) (negsuc n) e = ap negsuc (eqb-true m n e)

same_integer_self : (a : ℤ) → same_integer a a ≡ true
unfolding same_integer
same_integer_self (pos m) = eq-eqb m m refl
same_integer_self (negsuc m) = eq-eqb m m refl

-- two integers are the same where their words are
module _ (a b : ℤ) (h : mag a < 2 ^ 63) (k : mag b < 2 ^ 63) where
  same_of_words : eqb (of_z w64 a) (of_z w64 b) ≡ true → a ≡ b
  same_of_words t = sym (through_word a h) ∙ ap (to_z w64) (eqb-true (of_z w64 a) (of_z w64 b) t) ∙ through_word b k

  pub words_same : eqb (of_z w64 a) (of_z w64 b) ≡ same_integer a b
  words_same =
      bool_cases (eqb (of_z w64 a) (of_z w64 b))
      (λ t. t ∙ sym (ap (same_integer a) (sym (same_of_words t)) ∙ same_integer_self a))
      (λ f. f ∙ sym (false_of (same_integer a b) (λ t. eqb-false (of_z w64 a) (of_z w64 b) f (ap (of_z w64) (same_integer_is a b t)))))

-- A reading by the rows of its parameter

module _ (rows : Rows) (p : List ℕ) (spid : ℕ) (valid : PcfRow → Bool) (name : Name) (k : ℕ)
    (texts : List (List ℕ)) (columns : List ℕ) (found : Option Places) (is : at_places texts columns found ≡ located rows spid name) where
  pub read_unlocated : found ≡ None → refused 26 0 ≡ reading_with rows p spid valid name k
  unfolding reading_with and_then
  read_unlocated f = rw (← is, at_missing texts columns found f)

  pub read_located : {at : Places} → found ≡ Some at → (raw : Outcome Value) (b : Bool) (pcf : PcfRow) → pcf ≡ pcf_row (row_at texts columns at.pcf).bytes
      → raw ≡ raw_of p (plf_row (row_at texts columns at.plf).bytes) pcf k → b ≡ valid pcf
      → and_then raw (with_validity b) ≡ reading_with rows p spid valid name k
  unfolding reading_with and_then by_lines
  read_located f raw b pcf ec er eb = rw (← is, at_found texts columns found f, er, eb, ec)

-- Validity, one step at a time

module _ (rows : Rows) (p : List ℕ) (spid : ℕ) where
  free_within : (left : ℕ) (row : PcfRow) → row.valid.given ≡ false → true ≡ valid_within rows p spid left row
  unfolding valid_within
  free_within zero row f = rw f
  free_within (suc left) row f = rw f

  step_within : (left : ℕ) (row : PcfRow) → row.valid.given ≡ true → (left ≡ 0 → ⊥)
      → agrees (reading_with rows p spid (valid_within rows p spid (left - 1)) row.valid.name 0) row.valpar ≡ valid_within rows p spid left row
  unfolding valid_within
  step_within zero row t n = absurd (n refl)
  step_within (suc left) row t n =
      let e : suc left - 1 ≡ left = omega arith in
      rw (t, e)

  module _ (left : ℕ) (row target : PcfRow) (d : row ≡ target) where
    pub valid_free : row.valid.given ≡ false → true ≡ valid_within rows p spid left target
    valid_free f = free_within left row f ∙ ap (valid_within rows p spid left) d

    pub valid_step : row.valid.given ≡ true → (left ≡ 0 → ⊥) → (read : Outcome Reading)
        → read ≡ reading_with rows p spid (valid_within rows p spid (left - 1)) row.valid.name 0
        → agrees read row.valpar ≡ valid_within rows p spid left target
    valid_step t n read e = ap (λ (x : Outcome Reading). agrees x row.valpar) e ∙ step_within left row t n ∙ ap (valid_within rows p spid left) d
