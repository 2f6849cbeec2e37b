-- One law for each return: a byte as it is shown, the column of a named key, and the text of a column.
use mathlib.Core.Path.{◌≡◌, ◌∙◌}
use mathlib.Core.List.{List, []}
use Prim.Native.Nat.{ℕ, ◌-◌, ◌≤◌, ◌<◌}
use borrow.Author.Tests.{eq-eqb, ne_eqb, le-leb, lt-leb}
use Rattle.lines.specs.Columns.{printable, divided, column_in}
use Rattle.lines.specs.declared.columns.Scanned.{Scanned}
use Rattle.lines.proofs.WalkedLaws.{Walked, ends_are, end_is}
use Rattle.key_texts.specs.Shown.{shown_as, line_in, column_text, key_column}

module _ (b : ℕ) where
  pub shown_low : b < 32 → 63 ≡ shown_as b
  unfolding shown_as printable
  shown_low h = rw (lt-leb 32 b h)

  pub shown_high : 32 ≤ b → 126 < b → 63 ≡ shown_as b
  unfolding shown_as printable
  shown_high l h = rw (le-leb 32 b l, lt-leb b 126 h)

  pub shown_plain : 32 ≤ b → b ≤ 126 → b ≡ shown_as b
  unfolding shown_as printable
  shown_plain l h = rw (le-leb 32 b l, le-leb b 126 h)

-- the column of a named key
module _ (reason column : ℕ) where
  pub key_other : (reason ≡ 11 → ⊥) → column ≡ key_column reason column
  unfolding key_column
  key_other h = rw (ne_eqb _ _ h)

  pub key_name : reason ≡ 11 → column ≡ 4 → 1 ≡ key_column reason column
  unfolding key_column
  key_name h e = rw (eq-eqb reason 11 h, eq-eqb column 4 e)

  pub key_same : reason ≡ 11 → (column ≡ 4 → ⊥) → column ≡ key_column reason column
  unfolding key_column
  key_same h e = rw (eq-eqb reason 11 h, ne_eqb column 4 e)

-- the text of a column
module _ (table : List ℕ) (start k : ℕ) where
  pub text_none : k ≡ 0 → [] ≡ column_text table start k
  unfolding column_text
  text_none e = rw (eq-eqb k 0 e)

  pub text_some : (k ≡ 0 → ⊥) → column_in (line_in table start) (divided (line_in table start)) (k - 1) ≡ column_text table start k
  unfolding column_text
  text_some e = rw (ne_eqb k 0 e)

  -- by a walk over the row's line
  pub text_read : (k ≡ 0 → ⊥) → {walk : Scanned} {line ends : List ℕ} → Walked table start walk line ends
      → (r : List ℕ) → r ≡ column_in line ends (k - 1) → r ≡ column_text table start k
  text_read z w r e = e ∙ rw (ends_are w, w.part, end_is w) (text_some z)
