-- The pic row of a packet, and PI1 and PI2 by it.
use mathlib.Core.Path.{◌≡◌, sym, ap, ◌∙◌}
use mathlib.Core.Bool.{true, false}
use mathlib.Core.List.{List}
use mathlib.Core.Option.{Option, none}
use Prim.Native.Nat.{ℕ, ◌-◌}
use borrow.Author.Tests.{eq-eqb, ne_eqb}
use Rattle.decoding.specs.Records.{pic_row}
use Rattle.rows.specs.declared.records.PicRow.{PicRow}
use Rattle.std.specs.Prelude.{Some, None}
use Rattle.verdicts.specs.Key.{identification}
use Rattle.outcomes.specs.Outcome.{Outcome, answer}
use Rattle.database.specs.Rows.{Row, Rows}
use Rattle.database.specs.Arrays.{row_at, row_for}
use Rattle.identifiers.specs.Identifiers.{identifiers_by}
use Rattle.five_numbers.specs.Numbers.{type_of, subtype_of, or_other, pic_row_of, identifiers_from}
use Rattle.headers.specs.declared.Head.{Head}
use Rattle.identifiers.specs.declared.Identifiers.{Identifiers}

module _ (rows : Rows) (head : Head) (p : List ℕ) where
  pub pic_plain : head.flagged ≡ false → none ≡ pic_row_of rows head p
  unfolding pic_row_of
  pic_plain f = rw f

  pub pic_flagged : {ptype stype : ℕ} → head.flagged ≡ true → ptype ≡ type_of head p → stype ≡ subtype_of head p
      → or_other (rows.holder (identification ptype stype (Some head.apid))) (rows.holder (identification ptype stype None)) ≡ pic_row_of rows head p
  unfolding pic_row_of
  pic_flagged f t s = rw (t, s, f)

-- a row by one more than its place
module _ (texts : List (List ℕ)) (columns : List ℕ) where
  -- 01: "with this APID, else the one with none"
  module _ (own any : Option Row) (at : ℕ) (e : own ≡ row_for texts columns at) where
    pub own_found : (at ≡ 0 → ⊥) → row_for texts columns at ≡ or_other own any
    unfolding row_for or_other
    own_found n = rw (e, ne_eqb at 0 n)

    pub any_found : (other : ℕ) → at ≡ 0 → any ≡ row_for texts columns other → row_for texts columns other ≡ or_other own any
    unfolding row_for or_other
    any_found other z f = rw (e, eq-eqb at 0 z) (sym f)

  -- 01: "unused, or no such row, gives 0"
  module _ (p : List ℕ) {row : Option Row} (at : ℕ) (e : row_for texts columns at ≡ row) where
    pub no_fields : at ≡ 0 → answer (record { pi1 = 0; pi2 = 0 }) ≡ identifiers_from p row
    unfolding row_for identifiers_from
    no_fields z = rw (← e, eq-eqb at 0 z)

    pub row_fields : {x : Outcome Identifiers} {r : PicRow} → (at ≡ 0 → ⊥) → r ≡ pic_row (row_at texts columns (at - 1)).bytes
        → x ≡ identifiers_by p r → x ≡ identifiers_from p row
    unfolding row_for identifiers_from
    row_fields n r x = rw (← e, ne_eqb at 0 n) (x ∙ ap (identifiers_by p) r)
