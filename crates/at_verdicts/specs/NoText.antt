-- A raw value for which its parameter has no text.
use Rattle.std.specs.Prelude.{◌≡◌, true, false, ℤ}
use mathlib.Core.List.{List, Memᴰ}
use Rattle.std.specs.Int.Signed.{le_z, lt_z}
use Rattle.rows.specs.declared.letters.Category.TheVariants.{Status}
use Rattle.rows.specs.declared.records.PcfRow.{PcfRow}
use Rattle.verdicts.specs.Key.{texts}
use Rattle.database.specs.Rows.{Row, Rows}
use Rattle.texts.specs.Texts.{from_of, to_of}

-- 01: "the greatest FROM not above the raw value"
pub record GreatestFrom (ranges : List Row) (raw : ℤ) (range : Row) : Type 0 where
  pub among : Memᴰ range ranges
  pub not_above : le_z (from_of range) raw ≡ true
  pub greatest : (other : Row) → Memᴰ other ranges → le_z (from_of other) raw ≡ true → lt_z (from_of range) (from_of other) ≡ false

-- 01: "32 … no text": of CATEG S, and the row of that FROM, if there is one, has its TO below the raw value
pub record Textless (rows : Rows) (row : PcfRow) (raw : ℤ) : Type 0 where
  pub status : row.categ ≡ Status
  pub below : (range : Row) → GreatestFrom (rows.members (texts row.curtx.name)) raw range → lt_z (to_of range) raw ≡ true
