-- A packet that is identified, in which a parameter has a place, and why an occurrence of it can't be read there.
use Rattle.std.specs.Prelude.{◌≡◌, true, false, List, ℕ, ◌/◌, ◌%◌, ◌≤◌, ◌<◌}
use Rattle.std.proofs.Math.Option.{some}
use Rattle.name_bytes.specs.Names.{name_of}
use Rattle.decoding.specs.Records.{plf_row, pcf_row}
use Rattle.rows.specs.declared.records.PlfRow.{PlfRow}
use Rattle.rows.specs.declared.records.PcfRow.{PcfRow}
use Rattle.verdicts.specs.Key.{location, parameter}
use Rattle.outcomes.specs.Outcome.{answer}
use Rattle.database.specs.Rows.{Row, Rows}
use Rattle.identification.specs.Identification.{Identity, identify_by}
use Rattle.raw_values.specs.RawValues.{is_string, start_of}
use Rattle.at_verdicts.specs.Fields.{is_there}

-- the rows by which a parameter is read
pub record Placed (rows : Rows) (p name : List ℕ) : Type 0 where
  pub identity : Identity
  pub identified : identify_by rows p ≡ answer identity
  pub plf : Row
  pub has_place : rows.holder (location (name_of name) identity.spid) ≡ some plf
  pub pcf : Row
  pub described : rows.holder (parameter (name_of name)) ≡ some pcf

module _ {rows : Rows} {p name : List ℕ} where
  abbrev pub plf_of : Placed rows p name → PlfRow
  plf_of at = plf_row at.plf.bytes

  abbrev pub pcf_of : Placed rows p name → PcfRow
  pcf_of at = pcf_row at.pcf.bytes

-- 01: "27 … occurrence not below NBOCC"
pub record NoOccurrence (rows : Rows) (p name : List ℕ) (k : ℕ) : Type 0 where
  pub at : Placed rows p name
  pub over : (plf_of at).nbocc ≤ k

-- 01: "28 … a bit of the field lies outside"; the place is "the byte in which the first such field starts"
pub record Leaves (rows : Rows) (p name : List ℕ) (k byte : ℕ) : Type 0 where
  pub at : Placed rows p name
  pub below : k < (plf_of at).nbocc
  pub outside : is_there p (plf_of at) (pcf_of at) k ≡ false
  pub start : start_of (plf_of at) k / 8 ≡ byte

-- 01: "29 … a string not on a byte"
pub record OffByte (rows : Rows) (p name : List ℕ) (k byte : ℕ) : Type 0 where
  pub at : Placed rows p name
  pub below : k < (plf_of at).nbocc
  pub there : is_there p (plf_of at) (pcf_of at) k ≡ true
  pub string : is_string (pcf_of at).ptc ≡ true
  pub off_a_byte : start_of (plf_of at) k % 8 ≡ 0 → ⊥
  pub start : start_of (plf_of at) k / 8 ≡ byte
