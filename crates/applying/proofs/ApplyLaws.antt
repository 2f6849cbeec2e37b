-- Whether a check applies, case by case.
use mathlib.Core.Path.{◌≡◌}
use mathlib.Core.Bool.{Bool, true, false}
use mathlib.Core.List.{List}
use Prim.Native.Nat.{ℕ}
use Rattle.std.specs.Prelude.{Option, Some, None}
use Rattle.decoding.specs.Records.{plf_row, pcf_row}
use Rattle.rows.specs.declared.records.PcfRow.{PcfRow}
use Rattle.rows.specs.declared.records.OcpRow.{OcpRow}
use Rattle.outcomes.specs.Outcome.{Outcome, and_then}
use Rattle.outcomes.specs.Values.{Value}
use Rattle.database.specs.Rows.{Rows}
use Rattle.database.specs.Arrays.{row_at}
use Rattle.raw_values.specs.RawValues.{raw_of}
use Rattle.parameters.specs.Located.{by_lines, located, at_places}
use Rattle.parameters.specs.declared.Places.{Places}
use Rattle.parameters.proofs.LocatedLaws.{at_found, at_missing}
use Rattle.applying.specs.Checks.{has_value, first_raw, applies}

module _ (rows : Rows) (p : List ℕ) (spid : ℕ) (row : OcpRow) where
  pub applies_free : row.rlchk.given ≡ false → true ≡ applies rows p spid row
  unfolding applies
  applies_free f = rw f

  module _ (texts : List (List ℕ)) (columns : List ℕ) (found : Option Places) (t : row.rlchk.given ≡ true)
      (is : at_places texts columns found ≡ located rows spid row.rlchk.name) where
    pub applies_nowhere : found ≡ None → false ≡ applies rows p spid row
    unfolding applies first_raw has_value and_then
    applies_nowhere f = rw (t, ← is, at_missing texts columns found f)

    pub applies_located : {at : Places} → found ≡ Some at → (raw : Outcome Value) {b : Bool} (pcf : PcfRow) → pcf ≡ pcf_row (row_at texts columns at.pcf).bytes
        → raw ≡ raw_of p (plf_row (row_at texts columns at.plf).bytes) pcf 0 → b ≡ has_value raw row.valpar → b ≡ applies rows p spid row
    unfolding applies first_raw and_then by_lines
    applies_located f raw pcf ec er eb = rw (t, ← is, at_found texts columns found f, ← ec, ← er) eb
