-- The checks of a parameter, and which of them apply in a packet.
use Rattle.std.specs.Prelude.{ℕ, ◌≡◌, refl, Bool, true, false, not, ◌||◌, List, map, ℤ, pos}
use Rattle.laws.specs.Lists.{keep}
use Rattle.name_bytes.specs.declared.Name.{Name}
use Rattle.decoding.specs.Records.{ocp_row}
use Rattle.rows.specs.declared.records.OcpRow.{OcpRow}
use Rattle.outcomes.specs.Outcome.{Outcome, refused, answer, and_then}
use Rattle.outcomes.specs.Values.{Value, number}
use Rattle.verdicts.specs.Key.{limits}
use Rattle.database.specs.Rows.{Row, Rows}
use Rattle.raw_values.specs.RawValues.{raw_of}
use Rattle.parameters.specs.Located.{Located, located}
use Rattle.readings.specs.Readings.{same_integer, equals}
use Rattle.severity.specs.Checks.{Check, check_of}

-- 01: "The checks are the good ocp rows of the name"
unfoldable pub checks_of : Rows → Name → List OcpRow
checks_of rows name = map (λ (row : Row). ocp_row row.bytes) (rows.members (limits name))

-- 01: "equals the check's VALPAR; unreadable means no"
unfoldable pub has_value : Outcome Value → ℤ → Bool
has_value (refused n place) valpar = false
has_value (answer value) valpar = equals value valpar

-- 5 is VALPAR 5, and a field that leaves the packet is none
pub example : (has_value (answer (number (pos 5))) (pos 5) ≡ true) × (has_value (refused 28 13) (pos 5) ≡ false)
unfolding has_value equals same_integer
example = (refl, refl)

-- of a packet of this SPID
module _ (rows : Rows) (p : List ℕ) (spid : ℕ) where
  -- occurrence 0 of a parameter, valid or not
  unfoldable pub first_raw : Name → Outcome Value
  first_raw name = and_then (located rows spid name) (λ (at : Located). raw_of p at.plf at.pcf 0)

  -- 01: "A check applies when RLCHK is empty or the raw value of its occurrence 0, valid or not,
  -- equals the check's VALPAR"
  unfoldable pub applies : OcpRow → Bool
  applies row = not row.rlchk.given || has_value (first_raw row.rlchk.name) row.valpar

  unfoldable pub applying : Name → List Check
  applying name = map check_of (keep applies (checks_of rows name))
