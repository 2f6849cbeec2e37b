-- Packets that a limit step refuses for a value.
-- 01: "In a limit step 28 is sought over all occurrences first, then 30, then 31,
-- these two only on valid occurrences under INTER C"
use Rattle.std.specs.Prelude.{◌≡◌, true, false, List, ℕ, ◌/◌, ◌<◌, ℤ}
use Rattle.decoding.specs.Records.{ocf_row}
use Rattle.rows.specs.declared.letters.LimitValue.TheVariants.{Engineering}
use Rattle.outcomes.specs.Outcome.{answer}
use Rattle.outcomes.specs.Values.{number}
use Rattle.database.specs.Rows.{Rows}
use Rattle.raw_values.specs.RawValues.{start_of, raw_of}
use Rattle.readings.specs.Readings.{validity}
use Rattle.limit_state.specs.declared.state.LimitState.{LimitState}
use Rattle.at_verdicts.specs.Fields.{is_there}
use Rattle.at_verdicts.specs.OffCurve.{OffItsCurve, OutOfItsRange}
use Rattle.at_verdicts.specs.Placed.{plf_of, pcf_of}
use Rattle.at_verdicts.specs.Taken.{Taken}

-- 01: "28 is sought over all occurrences first": k is the first that isn't there, and starts in this byte
pub record StepLeaves (rows : Rows) (p name : List ℕ) (s : LimitState) (byte : ℕ) : Type 0 where
  pub taken : Taken rows p name s
  pub k : ℕ
  pub below : k < (plf_of taken.at).nbocc
  pub outside : is_there p (plf_of taken.at) (pcf_of taken.at) k ≡ false
  pub first : (j : ℕ) → j < k → is_there p (plf_of taken.at) (pcf_of taken.at) j ≡ true
  pub start : start_of (plf_of taken.at) k / 8 ≡ byte

-- 01: "these two only on valid occurrences under INTER C"; all of them are there
pub record Calibrated (rows : Rows) (p name : List ℕ) (s : LimitState) : Type 0 where
  pub taken : Taken rows p name s
  pub there : (k : ℕ) → k < (plf_of taken.at).nbocc → is_there p (plf_of taken.at) (pcf_of taken.at) k ≡ true
  pub valid : validity rows p taken.at.identity.spid (pcf_of taken.at) ≡ true
  pub under_c : (ocf_row taken.ocf.bytes).inter ≡ Engineering

-- an occurrence whose raw value is so
pub record Occurs {rows : Rows} {p name : List ℕ} {s : LimitState} (taken : Taken rows p name s) (so : ℤ → Type 0) : Type 0 where
  pub k : ℕ
  pub below : k < (plf_of taken.at).nbocc
  pub raw : ℤ
  pub read : raw_of p (plf_of taken.at) (pcf_of taken.at) k ≡ answer (number raw)
  pub is : so raw

-- 01: "30 … raw value off an F curve"
pub record StepOffCurve (rows : Rows) (p name : List ℕ) (s : LimitState) : Type 0 where
  pub calibrated : Calibrated rows p name s
  pub off : Occurs calibrated.taken (OffItsCurve rows (pcf_of calibrated.taken.at))

-- 01: "31 … curve result outside −2,147,483,648 to 2,147,483,647", where no raw value is off the curve
pub record StepOutOfRange (rows : Rows) (p name : List ℕ) (s : LimitState) : Type 0 where
  pub calibrated : Calibrated rows p name s
  pub none_off : Occurs calibrated.taken (OffItsCurve rows (pcf_of calibrated.taken.at)) → ⊥
  pub out : Occurs calibrated.taken (OutOfItsRange rows (pcf_of calibrated.taken.at))
