-- 01's number and place of each refusal.
use Rattle.std.specs.Prelude.{ℕ, ◌≡◌, refl, Ok, Err, Result}
use Rattle.outcomes.specs.Outcome.{Outcome, refused, answer}
use Rattle.outcomes.specs.declared.Refusal.{Refusal}
use Rattle.outcomes.specs.declared.Refusal.TheVariants.{
  TableTooLong,
  TooManyRows,
  TooFewCells,
  PacketLength,
  Version,
  LengthField,
  DataField,
  IdentificationLeaves,
  NoPidRow,
  NoPlfRow,
  NoOccurrence,
  FieldLeaves,
  StringOffByte,
  OffCurve,
  OutOfRange,
  NoText,
  NoLimits,
  NoState,
  NotNewer,
  OtherApid,
  NoIndex,
}

-- 01: "Refused calls"; 02, P4: "refused with 40"
unfoldable pub refusal_number : Refusal → ℕ
refusal_number (TableTooLong table) = 1
refusal_number (TooManyRows table) = 2
refusal_number TooFewCells = 3
refusal_number PacketLength = 20
refusal_number Version = 21
refusal_number LengthField = 22
refusal_number DataField = 23
refusal_number (IdentificationLeaves byte) = 24
refusal_number NoPidRow = 25
refusal_number NoPlfRow = 26
refusal_number NoOccurrence = 27
refusal_number (FieldLeaves byte) = 28
refusal_number (StringOffByte byte) = 29
refusal_number OffCurve = 30
refusal_number OutOfRange = 31
refusal_number NoText = 32
refusal_number NoLimits = 33
refusal_number NoState = 34
refusal_number NotNewer = 35
refusal_number OtherApid = 36
refusal_number NoIndex = 40

-- 01: "for 1 and 2 the first such table, 1 to 10; for 24, 28 and 29 the byte in which the first such field starts;
-- else 0".
-- 02, P1: "places count eleven tables"
unfoldable pub refusal_place : Refusal → ℕ
refusal_place (TableTooLong table) = table.0
refusal_place (TooManyRows table) = table.0
refusal_place TooFewCells = 0
refusal_place PacketLength = 0
refusal_place Version = 0
refusal_place LengthField = 0
refusal_place DataField = 0
refusal_place (IdentificationLeaves byte) = byte.0
refusal_place NoPidRow = 0
refusal_place NoPlfRow = 0
refusal_place NoOccurrence = 0
refusal_place (FieldLeaves byte) = byte.0
refusal_place (StringOffByte byte) = byte.0
refusal_place OffCurve = 0
refusal_place OutOfRange = 0
refusal_place NoText = 0
refusal_place NoLimits = 0
refusal_place NoState = 0
refusal_place NotNewer = 0
refusal_place OtherApid = 0
refusal_place NoIndex = 0

-- a call that is refused so
unfoldable pub refused_by : {A : Type 0} → Refusal → Outcome A
refused_by refusal = refused (refusal_number refusal) (refusal_place refusal)

-- what a result says: its answer, or its refusal with number and place
unfoldable pub said : {A : Type 0} → Result A Refusal → Outcome A
said (Ok a) = answer a
said (Err refusal) = refused_by refusal

pub example : refused_by {A = ℕ} (FieldLeaves (record { 0 = 14 })) ≡ refused 28 14
unfolding refused_by refusal_number refusal_place
example = refl
