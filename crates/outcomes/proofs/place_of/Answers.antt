-- Case by case.
use mathlib.Core.Path.{sym, ap}
use Rattle.outcomes.specs.Refusals.{refusal_place}
use Rattle.outcomes.proofs.place_of.Goals as goal

pub returns-in-TableTooLong : goal.returns-in-TableTooLong
unfolding refusal_place
returns-in-TableTooLong c = sym (ap refusal_place c.in-TableTooLong.is)

pub returns-in-TooManyRows : goal.returns-in-TooManyRows
unfolding refusal_place
returns-in-TooManyRows c = sym (ap refusal_place c.in-TooManyRows.is)

pub returns-in-TooFewCells : goal.returns-in-TooFewCells
unfolding refusal_place
returns-in-TooFewCells c = sym (ap refusal_place c.in-TooFewCells.is)

pub returns-in-PacketLength : goal.returns-in-PacketLength
unfolding refusal_place
returns-in-PacketLength c = sym (ap refusal_place c.in-PacketLength.is)

pub returns-in-Version : goal.returns-in-Version
unfolding refusal_place
returns-in-Version c = sym (ap refusal_place c.in-Version.is)

pub returns-in-LengthField : goal.returns-in-LengthField
unfolding refusal_place
returns-in-LengthField c = sym (ap refusal_place c.in-LengthField.is)

pub returns-in-DataField : goal.returns-in-DataField
unfolding refusal_place
returns-in-DataField c = sym (ap refusal_place c.in-DataField.is)

pub returns-in-IdentificationLeaves : goal.returns-in-IdentificationLeaves
unfolding refusal_place
returns-in-IdentificationLeaves c = sym (ap refusal_place c.in-IdentificationLeaves.is)

pub returns-in-NoPidRow : goal.returns-in-NoPidRow
unfolding refusal_place
returns-in-NoPidRow c = sym (ap refusal_place c.in-NoPidRow.is)

pub returns-in-NoPlfRow : goal.returns-in-NoPlfRow
unfolding refusal_place
returns-in-NoPlfRow c = sym (ap refusal_place c.in-NoPlfRow.is)

pub returns-in-NoOccurrence : goal.returns-in-NoOccurrence
unfolding refusal_place
returns-in-NoOccurrence c = sym (ap refusal_place c.in-NoOccurrence.is)

pub returns-in-FieldLeaves : goal.returns-in-FieldLeaves
unfolding refusal_place
returns-in-FieldLeaves c = sym (ap refusal_place c.in-FieldLeaves.is)

pub returns-in-StringOffByte : goal.returns-in-StringOffByte
unfolding refusal_place
returns-in-StringOffByte c = sym (ap refusal_place c.in-StringOffByte.is)

pub returns-in-OffCurve : goal.returns-in-OffCurve
unfolding refusal_place
returns-in-OffCurve c = sym (ap refusal_place c.in-OffCurve.is)

pub returns-in-OutOfRange : goal.returns-in-OutOfRange
unfolding refusal_place
returns-in-OutOfRange c = sym (ap refusal_place c.in-OutOfRange.is)

pub returns-in-NoText : goal.returns-in-NoText
unfolding refusal_place
returns-in-NoText c = sym (ap refusal_place c.in-NoText.is)

pub returns-in-NoLimits : goal.returns-in-NoLimits
unfolding refusal_place
returns-in-NoLimits c = sym (ap refusal_place c.in-NoLimits.is)

pub returns-in-NoState : goal.returns-in-NoState
unfolding refusal_place
returns-in-NoState c = sym (ap refusal_place c.in-NoState.is)

pub returns-in-NotNewer : goal.returns-in-NotNewer
unfolding refusal_place
returns-in-NotNewer c = sym (ap refusal_place c.in-NotNewer.is)

pub returns-in-OtherApid : goal.returns-in-OtherApid
unfolding refusal_place
returns-in-OtherApid c = sym (ap refusal_place c.in-OtherApid.is)

pub returns-in-NoIndex : goal.returns-in-NoIndex
unfolding refusal_place
returns-in-NoIndex c = sym (ap refusal_place c.in-NoIndex.is)
