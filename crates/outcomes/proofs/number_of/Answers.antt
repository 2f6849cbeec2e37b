-- Case by case.
use mathlib.Core.Path.{sym, ap}
use Rattle.outcomes.specs.Refusals.{refusal_number}
use Rattle.outcomes.proofs.number_of.Goals as goal

pub returns-in-TableTooLong : goal.returns-in-TableTooLong
unfolding refusal_number
returns-in-TableTooLong c = sym (ap refusal_number c.in-TableTooLong.is)

pub returns-in-TooManyRows : goal.returns-in-TooManyRows
unfolding refusal_number
returns-in-TooManyRows c = sym (ap refusal_number c.in-TooManyRows.is)

pub returns-in-TooFewCells : goal.returns-in-TooFewCells
unfolding refusal_number
returns-in-TooFewCells c = sym (ap refusal_number c.in-TooFewCells.is)

pub returns-in-PacketLength : goal.returns-in-PacketLength
unfolding refusal_number
returns-in-PacketLength c = sym (ap refusal_number c.in-PacketLength.is)

pub returns-in-Version : goal.returns-in-Version
unfolding refusal_number
returns-in-Version c = sym (ap refusal_number c.in-Version.is)

pub returns-in-LengthField : goal.returns-in-LengthField
unfolding refusal_number
returns-in-LengthField c = sym (ap refusal_number c.in-LengthField.is)

pub returns-in-DataField : goal.returns-in-DataField
unfolding refusal_number
returns-in-DataField c = sym (ap refusal_number c.in-DataField.is)

pub returns-in-IdentificationLeaves : goal.returns-in-IdentificationLeaves
unfolding refusal_number
returns-in-IdentificationLeaves c = sym (ap refusal_number c.in-IdentificationLeaves.is)

pub returns-in-NoPidRow : goal.returns-in-NoPidRow
unfolding refusal_number
returns-in-NoPidRow c = sym (ap refusal_number c.in-NoPidRow.is)

pub returns-in-NoPlfRow : goal.returns-in-NoPlfRow
unfolding refusal_number
returns-in-NoPlfRow c = sym (ap refusal_number c.in-NoPlfRow.is)

pub returns-in-NoOccurrence : goal.returns-in-NoOccurrence
unfolding refusal_number
returns-in-NoOccurrence c = sym (ap refusal_number c.in-NoOccurrence.is)

pub returns-in-FieldLeaves : goal.returns-in-FieldLeaves
unfolding refusal_number
returns-in-FieldLeaves c = sym (ap refusal_number c.in-FieldLeaves.is)

pub returns-in-StringOffByte : goal.returns-in-StringOffByte
unfolding refusal_number
returns-in-StringOffByte c = sym (ap refusal_number c.in-StringOffByte.is)

pub returns-in-OffCurve : goal.returns-in-OffCurve
unfolding refusal_number
returns-in-OffCurve c = sym (ap refusal_number c.in-OffCurve.is)

pub returns-in-OutOfRange : goal.returns-in-OutOfRange
unfolding refusal_number
returns-in-OutOfRange c = sym (ap refusal_number c.in-OutOfRange.is)

pub returns-in-NoText : goal.returns-in-NoText
unfolding refusal_number
returns-in-NoText c = sym (ap refusal_number c.in-NoText.is)

pub returns-in-NoLimits : goal.returns-in-NoLimits
unfolding refusal_number
returns-in-NoLimits c = sym (ap refusal_number c.in-NoLimits.is)

pub returns-in-NoState : goal.returns-in-NoState
unfolding refusal_number
returns-in-NoState c = sym (ap refusal_number c.in-NoState.is)

pub returns-in-NotNewer : goal.returns-in-NotNewer
unfolding refusal_number
returns-in-NotNewer c = sym (ap refusal_number c.in-NotNewer.is)

pub returns-in-OtherApid : goal.returns-in-OtherApid
unfolding refusal_number
returns-in-OtherApid c = sym (ap refusal_number c.in-OtherApid.is)

pub returns-in-NoIndex : goal.returns-in-NoIndex
unfolding refusal_number
returns-in-NoIndex c = sym (ap refusal_number c.in-NoIndex.is)
