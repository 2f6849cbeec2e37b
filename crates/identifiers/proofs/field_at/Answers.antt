-- What is read in the bytes from the field on.
use mathlib.Core.Path.{ap, ◌∙◌}
use Rattle.std.specs.Prelude.{Err}
use Rattle.fields.specs.Field.{said_error, said_unsigned}
use Rattle.outcomes.specs.Refusals.{said, refused_by, refusal_number, refusal_place}
use Rattle.identifiers.specs.Identifiers.{read_identifier}
use Rattle.identifiers.proofs.IdentifierLaws.{read_from}
use Rattle.identifiers.proofs.field_at.Goals as goal

pub returns-in-Ok : goal.returns-in-Ok
unfolding said said_unsigned read_identifier
returns-in-Ok c = read_from _ _ _ c.bytes_from.ensures c.read_unsigned.ensures c.in-Ok.is

pub returns-in-Err-Outside : goal.returns-in-Err-Outside
unfolding said said_error said_unsigned read_identifier refused_by refusal_number refusal_place
returns-in-Err-Outside c = read_from _ _ _ c.bytes_from.ensures c.read_unsigned.ensures (c.in-Err-Outside.is ∙ ap Err c.in-Err-Outside.field-0-is)

pub returns-in-Err-NoWidth : goal.returns-in-Err-NoWidth
unfolding said said_error said_unsigned read_identifier
returns-in-Err-NoWidth c = read_from _ _ _ c.bytes_from.ensures c.read_unsigned.ensures (c.in-Err-NoWidth.is ∙ ap Err c.in-Err-NoWidth.field-0-is)
