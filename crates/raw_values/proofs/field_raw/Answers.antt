-- A byte past the packet's end is outside whatever the field; else by its kind.
use mathlib.Core.Path.{sym, ◌∙◌}
use Rattle.outcomes.specs.Refusals.{refused_by, refusal_number, refusal_place}
use Rattle.raw_values.specs.RawValues.{said_raw}
use Rattle.raw_values.proofs.RawLaws.{field_past, field_string, field_real, field_signed, field_unsigned, not_five}
use Rattle.raw_values.proofs.field_raw.Goals as goal

pub returns-then-p-byte : goal.returns-then-p-byte
unfolding said_raw refused_by refusal_number refusal_place
returns-then-p-byte c = field_past _ _ _ _ _ _ c.if-p-byte.true c.requires.1 c.requires.2

pub returns-then-is_string : goal.returns-then-is_string
returns-then-is_string c = c.string_raw.ensures ∙ field_string _ _ _ _ _ (sym c.is_string.ensures ∙ c.if-is_string.true)

pub returns-then-ptc-eq5 : goal.returns-then-ptc-eq5
returns-then-ptc-eq5 c = c.real_raw.ensures
    ∙ field_real _ _ _ _ _ (sym c.is_string.ensures ∙ c.if-is_string.false) c.if-ptc-eq5.true

pub returns-then-ptc-eq4 : goal.returns-then-ptc-eq4
returns-then-ptc-eq4 c = c.signed_raw.ensures
    ∙ field_signed _ _ _ _ _ (sym c.is_string.ensures ∙ c.if-is_string.false) c.if-ptc-eq5.false c.if-ptc-eq4.true

pub unsigned_raw-requires : goal.unsigned_raw-requires
unsigned_raw-requires c = c.requires.2.integer (sym c.is_string.ensures ∙ c.if-is_string.false)
    (not_five _ c.if-ptc-eq5.false)

pub returns : goal.returns
returns c = c.unsigned_raw.ensures
    ∙ field_unsigned _ _ _ _ _ (sym c.is_string.ensures ∙ c.if-is_string.false) c.if-ptc-eq5.false c.if-ptc-eq4.false
