-- By the packet's length and the width of the pcf row's type.
use mathlib.Core.Path.{refl, ap, sym, ◌∙◌}
use Rattle.outcomes.specs.Refusals.{refused_by, refusal_number, refusal_place}
use Rattle.raw_values.specs.RawValues.{said_raw}
use Rattle.raw_values.proofs.RawLaws.{packet_too_long, raw_in_bits, raw_refused, width_wide}
use Rattle.widths.specs.Width.{bits_of}
use Rattle.raw_values.proofs.raw_of.Goals as goal

pub returns-then-p-gt-PACKET_BYTES : goal.returns-then-p-gt-PACKET_BYTES
unfolding said_raw refused_by refusal_number refusal_place
returns-then-p-gt-PACKET_BYTES c plf d = packet_too_long _ plf _ _ c.if-p-gt-PACKET_BYTES.true

pub occurrence_raw-requires : goal.occurrence_raw-requires
unfolding bits_of
occurrence_raw-requires c = (c.if-p-gt-PACKET_BYTES.false, width_wide _ _ _ (sym c.width_of.ensures ∙ ap bits_of c.in-Some.is))

pub returns : goal.returns
returns c plf d = c.occurrence_raw.ensures plf d
    ∙ raw_in_bits _ plf _ _ _ _ c.if-p-gt-PACKET_BYTES.false refl c.width_of.ensures _ c.in-Some.is

pub returns-in_default : goal.returns-in_default
unfolding said_raw refused_by refusal_number refusal_place
returns-in_default c plf d = raw_refused _ plf _ _ _ _ c.if-p-gt-PACKET_BYTES.false refl c.width_of.ensures c.in_default.is
