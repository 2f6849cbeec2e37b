-- Whether an occurrence of a parameter lies in a packet.
use Rattle.std.specs.Prelude.{◌≡◌, refl, Bool, true, false, List, ℕ}
use Rattle.std.proofs.Math.Option.{Option, none, some}
use Rattle.fields.specs.Place.{bit_inside, inside}
use Rattle.widths.specs.Width.{width_of, integer_width, bits_within}
use Rattle.fields.specs.Figures.{packet}
use Rattle.rows.specs.declared.records.PlfRow.{PlfRow}
use Rattle.rows.specs.declared.records.PcfRow.{PcfRow}
use Rattle.raw_values.specs.RawValues.{start_of}

-- all bits of a field from bit `at`; one without a width, which no good row has, isn't there
unfoldable pub all_inside : List ℕ → (at : ℕ) → (width : Option ℕ) → Bool
all_inside p at none = false
all_inside p at (some n) = inside p at n

-- 01: "28 … a bit of the field lies outside": none of occurrence k does
unfoldable pub is_there : List ℕ → PlfRow → PcfRow → (k : ℕ) → Bool
is_there p plf pcf k = all_inside p (start_of plf k) (width_of pcf.ptc pcf.pfc)

-- 01: "24 bits at byte 11 fit; from bit 1: 28"
pub record Examples : Type 0 where
  pub fits : all_inside packet 88 (width_of 3 13) ≡ true
  pub from_bit_1 : all_inside packet 89 (width_of 3 13) ≡ false

pub examples : Examples
unfolding all_inside inside bit_inside width_of integer_width bits_within packet
examples = record { fits = refl; from_bit_1 = refl }
