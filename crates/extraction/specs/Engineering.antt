-- The engineering value of a parameter in a packet.
use Rattle.std.specs.Prelude.{ℕ, ◌≡◌, refl, List, [], pos}
use Rattle.laws.specs.Text.{ascii}
use Rattle.name_bytes.specs.Names.{name_of}
use Rattle.name_bytes.specs.declared.Name.{Name}
use Rattle.decoding.specs.Records.{pcf_row}
use Rattle.verdicts.specs.Key.{parameter}
use Rattle.outcomes.specs.Outcome.{Outcome, refused, answer, and_then}
use Rattle.outcomes.specs.Values.{Value, number, part, bits}
use Rattle.database.specs.Rows.{Rows}
use Rattle.database.specs.GoodRows.{among, find}
use Rattle.parameters.specs.Located.{needed}
use Rattle.engineering.specs.Engineering.{Engineered, value, engineered}
use Rattle.extraction.specs.Extraction.{extract_by}

-- of a raw value, by the parameter's good pcf row. 01: "A string is answered as the part of the packet it is";
-- a real is answered as it was read: 02, P6: "Raw and engineering answers are a new kind, bits with their width"
unfoldable pub engineered_from : Rows → Name → Value → Outcome Engineered
engineered_from rows name (number z) = and_then (needed (rows.holder (parameter name))) (λ row. engineered rows (pcf_row row.bytes) z)
engineered_from rows name (part start bytes) = answer (value (part start bytes))
engineered_from rows name (bits pattern width) = answer (value (bits pattern width))

-- valid or not
unfoldable pub engineer_by : Rows → (p name : List ℕ) → (k : ℕ) → Outcome Engineered
engineer_by rows p name k = and_then (extract_by rows p name k) (λ r. engineered_from rows (name_of name) r.value)

pub record Examples : Type 0 where
  pub string : engineered_from (among []) (name_of (ascii "T1")) (part 12 2) ≡ answer (value (part 12 2))
  pub real : engineered_from (among []) (name_of (ascii "T1")) (bits 0x3F000000 32) ≡ answer (value (bits 0x3F000000 32))
  pub unknown : engineered_from (among []) (name_of (ascii "T1")) (number (pos 7)) ≡ refused 26 0

pub examples : Examples
unfolding engineered_from and_then needed among find
examples = record { string = refl; real = refl; unknown = refl }
