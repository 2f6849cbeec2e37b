-- The engineering value of a parameter by its two rows, each found once. The law `engineer_located` says that it is
-- `engineer_by`.
use Rattle.std.specs.Prelude.{ℕ, ◌≡◌, refl, List, []}
use Rattle.laws.specs.Text.{ascii}
use Rattle.name_bytes.specs.Names.{name_of}
use Rattle.name_bytes.specs.declared.Name.{Name}
use Rattle.rows.specs.declared.records.PcfRow.{PcfRow}
use Rattle.outcomes.specs.Outcome.{Outcome, refused, answer, and_then}
use Rattle.outcomes.specs.Values.{Value, number, part, bits}
use Rattle.database.specs.Rows.{Rows}
use Rattle.database.specs.GoodRows.{among, find}
use Rattle.raw_values.specs.RawValues.{raw_of}
use Rattle.parameters.specs.Located.{needed, located}
use Rattle.engineering.specs.Engineering.{Engineered, value, engineered}

-- of a raw value, by a pcf row. A string and a real are answered as they were read
unfoldable pub engineered_by : Rows → PcfRow → Value → Outcome Engineered
engineered_by rows pcf (number z) = engineered rows pcf z
engineered_by rows pcf (part start bytes) = answer (value (part start bytes))
engineered_by rows pcf (bits pattern width) = answer (value (bits pattern width))

-- of occurrence k of a parameter in a packet of this SPID
unfoldable pub engineered_in : Rows → (p : List ℕ) → (spid : ℕ) → Name → (k : ℕ) → Outcome Engineered
engineered_in rows p spid name k = and_then (located rows spid name) (λ at. and_then (raw_of p at.plf at.pcf k) (engineered_by rows at.pcf))

-- a parameter without rows
pub example : engineered_in (among []) [] 7 (name_of (ascii "T1")) 0 ≡ refused 26 0
unfolding engineered_in located needed and_then among find
example = refl
