-- What a packet says of a parameter.
use Rattle.std.specs.Prelude.{ℕ, ◌≡◌, refl, List, []}
use Rattle.laws.specs.Text.{ascii}
use Rattle.name_bytes.specs.Names.{name_of}
use Rattle.headers.specs.Header.{head_of}
use Rattle.outcomes.specs.Outcome.{Outcome, refused, and_then}
use Rattle.database.specs.Rows.{Rows}
use Rattle.database.specs.GoodRows.{among}
use Rattle.identification.specs.Identification.{identify_by}
use Rattle.readings.specs.Readings.{Reading, reading}

-- 01: "no good plf row for name and SPID": once the packet is identified,
-- the reading of occurrence k in a packet of its SPID
unfoldable pub extract_by : Rows → (p name : List ℕ) → (k : ℕ) → Outcome Reading
extract_by rows p name k = and_then (identify_by rows p) (λ id. reading rows p id.spid (name_of name) k)

-- what refuses the packet refuses the reading
pub example : extract_by (among []) [] (ascii "T1") 0 ≡ refused 20 0
unfolding extract_by and_then identify_by head_of
example = refl
