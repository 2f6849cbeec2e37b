-- The rows of a parameter: where it is in packets of a SPID, and what it is.
use Rattle.std.specs.Prelude.{ℕ, ◌≡◌, refl, List, [], Some, None}
use Rattle.std.specs.Prelude as rust
use Rattle.std.proofs.Math.Option.{Option, none, some}
use Rattle.laws.specs.Text.{ascii}
use Rattle.name_bytes.specs.Names.{name_of}
use Rattle.name_bytes.specs.declared.Name.{Name}
use Rattle.decoding.specs.Records.{plf_row, pcf_row}
use Rattle.rows.specs.declared.records.PlfRow.{PlfRow}
use Rattle.rows.specs.declared.records.PcfRow.{PcfRow}
use Rattle.outcomes.specs.Outcome.{Outcome, refused, answer, and_then}
use Rattle.verdicts.specs.Key.{location, parameter}
use Rattle.database.specs.Rows.{Row, Rows}
use Rattle.database.specs.GoodRows.{find, among}
use Rattle.database.specs.Arrays.{row_at}
use Rattle.parameters.specs.declared.Places.{Places}

pub record Located : Type 0 where
  pub plf : PlfRow
  pub pcf : PcfRow

-- as their lines say
unfoldable pub by_lines : (plf pcf : List ℕ) → Located
by_lines plf pcf = record { plf = plf_row plf; pcf = pcf_row pcf }

-- 01: "26 … no good plf row for name and SPID"
unfoldable pub needed : Option Row → Outcome Row
needed none = refused 26 0
needed (some row) = answer row

unfoldable pub located : Rows → (spid : ℕ) → Name → Outcome Located
located rows spid name =
    and_then (needed (rows.holder (location name spid))) (λ plf.
    and_then (needed (rows.holder (parameter name))) (λ pcf.
    answer (by_lines plf.bytes pcf.bytes)))

-- the rows at two places of the database, where they were found
unfoldable pub at_places : (texts : List (List ℕ)) → (columns : List ℕ) → rust.Option Places → Outcome Located
at_places texts columns None = refused 26 0
at_places texts columns (Some at) = answer (by_lines (row_at texts columns at.plf).bytes (row_at texts columns at.pcf).bytes)

pub record Examples : Type 0 where
  pub no_rows : located (among []) 7 (name_of (ascii "ONE")) ≡ refused 26 0
  pub not_found : at_places [] [] None ≡ refused 26 0

pub examples : Examples
unfolding located needed and_then among find at_places
examples = record { no_rows = refl; not_found = refl }
