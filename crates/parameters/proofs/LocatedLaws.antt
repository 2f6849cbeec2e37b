-- Laws of the rows of a parameter: what was found of them, and what the places of the database say.
use mathlib.Core.Path.{◌≡◌}
use mathlib.Core.List.{List}
use mathlib.Core.Option.{none, some}
use Prim.Native.Nat.{ℕ}
use Rattle.std.specs.Prelude.{Option, Some, None}
use Rattle.name_bytes.specs.declared.Name.{Name}
use Rattle.outcomes.specs.Outcome.{refused, answer, and_then}
use Rattle.verdicts.specs.Key.{location, parameter}
use Rattle.database.specs.Rows.{Row, Rows}
use Rattle.database.specs.Arrays.{row_at}
use Rattle.parameters.specs.Located.{by_lines, needed, located, at_places}
use Rattle.parameters.specs.declared.Places.{Places}

module _ (rows : Rows) (spid : ℕ) (name : Name) where
  pub no_plf : rows.holder (location name spid) ≡ none → refused 26 0 ≡ located rows spid name
  unfolding located needed and_then
  no_plf e = rw e

  pub no_pcf : (plf : Row) → rows.holder (location name spid) ≡ some plf → rows.holder (parameter name) ≡ none → refused 26 0 ≡ located rows spid name
  unfolding located needed and_then
  no_pcf plf e f = rw (e, f)

  pub both : (plf pcf : Row) → rows.holder (location name spid) ≡ some plf → rows.holder (parameter name) ≡ some pcf
      → answer (by_lines plf.bytes pcf.bytes) ≡ located rows spid name
  unfolding located needed and_then
  both plf pcf e f = rw (e, f)

module _ (texts : List (List ℕ)) (columns : List ℕ) (found : Option Places) where
  pub at_found : {at : Places} → found ≡ Some at
      → at_places texts columns found ≡ answer (by_lines (row_at texts columns at.plf).bytes (row_at texts columns at.pcf).bytes)
  unfolding at_places
  at_found e = rw e

  pub at_missing : found ≡ None → at_places texts columns found ≡ refused 26 0
  unfolding at_places
  at_missing e = rw e
