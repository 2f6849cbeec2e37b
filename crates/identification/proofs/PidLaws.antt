-- The pid row that the five numbers choose.
use mathlib.Core.Path.{◌≡◌}
use mathlib.Core.Bool.{false}
use mathlib.Core.Option.{none, some}
use Prim.Native.Nat.{ℕ}
use Rattle.decoding.specs.Records.{pid_row}
use Rattle.units.specs.declared.Spid.{Spid}
use Rattle.verdicts.specs.Key.{Key}
use Rattle.key_symbols.specs.Bounded.{key_fits, packet_of}
use Rattle.key_symbols.specs.declared.FiveNumbers.{FiveNumbers}
use Rattle.outcomes.specs.Outcome.{answer, refused}
use Rattle.database.specs.Rows.{Row, Rows}
use Rattle.database.specs.Arrays.{Database, row_for, keyed_by, answers}
use Rattle.identification.specs.Identification.{chosen, choose_by}

-- a key that doesn't fit is held by no row
pub holder_unfit : (d : Database) (k : Key) → key_fits k ≡ false → (answers d).holder k ≡ none
unfolding answers keyed_by row_for
holder_unfit d k e = rw e

module _ (rows : Rows) (n : FiveNumbers) where
  pub choice_none : rows.holder (packet_of n) ≡ none → refused 25 0 ≡ choose_by rows n
  unfolding choose_by chosen
  choice_none e = rw e

  pub choice_some : {row : Row} {number : ℕ} {spid : Spid} → rows.holder (packet_of n) ≡ some row → number ≡ row.number
      → spid ≡ (pid_row row.bytes).spid → answer (record { row = number; spid = spid.0; numbers = n }) ≡ choose_by rows n
  unfolding choose_by chosen
  choice_some e m p = rw (e, m, p)
