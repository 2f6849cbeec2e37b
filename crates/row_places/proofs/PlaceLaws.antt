-- One law for each return: the number of a row.
use mathlib.Core.Path.{◌≡◌}
use Prim.Native.Nat.{ℕ, ◌+◌, ◌-◌, ◌≤◌, ◌<◌}
use borrow.Author.Tests.{lt-ltb, le-ltb, le-leb, lt-leb}
use Rattle.cells.specs.declared.TableCells.{TableCells}
use Rattle.row_places.specs.Places.{row_number}

module _ (cells : TableCells) (i : ℕ) where
  pub number_before : i < cells.start → 0 ≡ row_number cells i
  unfolding row_number
  number_before h = rw (lt-leb cells.start i h)

  pub number_past : cells.start ≤ i → cells.end ≤ i → 0 ≡ row_number cells i
  unfolding row_number
  number_past l h = rw (le-leb cells.start i l, le-ltb i cells.end h)

  pub number_in : cells.start ≤ i → i < cells.end → i - cells.start + 1 ≡ row_number cells i
  unfolding row_number
  number_in l h = rw (le-leb cells.start i l, lt-ltb i cells.end h)
