-- Columns read place by place.
use mathlib.Core.Path.{◌≡◌, sym}
use mathlib.Core.List.{List}
use Prim.Native.Nat.{ℕ, ◌+◌, ◌≤◌, ◌<◌}
use native.Mathlib.Omega.{arith}
use lib.ListN.{length, get_or, get_or-eq_default}
use borrow.Author.Tests.{lt-ltb, le-ltb}
use Rattle.symbols.specs.Arrays.{most_symbols}
use Rattle.symbols.specs.declared.Symbol.{Symbol}
use Rattle.symbols.specs.Searches.{found}
use Rattle.database.specs.Arrays.{keyed}

-- past a column's end
pub past_end : (columns : List ℕ) (column i : ℕ) → length columns ≤ i → 0 ≡ get_or columns (column + i) 0
past_end columns column i h = sym (get_or-eq_default columns 0 {n = column + i} (omega arith))

-- what a column says of a key, by the key's id
module _ (words links columns : List ℕ) (column : ℕ) (k : Symbol) {id : ℕ} (e : id ≡ found words links k) where
  pub keyed_in : {x : ℕ} → id < most_symbols → x ≡ get_or columns (column + id) 0 → x ≡ keyed words links columns column k
  unfolding keyed
  keyed_in h q = rw (← e, lt-ltb id most_symbols h) q

  pub keyed_out : most_symbols ≤ id → 0 ≡ keyed words links columns column k
  unfolding keyed
  keyed_out h = rw (← e, le-ltb id most_symbols h)
