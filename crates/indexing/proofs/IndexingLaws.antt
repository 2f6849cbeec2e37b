-- What the passes found and what was put make the index.
use mathlib.Core.Path.{◌≡◌}
use mathlib.Core.List.{List}
use Prim.Native.Nat.{ℕ, min}
use native.Mathlib.Omega.{arith}
use lib.Dec.{eqb}
use lib.ListN.{get_or, replicate}
use lib.Seq.{sets}
use Rattle.laws.specs.Prefix.{flag}
use Rattle.laws.specs.Values.{tabulate}
use Rattle.arrays.specs.Room.{most_places}
use Rattle.symbols.specs.Arrays.{most_symbols}
use Rattle.passes.specs.Groups.{Chained}
use Rattle.kept.specs.Stored as kept
use Rattle.judged.specs.Passes.{column_of, HoldersBy}
use Rattle.index_columns.specs.Columns.{index_columns}
use Rattle.indexing.specs.Indexing.{IndexedBy}

module _ (halves bytes cells : List ℕ) (n rows : ℕ) (few : rows ≡ min n most_places)
    (marks : List ℕ) (marked : marks ≡ sets (replicate most_places 0) 0 (tabulate (λ i. flag (eqb (get_or cells i 0) 0)) 0 rows))
    (holders : List ℕ) (held : HoldersBy marks halves (replicate most_symbols 0) holders rows)
    (firsts nexts : List ℕ)
    (chained : Chained marks (column_of halves kept.group_column) (replicate most_symbols 0) (replicate most_places 0) firsts nexts 0 (min rows 65535))
    (tables : List ℕ) (is-tables : tables ≡ column_of bytes kept.kept_table_column)
    (columns : List ℕ) (put : columns ≡ index_columns halves tables holders firsts nexts (min rows most_places)) where
  pub indexed_by : IndexedBy halves bytes cells columns (min n most_places)
  indexed_by =
      let most : min rows 65535 ≡ rows = omega arith in
      let room : min rows most_places ≡ rows = omega arith in
      rw (← few)
      record {
        holders = holders;
        firsts = firsts;
        nexts = nexts;
        held = rw (← marked) held;
        groups = rw (← marked) (rw most at chained);
        put = rw (← is-tables) (rw room at put);
      }
