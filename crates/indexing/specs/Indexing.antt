-- An index over what is kept of the rows: which good row holds a key, and the good rows of a group,
-- one after the other.
use Rattle.std.specs.Prelude.{ℕ, ◌≡◌, List, eqb, get_or, replicate}
use Rattle.std.proofs.lemmas.List.Edits.{sets}
use Rattle.laws.specs.Prefix.{flag}
use Rattle.laws.specs.Values.{tabulate}
use Rattle.arrays.specs.Room.{most_places}
use Rattle.symbols.specs.Arrays.{most_symbols}
use Rattle.passes.specs.Groups.{Chained}
use Rattle.kept.specs.Stored as kept
use Rattle.judged.specs.Passes.{column_of, HoldersBy}
use Rattle.index_columns.specs.Columns.{index_columns}

-- 01: "Good is 0": the first n rows are marked by 1 where they are good
abbrev pub good_marks : List ℕ → ℕ → List ℕ
good_marks cells n = sets (replicate most_places 0) 0 (tabulate (λ i. flag (eqb (get_or cells i 0) 0)) 0 n)

-- only good rows are indexed
pub record IndexedBy (halves bytes cells columns : List ℕ) (n : ℕ) : Type 0 where
  pub holders : List ℕ
  pub firsts : List ℕ
  pub nexts : List ℕ
  pub held : HoldersBy (good_marks cells n) halves (replicate most_symbols 0) holders n
  pub groups : Chained (good_marks cells n) (column_of halves kept.group_column) (replicate most_symbols 0) (replicate most_places 0) firsts nexts 0 n
  pub put : columns ≡ index_columns halves (column_of bytes kept.kept_table_column) holders firsts nexts n
