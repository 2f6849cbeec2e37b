-- What the passes leave in the arrays that they are lent, by what is kept of the rows.
use Rattle.std.specs.Prelude.{ℕ, min, ◌*◌, ◌≡◌, List, eqb, get_or, take, drop, replicate}
use Rattle.std.proofs.lemmas.List.Edits.{sets}
use Rattle.laws.specs.Prefix.{flag}
use Rattle.laws.specs.Values.{tabulate}
use Rattle.arrays.specs.Room.{most_places}
use Rattle.symbols.specs.Arrays.{most_symbols}
use Rattle.passes.specs.Marked.{under}
use Rattle.passes.specs.Counts.{Counted}
use Rattle.passes.specs.Holders.{Noted, Filled}
use Rattle.passes.specs.Sound.{sound_at}
use Rattle.base_verdicts.specs.Judged.{cell_rows}
use Rattle.kept.specs.Stored.{
  own_column,
  key1_column,
  key2_column,
  name1_column,
  name2_column,
  group_column,
  kept_number_column,
  code1_column,
  code2_column,
  marks_column,
  count_column,
}
use Rattle.findings.specs.Found.{row_linked, count_finding}

-- column c by itself
abbrev pub column_of : List ℕ → ℕ → List ℕ
column_of columns c = take most_places (drop (c * most_places) columns)

-- the rows without reasons 1 to 8
abbrev pub formed_by : List ℕ → ℕ → List ℕ
formed_by halves n = sets (replicate most_places 0) 0 (tabulate (λ i. flag (eqb (get_or (column_of halves own_column) i 0) 0)) 0 n)

-- the holders of each key are counted, and the rows marked that are alone in holding theirs
pub record SoundBy (halves before after : List ℕ) (n : ℕ) : Type 0 where
  pub once : List ℕ
  pub twice : List ℕ
  pub first : Counted (formed_by halves n) (column_of halves key1_column) (replicate most_symbols 0) once n
  pub second : Counted (formed_by halves n) (column_of halves key2_column) once twice n
  pub marked : Filled (sound_at (formed_by halves n) (column_of halves key1_column) (column_of halves key2_column) twice) before after n

-- the marked row that holds each key is noted
pub record HoldersBy (marks halves before after : List ℕ) (n : ℕ) : Type 0 where
  pub once : List ℕ
  pub first : Noted marks (column_of halves key1_column) before once (min n 65535)
  pub second : Noted marks (column_of halves key2_column) once after (min n 65535)

-- the sound rows of each group are counted, and compared with the numbers that rows say
pub record CountsBy (halves bytes sound before after : List ℕ) (n : ℕ) : Type 0 where
  pub tallies : List ℕ
  pub counted : Counted sound (column_of halves group_column) (replicate most_symbols 0) tallies n
  pub compared : after
      ≡ sets before 0 (tabulate (λ i. count_finding
      (get_or (column_of bytes count_column) i 0) (get_or (column_of halves kept_number_column) i 0) (under tallies (column_of halves key1_column) i)) 0 n)

-- the rows that a column's names lead to
abbrev pub FoundBy : (halves holders : List ℕ) → (column : ℕ) → (before after : List ℕ) → ℕ → Type 0
FoundBy halves holders column before after n = after ≡ sets before 0 (tabulate (λ i. row_linked (under holders (column_of halves column) i)) 0 n)

-- the verdicts
abbrev pub judged_by : (halves bytes sound counts found1 found2 : List ℕ) → ℕ → List ℕ
judged_by halves bytes sound counts found1 found2 n =
    cell_rows (column_of halves own_column) sound counts (column_of bytes code1_column) found1 (column_of bytes code2_column) found2 (column_of bytes marks_column) n

-- all passes together: the verdicts are put to the cells
pub record JudgedInto (halves bytes before after : List ℕ) (n : ℕ) : Type 0 where
  pub sounds : List ℕ
  pub holders : List ℕ
  pub counts : List ℕ
  pub found1 : List ℕ
  pub found2 : List ℕ
  pub sound : SoundBy halves (replicate most_places 0) sounds n
  pub held : HoldersBy (formed_by halves n) halves (replicate most_symbols 0) holders n
  pub counted : CountsBy halves bytes sounds (replicate most_places 0) counts n
  pub one : FoundBy halves holders name1_column (replicate most_places 65535) found1 n
  pub two : FoundBy halves holders name2_column (replicate most_places 65535) found2 n
  pub judged : after ≡ sets before 0 (judged_by halves bytes sounds counts found1 found2 n)
