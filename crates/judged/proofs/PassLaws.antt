-- The passes one after the other: what each leaves is what the next ones read.
use mathlib.Core.Path.{◌≡◌, ◌∙◌}
use mathlib.Core.List.{List}
use Prim.Native.Nat.{ℕ, min}
use lib.Dec.{eqb}
use lib.ListN.{get_or, replicate}
use lib.Seq.{sets}
use Rattle.laws.specs.Prefix.{flag}
use Rattle.laws.specs.Values.{tabulate}
use Rattle.arrays.specs.Room.{most_places}
use Rattle.symbols.specs.Arrays.{most_symbols}
use Rattle.base_verdicts.specs.Judged.{cell_rows}
use Rattle.passes.specs.Marked.{under}
use Rattle.passes.specs.Counts.{Counted}
use Rattle.passes.specs.Holders.{Noted, Filled}
use Rattle.passes.specs.Sound.{sound_at}
use Rattle.kept.specs.Stored.{own_column, key1_column, key2_column, group_column, kept_number_column, code1_column, code2_column, marks_column, count_column}
use Rattle.findings.specs.Found.{row_linked, count_finding}
use Rattle.judged.specs.Passes.{column_of, formed_by, SoundBy, HoldersBy, CountsBy, FoundBy, judged_by}

pub formed_is : (halves : List ℕ) (n : ℕ) (own formed : List ℕ) → own ≡ column_of halves own_column
    → formed ≡ sets (replicate most_places 0) 0 (tabulate (λ i. flag (eqb (get_or own i 0) 0)) 0 n) → formed ≡ formed_by halves n
formed_is halves n own formed e f = rw (← e) f

module _ (halves : List ℕ) (n : ℕ) (formed key1 key2 : List ℕ) (is : formed ≡ formed_by halves n)
    (one : key1 ≡ column_of halves key1_column) (two : key2 ≡ column_of halves key2_column) where
  pub sound_by_lem : (before after once twice : List ℕ) → Counted formed key1 (replicate most_symbols 0) once n → Counted formed key2 once twice n
      → Filled (sound_at formed key1 key2 twice) before after n → SoundBy halves before after n
  sound_by_lem before after once twice a b c =
      record { once = once; twice = twice; first = rw (← is, ← one) a; second = rw (← is, ← two) b; marked = rw (← is, ← one, ← two) c }

pub holders_noted : (marks halves : List ℕ) (n : ℕ) (key1 key2 : List ℕ) → key1 ≡ column_of halves key1_column → key2 ≡ column_of halves key2_column
    → (before once after : List ℕ) → Noted marks key1 before once (min n 65535) → Noted marks key2 once after (min n 65535)
    → HoldersBy marks halves before after n
holders_noted marks halves n key1 key2 one two before once after a b = record { once = once; first = rw (← one) a; second = rw (← two) b }

-- of other marks that are the same
pub holders_same : (marks marks' halves before after : List ℕ) (n : ℕ) → marks ≡ marks' → HoldersBy marks halves before after n
    → HoldersBy marks' halves before after n
holders_same marks marks' halves before after n e h = rw (← e) h

same_counts : (column₀ column key₀ key number₀ number tallies before : List ℕ) (n : ℕ)
    → column₀ ≡ column → key₀ ≡ key → number₀ ≡ number
    → sets before 0 (tabulate (λ i. count_finding (get_or column₀ i 0) (get_or number₀ i 0) (under tallies key₀ i)) 0 n)
    ≡ sets before 0 (tabulate (λ i. count_finding (get_or column i 0) (get_or number i 0) (under tallies key i)) 0 n)
same_counts column₀ column key₀ key number₀ number tallies before n p q r = rw (p, q, r)

module _ (halves bytes : List ℕ) (n : ℕ) (group column key1 number : List ℕ)
    (a : group ≡ column_of halves group_column) (b : column ≡ column_of bytes count_column)
    (c : key1 ≡ column_of halves key1_column) (d : number ≡ column_of halves kept_number_column) where
  pub counts_by : (sound before after tallies : List ℕ) → Counted sound group (replicate most_symbols 0) tallies n
      → after ≡ sets before 0 (tabulate (λ i. count_finding (get_or column i 0) (get_or number i 0) (under tallies key1 i)) 0 n)
      → CountsBy halves bytes sound before after n
  counts_by sound before after tallies t e =
      record { tallies = tallies; counted = rw (← a) t; compared = e ∙ same_counts column _ key1 _ number _ tallies before n b c d }

pub found_by : (halves holders : List ℕ) (column n : ℕ) (names before after : List ℕ) → names ≡ column_of halves column
    → after ≡ sets before 0 (tabulate (λ i. row_linked (under holders names i)) 0 n) → FoundBy halves holders column before after n
found_by halves holders column n names before after e f = rw (← e) f

pub judged_by_lem : (halves bytes sound counts found1 found2 before after : List ℕ) (n : ℕ) (own code1 code2 marks : List ℕ)
    → own ≡ column_of halves own_column → code1 ≡ column_of bytes code1_column
    → code2 ≡ column_of bytes code2_column → marks ≡ column_of bytes marks_column
    → after ≡ sets before 0 (cell_rows own sound counts code1 found1 code2 found2 marks n)
    → after ≡ sets before 0 (judged_by halves bytes sound counts found1 found2 n)
judged_by_lem halves bytes sound counts found1 found2 before after n own code1 code2 marks a b c d e = rw (← a, ← b, ← c, ← d) e
