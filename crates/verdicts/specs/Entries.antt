-- The rows of all tables, in table order, each with what its own columns say.
use Rattle.std.specs.Prelude.{ℕ, suc, false, cond, List, [], ◌∷◌, ◌++◌, eqb, length, get_or}
use Rattle.lines.specs.Lines.{Line, lines_of}
use Rattle.schemas.specs.declared.Table.{Table}
use Rattle.schemas.specs.declared.Table.TheVariants.{Pid, Pic, Plf, Pcf, Caf, Cap, Txf, Txp, Ocf, Ocp, Mcf}
use Rattle.formed.specs.Formed.{formed}
use Rattle.verdicts.specs.Facts.{Facts, facts_of}

-- a row's own columns give a verdict of reasons 1 to 8, or else facts
pub data RowReading : Type 0 where
  bad : (verdict : ℕ) → RowReading
  fine : Facts → RowReading

unfoldable pub reading_of : Table → Line → RowReading
reading_of table line = cond (eqb (formed table line) 0) (fine (facts_of table line.bytes)) (bad (formed table line))

-- a row, known by the number of its table, from 0, and its own number, from 1
pub record Entry : Type 0 where
  pub table : ℕ
  pub row : ℕ
  pub reading : RowReading

-- the verdict of reasons 1 to 8, 0 where there is none
abbrev pub own : RowReading → ℕ
own (bad verdict) = verdict
own (fine facts) = 0

-- a row with one of reasons 1 to 8 holds, names and counts nothing
abbrev pub facts_in : RowReading → Facts
facts_in (bad verdict) = record { keys = []; names = []; counts = []; groups = []; meets = λ c. false }
facts_in (fine facts) = facts

abbrev pub facts : Entry → Facts
facts e = facts_in e.reading

-- 01: "tables pid, pic, plf, pcf, caf, cap, txf, txp, ocf, ocp, in that order"; 02, P1: "eleven tables, mcf last"
abbrev pub carried : List Table
carried = Pid ∷ Pic ∷ Plf ∷ Pcf ∷ Caf ∷ Cap ∷ Txf ∷ Txp ∷ Ocf ∷ Ocp ∷ Mcf ∷ []

-- how many tables there are
abbrev pub table_count : ℕ
table_count = length carried

-- the table with this number, from 0. What stands past the last says nothing
abbrev pub carried_at : ℕ → Table
carried_at t = get_or carried t Ocp

abbrev pub entry : Table → ℕ → ℕ → Line → Entry
entry table t row line = record { table = t; row = row; reading = reading_of table line }

-- 01: "Rows count from 1"
unfoldable pub entries_of : Table → ℕ → ℕ → List Line → List Entry
entries_of table t row [] = []
entries_of table t row (line ∷ lines) = entry table t row line ∷ entries_of table t (suc row) lines

unfoldable pub entries_from : ℕ → List Table → List (List ℕ) → List Entry
entries_from t [] texts = []
entries_from t (table ∷ tables) [] = []
entries_from t (table ∷ tables) (text ∷ texts) = entries_of table t 1 (lines_of text) ++ entries_from (suc t) tables texts

-- all rows of the tables
unfoldable pub all_rows : List (List ℕ) → List Entry
all_rows texts = entries_from 0 carried texts
