-- Causes that are computed: of 01's figure from the bytes of the tables, and of rows by what they say.
use Rattle.std.specs.Prelude.{ℕ, ◌≡◌, refl, Bool, true, false, List, [], ◌∷◌, ◌++◌, map}
use Prim.Native.String.{String}
use Rattle.laws.specs.Text.{ascii}
use Rattle.number_positions.specs.Positions.{no_digits}
use Rattle.numbers.specs.Number.{digit_of, digit_on, after, spelt, meaning, number_of}
use Rattle.lines.specs.Columns.{tab, columns_from, columns_of, printable, allowed, foreign_in}
use Rattle.lines.specs.Lines.{line_feed, on_first, lead, lines_of}
use Rattle.name_bytes.specs.Names.{name_of, curve_name_of, same_bytes}
use Rattle.schemas.specs.Tables.{caf, cap, schema}
use Rattle.schemas.specs.Reasons.{first_reason, shape}
use Rattle.column_checks.specs.ColumnReasons.{is_in, listed, number_reason, kind_reason, column_reason}
use Rattle.rows.specs.Values.{natural_from, natural_or, integer_from, integer_or, letter_of, format_of, off_ends_of}
use Rattle.decoding.specs.Records.{column, caf_row, cap_row}
use Rattle.contradictions.specs.Contradictions.{is_real, caf_contradiction, contradiction}
use Rattle.formed.specs.Formed.{or_contradiction, formed}
use Rattle.verdicts.specs.Key.{parameter, key_words, same_key}
use Rattle.verdicts.specs.Facts.{whole, itself, Naming, Facts, facts_of, caf_facts, cap_facts}
use Rattle.verdicts.specs.Entries.{Entry, bad, fine, reading_of, entries_of, entries_from, all_rows}
use Rattle.verdicts.specs.Steps.{twin, holds, belongs, rivals, names_at, counts}
use Rattle.verdicts.specs.Verdicts.{shared, sound, tally, count_cell, follows, next, leads, circle}
use Rattle.verdicts.specs.Verdicts.{of_kind, asked, name_cell, judge, within, verdict}
use Rattle.causes.specs.Causes.{speaks_of, causes}

-- a row by the number of its table, from 0, and its own
pub record RowPlace : Type 0 where
  pub table : ℕ
  pub row : ℕ

abbrev row_place : ℕ → ℕ → RowPlace
row_place t r = record { table = t; row = r }

abbrev place_of : Entry → RowPlace
place_of e = row_place e.table e.row

-- for each row the places of those that its verdict speaks of
abbrev causes_in : List Entry → List (List RowPlace)
causes_in rows = map (λ e. map place_of (causes rows e)) rows

-- a row by its columns
abbrev row_of : List String → List ℕ
row_of [] = line_feed ∷ []
row_of (c ∷ []) = ascii c ++ line_feed ∷ []
row_of (c ∷ d ∷ cs) = ascii c ++ tab ∷ row_of (d ∷ cs)

-- one caf row and two cap rows of its name
abbrev figure : (ncurve : String) → List (List ℕ)
figure ncurve =
    [] ∷ [] ∷ [] ∷ [] ∷ row_of ("C1" ∷ "" ∷ "I" ∷ "I" ∷ "" ∷ "" ∷ ncurve ∷ "" ∷ [])
    ∷ (row_of ("C1" ∷ "0" ∷ "0" ∷ []) ++ row_of ("C1" ∷ "10" ∷ "-5" ∷ [])) ∷ [] ∷ [] ∷ [] ∷ [] ∷ []

pub record FromBytes : Type 0 where
  -- 01: "A caf row with NCURVE 3, two sound cap rows of it and nothing else": its verdict speaks of both,
  -- and theirs of it
  pub miscounted : causes_in (all_rows (figure "3")) ≡ (row_place 5 1 ∷ row_place 5 2 ∷ []) ∷ (row_place 4 1 ∷ []) ∷ (row_place 4 1 ∷ []) ∷ []
  -- with the right count all are good, and lean on nothing
  pub counted : causes_in (all_rows (figure "2")) ≡ [] ∷ [] ∷ [] ∷ []

pub from_bytes : FromBytes
unfolding
    digit_of digit_on after spelt meaning number_of columns_from columns_of on_first lead lines_of name_of curve_name_of same_bytes
    caf cap schema printable allowed foreign_in is_in listed number_reason no_digits kind_reason column_reason first_reason shape
    natural_from natural_or integer_from integer_or letter_of format_of off_ends_of column caf_row cap_row is_real caf_contradiction contradiction or_contradiction formed
    key_words same_key facts_of caf_facts cap_facts reading_of entries_of entries_from all_rows twin holds belongs rivals names_at counts
    shared sound tally count_cell follows next leads circle of_kind asked name_cell judge within verdict speaks_of causes
from_bytes = record { miscounted = refl; counted = refl }

-- pcf row r, which meets every condition or none
abbrev pcf_says : String → List Naming → Bool → Facts
pcf_says name named met = record { keys = parameter (name_of (ascii name)) ∷ []; names = named; counts = []; groups = []; meets = λ c. met }

abbrev pcf_entry : ℕ → String → List Naming → Entry
pcf_entry r name named = record { table = 3; row = r; reading = fine (pcf_says name named true) }

abbrev odd : ℕ → String → Entry
odd r name = record { table = 3; row = r; reading = fine (pcf_says name [] false) }

abbrev valid : String → Naming
valid name = record { column = 8; key = parameter (name_of (ascii name)); kind = itself whole; chained = true }

abbrev pcf : ℕ → RowPlace
pcf r = row_place 3 r

pub record FromFacts : Type 0 where
  -- reason 9: each of three holders speaks of the other two; reason 11: one that names them, of all three
  pub three_holders : causes_in (pcf_entry 1 "B" [] ∷ pcf_entry 2 "B" [] ∷ pcf_entry 3 "B" [] ∷ pcf_entry 4 "A" (valid "B" ∷ []) ∷ [])
      ≡ (pcf 2 ∷ pcf 3 ∷ []) ∷ (pcf 1 ∷ pcf 3 ∷ []) ∷ (pcf 1 ∷ pcf 2 ∷ []) ∷ (pcf 1 ∷ pcf 2 ∷ pcf 3 ∷ []) ∷ []
  -- reason 12: round a circle of two; reason 11: from a row that leads into it
  pub circle_of_two : causes_in (pcf_entry 1 "A" (valid "B" ∷ []) ∷ pcf_entry 2 "B" (valid "A" ∷ []) ∷ pcf_entry 3 "C" (valid "A" ∷ []) ∷ [])
      ≡ (pcf 2 ∷ []) ∷ (pcf 1 ∷ []) ∷ (pcf 1 ∷ []) ∷ []
  -- one that names itself is told to be its own next
  pub on_itself : causes_in (pcf_entry 1 "A" (valid "A" ∷ []) ∷ []) ≡ (pcf 1 ∷ []) ∷ []
  -- reason 11: the named row is good, and of another kind; it isn't there; it has one of reasons 1 to 8 and so no name
  pub other_kind : causes_in (pcf_entry 1 "A" (valid "B" ∷ []) ∷ odd 2 "B" ∷ []) ≡ (pcf 2 ∷ []) ∷ [] ∷ []
  pub no_row : causes_in (pcf_entry 1 "A" (valid "B" ∷ []) ∷ []) ≡ [] ∷ []
  pub bad_row : causes_in (pcf_entry 1 "A" (valid "B" ∷ []) ∷ record { table = 3; row = 2; reading = bad 1286 } ∷ []) ≡ [] ∷ [] ∷ []

pub from_facts : FromFacts
unfolding
    name_of same_bytes key_words same_key twin holds belongs rivals names_at counts
    shared sound tally count_cell follows next leads circle of_kind asked name_cell judge within verdict speaks_of causes
from_facts = record { three_holders = refl; circle_of_two = refl; on_itself = refl; other_kind = refl; no_row = refl; bad_row = refl }
