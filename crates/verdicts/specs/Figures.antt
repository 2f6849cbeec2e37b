-- Verdicts that are computed: 01's figure from the bytes of the tables, and what rows do to one another.
use Rattle.std.specs.Prelude.{ℕ, ◌≡◌, refl, Bool, true, false, List, [], ◌∷◌, ◌++◌, map}
use Prim.Native.String.{String}
use Rattle.laws.specs.Text.{ascii}
use Rattle.numbers.specs.Number.{digit_of, digit_on, after, spelt, meaning, number_of}
use Rattle.lines.specs.Columns.{tab, columns_from, columns_of, printable, allowed, foreign_in}
use Rattle.lines.specs.Lines.{line_feed, on_first, lead, lines_of}
use Rattle.name_bytes.specs.Names.{name_of, curve_name_of, same_bytes}
use Rattle.laws.specs.Walks.{lead_on, wrong_at}
use Rattle.number_positions.specs.Positions.{no_digits}
use Rattle.number_positions.specs.Positions as number
use Rattle.notation.specs.Positions.{lone_minus}
use Rattle.notation.specs.Positions as coefficient
use Rattle.notation.specs.Stages.{on_digit, in_digits, stage_after, stage_from, is_coefficient}
use Rattle.notation.specs.Scientific.{with_digit, with_character, scientific_from, parsed, parsed_of}
use Rattle.coefficients.specs.Coefficient.{scaled, double_of, valued, coefficient_of, coefficient_reason}
use Rattle.schemas.specs.Tables.{pid, plf, pcf, caf, cap, mcf, schema}
use Rattle.schemas.specs.Reasons.{first_reason, shape}
use Rattle.column_checks.specs.ColumnReasons.{is_in, listed, number_reason, kind_reason, column_reason}
use Rattle.schemas.specs.Positions.{position_in}
use Rattle.rows.specs.Values.{natural_from, natural_or, integer_from, integer_or, letter_of, format_of, off_ends_of}
use Rattle.rows.specs.Values.{is_given, optional_name, optional_curve, valid_of, category_of, nature_of}
use Rattle.decoding.specs.Records.{column, pid_row, plf_row, pcf_row, caf_row, cap_row, mcf_row}
use Rattle.widths.specs.Width.{bits_within, integer_width, width_of}
use Rattle.contradictions.specs.Contradictions.{is_real, caf_contradiction, contradiction}
use Rattle.contradictions.specs.Contradictions.{is_refused, category_clash, curve_clash, plf_contradiction, pcf_contradiction}
use Rattle.formed.specs.Formed.{or_contradiction, formed}
use Rattle.verdicts.specs.Key.{curve, parameter, limits, key_words, same_key}
use Rattle.verdicts.specs.Facts.{Condition, any_row, whole, points, Kind, itself, through, Naming, plainly, caf_meets}
use Rattle.verdicts.specs.Facts.{facts_of, pid_keys, pid_facts, plf_facts, pcf_facts, caf_facts, cap_facts, mcf_facts}
use Rattle.verdicts.specs.Entries.{Entry, bad, fine, reading_of, entries_of, entries_from, all_rows}
use Rattle.verdicts.specs.Steps.{twin, holds, belongs, rivals, names_at}
use Rattle.verdicts.specs.Verdicts.{shared, sound, tally, count_cell, follows, next, leads, circle}
use Rattle.verdicts.specs.Verdicts.{of_kind, asked, name_cell, judge, within, verdict, verdicts}
use Rattle.verdicts.specs.Positions.{position_by, row_position, position_told, positions}
use Rattle.verdicts.specs.Answer.{taken, refused, first_table, too_long, too_many_rows, zeros, import_of}

-- a row by its columns
abbrev row_of : List String → List ℕ
row_of [] = line_feed ∷ []
row_of (c ∷ []) = ascii c ++ line_feed ∷ []
row_of (c ∷ d ∷ cs) = ascii c ++ tab ∷ row_of (d ∷ cs)

-- tables of which only caf, cap and mcf have rows
abbrev curves : List ℕ → List ℕ → List ℕ → List (List ℕ)
curves cafs caps mcfs = [] ∷ [] ∷ [] ∷ [] ∷ cafs ∷ caps ∷ [] ∷ [] ∷ [] ∷ [] ∷ mcfs ∷ []

abbrev one_caf : String → List ℕ
one_caf ncurve = row_of ("C1" ∷ "" ∷ "I" ∷ "I" ∷ "" ∷ "" ∷ ncurve ∷ "" ∷ [])

abbrev two_caps : List ℕ
two_caps = row_of ("C1" ∷ "0" ∷ "0" ∷ []) ++ row_of ("C1" ∷ "10" ∷ "-5" ∷ [])

abbrev one_mcf : String → String → List ℕ
one_mcf ident pol1 = row_of (ident ∷ "" ∷ pol1 ∷ "" ∷ "" ∷ "" ∷ "" ∷ [])

pub record FromBytes : Type 0 where
  -- 01: "A caf row with NCURVE 3, two sound cap rows of it and nothing else: cells 2567, 2817, 2817; three rows,
  -- none good"
  pub miscounted : verdicts (curves (one_caf "3") two_caps []) ≡ 2567 ∷ 2817 ∷ 2817 ∷ []
  pub answered : import_of (curves (one_caf "3") two_caps []) 3 ≡ taken 3 0
  -- with the right count all are good
  pub counted : import_of (curves (one_caf "2") two_caps []) 3 ≡ taken 3 3
  -- 02, P1: "a clash is reason 9 for both"; the points then name no good row
  pub clash : verdicts (curves (one_caf "2") two_caps (one_mcf "C1" "0.5")) ≡ 2304 ∷ 2817 ∷ 2817 ∷ 2304 ∷ []
  -- points of a polynomial: 11 at column 1; a polynomial of another name; a coefficient that is none
  pub points_of_polynomial : verdicts (curves [] two_caps (one_mcf "C1" "0.5")) ≡ 2817 ∷ 2817 ∷ 0 ∷ []
  pub polynomial : verdicts (curves (one_caf "2") two_caps (one_mcf "C2" "1e22")) ≡ 0 ∷ 0 ∷ 0 ∷ 0 ∷ []
  pub comma : verdicts (curves [] [] (one_mcf "C2" "0,5")) ≡ 3331 ∷ []
  -- 02, P2: "01's case 08 is now 13 at position 2"; "otherwise 0"
  pub octal : verdicts (curves (one_caf "08") two_caps (one_mcf "C2" "0,5")) ≡ 3335 ∷ 2817 ∷ 2817 ∷ 3331 ∷ []
  pub wrong_at_second : positions (curves (one_caf "08") two_caps (one_mcf "C2" "0,5")) ≡ 2 ∷ 0 ∷ 0 ∷ 2 ∷ []
  -- no room for three cells
  pub no_room : import_of (curves (one_caf "2") two_caps []) 2 ≡ refused 3 0

pub from_bytes : FromBytes
unfolding
    digit_of digit_on after spelt meaning number_of columns_from columns_of on_first lead lines_of name_of curve_name_of same_bytes
    caf cap mcf schema coefficient_reason coefficient_of valued double_of scaled parsed_of parsed is_coefficient scientific_from with_character with_digit
    stage_from stage_after in_digits on_digit printable allowed foreign_in is_in listed number_reason no_digits lone_minus kind_reason column_reason first_reason shape
    natural_from natural_or integer_from
    integer_or letter_of format_of off_ends_of
    column caf_row cap_row mcf_row is_real caf_contradiction contradiction or_contradiction formed key_words same_key facts_of caf_facts cap_facts mcf_facts
    reading_of entries_of
    entries_from all_rows
    twin holds belongs rivals shared sound tally count_cell follows next leads circle names_at of_kind asked name_cell judge within verdict verdicts
    first_table too_long too_many_rows zeros import_of
    position_by row_position position_told positions position_in wrong_at lead_on number.is_stuck coefficient.is_stuck
from_bytes =
    record {
      miscounted = refl;
      answered = refl;
      counted = refl;
      clash = refl;
      points_of_polynomial = refl;
      polynomial = refl;
      comma = refl;
      octal = refl;
      wrong_at_second = refl;
      no_room = refl;
    }

-- tables of which only pid, plf and pcf have rows
abbrev parameters : List ℕ → List ℕ → List ℕ → List (List ℕ)
parameters pids plfs pcfs = pids ∷ [] ∷ plfs ∷ pcfs ∷ [] ∷ [] ∷ [] ∷ [] ∷ [] ∷ [] ∷ [] ∷ []

abbrev one_pid : List ℕ
one_pid = row_of ("3" ∷ "25" ∷ "10" ∷ "" ∷ "" ∷ "1" ∷ "" ∷ "" ∷ "" ∷ "" ∷ "" ∷ "" ∷ "" ∷ "" ∷ "" ∷ "" ∷ [])

abbrev one_plf : String → List ℕ
one_plf name = row_of (name ∷ "1" ∷ "12" ∷ "0" ∷ "" ∷ "" ∷ "" ∷ "" ∷ [])

-- an unsigned parameter of 8 bits
abbrev one_pcf : String → String → List ℕ
one_pcf name natur =
    row_of (name ∷ "" ∷ "" ∷ "" ∷ "3" ∷ "4" ∷ "" ∷ "" ∷ "" ∷ "N" ∷ natur ∷ "" ∷ "" ∷ "" ∷ "" ∷ "" ∷ "" ∷ "" ∷ "" ∷ "" ∷ "" ∷ "" ∷ "" ∷ [])

pub record Located : Type 0 where
  -- 02, P5: "plf NAME may name a pcf row of NATUR R or C", and no other: 11 at column 1
  pub constant : verdicts (parameters one_pid (one_plf "A" ++ one_plf "B") (one_pcf "A" "R" ++ one_pcf "B" "C")) ≡ 0 ∷ 0 ∷ 0 ∷ 0 ∷ 0 ∷ []
  pub synthetic : verdicts (parameters one_pid (one_plf "A" ++ one_plf "B") (one_pcf "A" "D" ++ one_pcf "B" "S")) ≡ 0 ∷ 2817 ∷ 2817 ∷ 0 ∷ 0 ∷ []
  -- "C rows without a plf row are static constants and stay good"
  pub static : verdicts (parameters [] [] (one_pcf "A" "C")) ≡ 0 ∷ []

pub located : Located
unfolding
    digit_of digit_on after spelt meaning number_of columns_from columns_of on_first lead lines_of name_of curve_name_of same_bytes
    pid plf pcf schema printable allowed foreign_in is_in listed number_reason no_digits kind_reason column_reason first_reason shape
    natural_from natural_or integer_from integer_or letter_of is_given optional_name optional_curve valid_of category_of nature_of column pid_row plf_row pcf_row
    bits_within integer_width width_of is_refused category_clash curve_clash plf_contradiction pcf_contradiction contradiction or_contradiction formed
    key_words same_key facts_of pid_keys pid_facts plf_facts pcf_facts reading_of entries_of entries_from all_rows
    twin holds belongs rivals shared sound tally count_cell follows next leads circle names_at of_kind asked name_cell judge within verdict verdicts
located = record { constant = refl; synthetic = refl; static = refl }

-- Rows by their facts, of parameters with one letter for a name

-- pcf row r, which meets every condition
abbrev pcf_entry : ℕ → String → List Naming → Entry
pcf_entry r name named =
    record {
      table = 3;
      row = r;
      reading = fine (record {
        keys = parameter
            (name_of (ascii name)) ∷ [];
        names = named;
        counts = [];
        groups = [];
        meets = λ c. true;
      });
    }

abbrev valid : String → Naming
valid name = record { column = 8; key = parameter (name_of (ascii name)); kind = itself whole; chained = true }

abbrev curtx : String → Naming
curtx name = record { column = 12; key = curve (curve_name_of (ascii name)); kind = itself any_row; chained = false }

-- a pcf row that meets no condition
abbrev odd : ℕ → String → Entry
odd r name = record {
  table = 3;
  row = r;
  reading = fine (record {
    keys = parameter
        (name_of (ascii name)) ∷ [];
    names = [];
    counts = [];
    groups = [];
    meets = λ c. false;
  });
}

-- a row that holds a curve's key: in caf it is through points, in mcf it isn't
abbrev curve_row : (table : ℕ) → String → (Condition → Bool) → Entry
curve_row table name meets =
    record {
      table = table;
      row = 1;
      reading = fine (record {
        keys = curve (curve_name_of (ascii name)) ∷ [];
        names = [];
        counts = [];
        groups = [];
        meets = meets;
      });
    }

abbrev caf_entry : String → Entry
caf_entry name = curve_row 4 name caf_meets

abbrev mcf_entry : String → Entry
mcf_entry name = curve_row 10 name plainly

-- an ocf row that asks at column 4 for a parameter of this kind
abbrev limit_on : String → Kind → Entry
limit_on name k =
    record {
      table = 8;
      row = 1;
      reading = fine (record {
        keys = limits (name_of (ascii name)) ∷ [];
        names = record { column = 4; key = parameter (name_of (ascii name)); kind = k; chained = false } ∷ [];
        counts = [];
        groups = [];
        meets = plainly;
      });
    }

abbrev cells_of : List Entry → List ℕ
cells_of rows = map (verdict rows) rows

pub record FromFacts : Type 0 where
  -- a circle of three: reason 12, which outranks 11, also where CURTX names no row. One that leads into it:
  -- 11 at column 8
  pub circle_of_three : cells_of (pcf_entry 1 "A" (valid "B" ∷ []) ∷ pcf_entry 2 "B" (valid "C" ∷ curtx "K" ∷ []) ∷ pcf_entry 3 "C" (valid "A" ∷ [])
      ∷ pcf_entry 4 "D" (valid "A" ∷ []) ∷ []) ≡ 3080 ∷ 3080 ∷ 3080 ∷ 2824 ∷ []
  -- one that names itself is on a circle
  pub on_itself : cells_of (pcf_entry 1 "A" (valid "A" ∷ []) ∷ []) ≡ 3080 ∷ []
  -- two that hold a key: both 9, and what would be a circle through them is cut; one that names them: 11
  pub two_holders : cells_of (pcf_entry 1 "A" (valid "B" ∷ []) ∷ pcf_entry 2 "B" (valid "A" ∷ []) ∷ pcf_entry 3 "B" [] ∷ []) ≡ 2824 ∷ 2304 ∷ 2304 ∷ []
  -- the named row is there and good, but not of the kind asked
  pub other_kind : cells_of (pcf_entry 1 "A" (valid "B" ∷ []) ∷ odd 2 "B" ∷ []) ≡ 2824 ∷ 0 ∷ []
  -- 01: "C needs CURTX in that pcf row": it names a curve through points; it names none; and a good VALID is no CURTX
  pub second_row : cells_of (limit_on "A" (through 12 points) ∷ pcf_entry 1 "A" (curtx "K" ∷ []) ∷ caf_entry "K" ∷ []) ≡ 0 ∷ 0 ∷ 0 ∷ []
  pub no_second_row : cells_of (limit_on "A" (through 12 points) ∷ pcf_entry 1 "A" [] ∷ caf_entry "K" ∷ []) ≡ 2820 ∷ 0 ∷ 0 ∷ []
  pub other_column : cells_of (limit_on "A" (through 12 points) ∷ pcf_entry 1 "A" (valid "B" ∷ []) ∷ pcf_entry 2 "B" [] ∷ []) ≡ 2820 ∷ 0 ∷ 0 ∷ []
  -- 02, P1: "a limit with INTER C on a polynomial is reason 11 at column 4": the second row is there and good,
  -- but of another kind
  pub other_second : cells_of (limit_on "A" (through 12 points) ∷ pcf_entry 1 "A" (curtx "K" ∷ []) ∷ mcf_entry "K" ∷ []) ≡ 2820 ∷ 0 ∷ 0 ∷ []
  -- of two names the lowest column decides
  pub lowest_column : cells_of (pcf_entry 1 "A" (valid "B" ∷ curtx "K" ∷ []) ∷ []) ≡ 2824 ∷ []
  -- a row with one of reasons 1 to 8 holds nothing
  pub bad_holds_nothing : cells_of (pcf_entry 1 "A" (valid "B" ∷ []) ∷ record { table = 3; row = 2; reading = bad 1286 } ∷ []) ≡ 2824 ∷ 1286 ∷ []

pub from_facts : FromFacts
unfolding
    name_of curve_name_of same_bytes key_words same_key
    twin holds belongs rivals shared sound tally count_cell follows next leads circle names_at of_kind asked name_cell judge within verdict
from_facts =
    record {
      circle_of_three = refl;
      on_itself = refl;
      two_holders = refl;
      other_kind = refl;
      second_row = refl;
      no_second_row = refl;
      other_column = refl;
      other_second = refl;
      lowest_column = refl;
      bad_holds_nothing = refl;
    }
