-- Reasons 1 to 3 of a row's verdict, and the first reason of its columns.
use Rattle.std.specs.Prelude.{ℕ, suc, ◌+◌, ◌*◌, ◌≡◌, refl, List, [], ◌∷◌, Bool, true, not, cond, ◌||◌, eqb, ltb, length}
use Rattle.numbers.specs.Number.{number_of, meaning, spelt, after, digit_on, digit_of}
use Rattle.number_positions.specs.Positions.{no_digits}
use Rattle.lines.specs.Lines.{Line}
use Rattle.lines.specs.Columns.{columns_of, columns_from, printable, allowed, foreign_in}
use Rattle.lines.specs.declared.columns.Scanned.{Scanned}
use Rattle.column_checks.specs.Schema.{Column}
use Rattle.column_checks.specs.ColumnReasons.{number_reason, kind_reason, column_reason}
use Rattle.schemas.specs.Tables.{schema, cap}
use Rattle.schemas.specs.declared.Table.TheVariants.{Cap}

-- 01: "A verdict is reason × 256 + column"
abbrev pub reason_at : ℕ → ℕ → ℕ
reason_at reason column = reason * 256 + column

-- a reason, if there is one, with its column; else what comes after it
abbrev pub or_later : ℕ → ℕ → ℕ → ℕ
or_later reason column later = cond (eqb reason 0) later (reason_at reason column)

-- 01: "then by column, left to right": the first reason of the columns, of which the first has the number k
unfoldable pub first_reason : ℕ → List Column → List (List ℕ) → ℕ
first_reason k [] texts = 0
first_reason k (c ∷ cs) [] = 0
first_reason k (c ∷ cs) (t ∷ texts) = or_later (column_reason c t) k (first_reason (suc k) cs texts)

-- 01: "A row is a line ended by LF, at most 512 bytes before it"
abbrev pub longest_row : ℕ
longest_row = 512

-- 01: "1 unterminated or too long, 2 foreign byte, 3 column count, each column 0; then by column, left to right"
unfoldable pub shape : List Column → Line → ℕ
shape columns line =
    cond (not line.ended || ltb longest_row (length line.bytes)) (reason_at 1 0)
    (cond (foreign_in line.bytes) (reason_at 2 0)
    (cond (not (eqb (length (columns_of line.bytes)) (length columns))) (reason_at 3 0)
    (first_reason 1 columns (columns_of line.bytes))))

abbrev pub line_of : List ℕ → Bool → Line
line_of bytes ended = record { bytes = bytes; ended = ended }

-- the same where the texts of the columns are told one by one, from 0
unfoldable pub reason_from : ℕ → List Column → (ℕ → List ℕ) → ℕ
reason_from k [] at = 0
reason_from k (c ∷ cs) at = or_later (column_reason c (at k)) (suc k) (reason_from (suc k) cs at)

-- the shape of a line of so many bytes by what a walk over it told, and by the texts of its columns
unfoldable pub shape_by : List Column → Scanned → (bytes : ℕ) → (ℕ → List ℕ) → ℕ
shape_by columns walk bytes at =
    cond (not walk.ended || ltb longest_row bytes) (reason_at 1 0)
    (cond walk.foreign (reason_at 2 0)
    (cond (not (eqb walk.count (length columns))) (reason_at 3 0)
    (reason_from 0 columns at)))

-- a cap row: C1, TAB, 5, TAB, 08: 02, P2: "01's case 08 is now 13", at column 3
pub example : shape (schema Cap) (line_of (67 ∷ 49 ∷ 9 ∷ 53 ∷ 9 ∷ 48 ∷ 56 ∷ []) true) ≡ reason_at 13 3
unfolding shape schema cap foreign_in allowed printable columns_of columns_from first_reason column_reason kind_reason number_reason no_digits number_of meaning
    spelt after digit_on digit_of
example = refl
