-- The kinds of columns by number, as constants keep them: ranges, lists of letters and coefficients.
use Rattle.std.specs.Prelude.{ℕ, ◌-◌, List, [], ◌∷◌, cond, eqb, ltb, get_or, ℤ, pos, neg_ℤ}
use Rattle.laws.specs.Text.{ascii}
use Rattle.column_checks.specs.Schema.{ColumnKind, any_text, a_number, a_letter, a_coefficient, Column}

-- the ranges that 01 prints, by the number of their kind; kind 0 is any text
unfoldable pub lowests : List ℤ
lowests =
    pos 0 ∷ pos 0 ∷ pos 0 ∷ pos 0 ∷ pos 1 ∷ neg_ℤ (pos 1) ∷ pos 0 ∷ pos 0 ∷ pos 0 ∷ pos 1 ∷ pos 0 ∷ pos 0 ∷ neg_ℤ (pos 9999) ∷ pos 2 ∷ neg_ℤ (pos 1073741824)
    ∷ pos 1 ∷ neg_ℤ (pos 2147483648) ∷ pos 1 ∷ pos 1 ∷ []

unfoldable pub highests : List ℤ
highests =
    pos 0 ∷ pos 255 ∷ pos 65535 ∷ pos 2147483647 ∷ pos 4294967295 ∷ pos 8191 ∷ pos 32 ∷ pos 8191 ∷ pos 7 ∷ pos 9999 ∷ pos 32767 ∷ pos 99 ∷ pos 65535 ∷ pos 100
    ∷ pos 1073741823 ∷ pos 999 ∷ pos 4294967295 ∷ pos 99 ∷ pos 16 ∷ []

-- the lists of letters, from kind 128 on
abbrev pub letter_lists : List (List ℕ)
letter_lists =
    ascii "YN" ∷ ascii "NST" ∷ ascii "RDPHSC" ∷ ascii "PF" ∷ ascii "IUR" ∷ ascii "DHO" ∷ ascii "UC" ∷ ascii "RAI" ∷ ascii "SHDCE" ∷ []

unfoldable pub letters_at : ℕ → List ℕ
letters_at k = get_or letter_lists (k - 128) []

-- the lists one after the other, as a constant keeps them
unfoldable pub all_letters : List ℕ
all_letters = ascii "YNNSTRDPHSCPFIURDHOUCRAISHDCE"

-- the kind of coefficients, past all lists of letters
abbrev pub coefficient_kind : ℕ
coefficient_kind = 255

unfoldable pub kind_at : ℕ → ColumnKind
kind_at k =
    cond (eqb k 0) any_text
    (cond (eqb k coefficient_kind) a_coefficient
    (cond (ltb k 128) (a_number (get_or lowests k (pos 0)) (get_or highests k (pos 0)))
    (a_letter (letters_at k))))

-- a column by its width, its mark, 1 where it is mandatory, and the number of its kind
abbrev pub column_from : ℕ → ℕ → ℕ → Column
column_from width mark kind = record { width = width; mandatory = eqb mark 1; kind = kind_at kind }
