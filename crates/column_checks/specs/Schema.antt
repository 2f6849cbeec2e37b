-- What a table asks of a column by itself.
use Rattle.std.specs.Prelude.{ℕ, List, Bool, true, false, ℤ, pos}

-- what a column may hold: any text, a number from lowest to highest, one letter of a list, or a coefficient
pub data ColumnKind : Type 0 where
  any_text : ColumnKind
  a_number : (lowest highest : ℤ) → ColumnKind
  a_letter : (letters : List ℕ) → ColumnKind
  a_coefficient : ColumnKind

-- 01: "Columns (width; ! mandatory; unlisted rules are width only)"
pub record Column : Type 0 where
  pub width : ℕ
  pub mandatory : Bool
  pub kind : ColumnKind

-- columns as 01 prints them; with ! they are mandatory
abbrev pub text : ℕ → Column
text w = record { width = w; mandatory = false; kind = any_text }

abbrev pub text! : ℕ → Column
text! w = record { width = w; mandatory = true; kind = any_text }

abbrev pub integer : ℕ → ℤ → ℤ → Column
integer w lowest highest = record { width = w; mandatory = false; kind = a_number lowest highest }

abbrev pub integer! : ℕ → ℤ → ℤ → Column
integer! w lowest highest = record { width = w; mandatory = true; kind = a_number lowest highest }

abbrev pub natural : ℕ → ℕ → ℕ → Column
natural w lowest highest = integer w (pos lowest) (pos highest)

abbrev pub natural! : ℕ → ℕ → ℕ → Column
natural! w lowest highest = integer! w (pos lowest) (pos highest)

abbrev pub letter : List ℕ → Column
letter letters = record { width = 1; mandatory = false; kind = a_letter letters }

abbrev pub letter! : List ℕ → Column
letter! letters = record { width = 1; mandatory = true; kind = a_letter letters }

-- 02, P1: "A coefficient is decimal text"
abbrev pub coefficient : ℕ → Column
coefficient w = record { width = w; mandatory = false; kind = a_coefficient }

abbrev pub coefficient! : ℕ → Column
coefficient! w = record { width = w; mandatory = true; kind = a_coefficient }
