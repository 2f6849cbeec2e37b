-- The plf and pcf rows of a parameter, by their places in the columns.
use Rattle.std.specs.Prelude.{ℕ, ◌≡◌, refl, List, [], ◌∷◌}
use Rattle.lines.specs.Lines.{line_length, line_from}
use Rattle.database.specs.Arrays.{row_at}
use Rattle.parameters.specs.Located.{Located, by_lines}
use Rattle.parameters.specs.declared.Places.{Places}

abbrev pub rows_at : (texts : List (List ℕ)) (columns : List ℕ) → Places → Located
rows_at texts columns at = by_lines (row_at texts columns at.plf).bytes (row_at texts columns at.pcf).bytes

-- one row in table 0 and columns of zeros: both places lead to its line
example : rows_at ((65 ∷ 66 ∷ 10 ∷ []) ∷ []) [] (record { plf = 0; pcf = 0 }) ≡ by_lines (65 ∷ 66 ∷ []) (65 ∷ 66 ∷ [])
unfolding row_at line_from line_length
example = refl
