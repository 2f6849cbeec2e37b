-- The columns of a line, and where they stand in it.
use Rattle.std.specs.Prelude.{ℕ, zero, suc, ◌+◌, ◌-◌, ◌≡◌, refl, List, [], ◌∷◌, ◌++◌, Bool, true, false, not, cond, ◌||◌, ◌&&◌, eqb, leb, ltb, length, get_or, take, drop, replicate}
use Rattle.laws.specs.Lists.{any}
use Rattle.laws.specs.Text.{ascii}
use Rattle.lines.specs.Lines.{line_length}
use Rattle.lines.specs.declared.columns.Scanned.{Scanned}

-- the byte TAB
abbrev pub tab : ℕ
tab = 9

-- the columns of a line that goes on with these bytes, after the bytes c of its first column
unfoldable pub columns_from : List ℕ → List ℕ → List (List ℕ)
columns_from c [] = c ∷ []
columns_from c (b ∷ bs) = cond (eqb b tab) (c ∷ columns_from [] bs) (columns_from (c ++ b ∷ []) bs)

-- 01: "Columns are divided by TAB"
unfoldable pub columns_of : List ℕ → List (List ℕ)
columns_of line = columns_from [] line

-- column k, from 0; one that isn't there reads as empty
abbrev pub column_at : List (List ℕ) → ℕ → List ℕ
column_at columns k = get_or columns k []

-- where a column starts, and one past its last byte
pub record Place : Type 0 where
  pub start : ℕ
  pub end : ℕ

-- the places of columns of which the first starts at a: each next one starts after the TAB that ends it
unfoldable pub places_from : ℕ → List (List ℕ) → List Place
places_from a [] = []
places_from a (c ∷ cs) = record { start = a; end = a + length c } ∷ places_from (a + length c + 1) cs

unfoldable pub places_of : List ℕ → List Place
places_of line = places_from 0 (columns_of line)

-- where the columns end of a line that goes on with these bytes from place i on: at each TAB, and where the line ends
unfoldable pub ends_from : ℕ → List ℕ → List ℕ
ends_from i [] = i ∷ []
ends_from i (b ∷ bs) = cond (eqb b tab) (i ∷ ends_from (suc i) bs) (ends_from (suc i) bs)

unfoldable pub ends_of : List ℕ → List ℕ
ends_of line = ends_from 0 line

-- the first n numbers of a list, and 0 for each that is missing
unfoldable pub firsts : ℕ → List ℕ → List ℕ
firsts n l = take n (l ++ replicate n 0)

-- where the columns of a line end, as it is handed on: of the first 24
unfoldable pub divided : List ℕ → List ℕ
divided line = firsts 24 (ends_of line)

-- 01: "other bytes are 0x20 to 0x7E"
unfoldable pub printable : ℕ → Bool
printable b = leb 0x20 b && leb b 0x7E

unfoldable pub allowed : ℕ → Bool
allowed b = eqb b tab || printable b

unfoldable pub foreign_in : List ℕ → Bool
foreign_in line = any (λ b. not (allowed b)) line

-- the bytes that a walk goes over: all, or those of the first line, where line feeds end lines
abbrev pub walked : (feeds : Bool) → List ℕ → List ℕ
walked true text = take (line_length text) text
walked false text = text

-- a walk of n columns that ended at a place of a text of so many bytes
abbrev pub closed : (bytes end n : ℕ) → (foreign : Bool) → Scanned
closed bytes end n foreign =
    record { end = end; ended = ltb end bytes; next = cond (ltb end bytes) (end + 1) end; count = n; foreign = foreign }

-- what a walk over a line tells that starts at a place of a text: where it ends, its columns,
-- and whether it has a foreign byte
unfoldable pub scanned : (feeds : Bool) → List ℕ → (from : ℕ) → Scanned
scanned feeds text from =
    let line : List ℕ = walked feeds (drop from text) in closed (length text) (from + length line) (length (columns_of line)) (foreign_in line)

-- the bytes of a line from start to before end, as far as the line has them
abbrev pub part_of : List ℕ → ℕ → ℕ → List ℕ
part_of line start end = take (end - start) (drop start line)

-- where column k starts: after the TAB that ends the column before it
abbrev pub start_in : List ℕ → ℕ → ℕ
start_in ends zero = 0
start_in ends (suc k) = get_or ends k 0 + 1

-- column k of a line whose columns end there; one without an end is empty
abbrev pub column_in : List ℕ → List ℕ → ℕ → List ℕ
column_in line ends k = part_of line (start_in ends k) (get_or ends k 0)

pub record Examples : Type 0 where
  pub columns : columns_of (65 ∷ 66 ∷ 9 ∷ 9 ∷ 67 ∷ []) ≡ ascii "AB" ∷ [] ∷ ascii "C" ∷ []
  pub places : places_of (65 ∷ 66 ∷ 9 ∷ 9 ∷ 67 ∷ [])
      ≡ record { start = 0; end = 2 } ∷ record { start = 3; end = 3 } ∷ record { start = 4; end = 5 } ∷ []
  pub ends : ends_of (65 ∷ 66 ∷ 9 ∷ 9 ∷ 67 ∷ []) ≡ 2 ∷ 3 ∷ 5 ∷ []
  pub empty_line : columns_of [] ≡ [] ∷ []
  pub delete : foreign_in (65 ∷ 9 ∷ 0x7F ∷ []) ≡ true

pub examples : Examples
unfolding columns_of columns_from places_of places_from ends_of ends_from foreign_in allowed printable
examples = record { columns = refl; places = refl; ends = refl; empty_line = refl; delete = refl }
