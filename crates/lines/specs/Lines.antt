-- The lines of a table.
use Rattle.std.specs.Prelude.{ℕ, suc, ◌+◌, ◌≡◌, refl, List, [], ◌∷◌, Bool, true, false, not, cond, ◌&&◌, eqb, ltb, length, take, drop}
use Rattle.laws.specs.Text.{ascii}
use Rattle.lines.specs.declared.walk.NextLine.{NextLine}

-- a line's bytes, and whether a line feed ends it
pub record Line : Type 0 where
  pub bytes : List ℕ
  pub ended : Bool

-- the byte LF
abbrev pub line_feed : ℕ
line_feed = 10

-- lines with one byte more in front of the first
unfoldable pub on_first : ℕ → List Line → List Line
on_first b [] = record { bytes = b ∷ []; ended = false } ∷ []
on_first b (l ∷ ls) = record { bytes = b ∷ l.bytes; ended = l.ended } ∷ ls

unfoldable pub lead : ℕ → List Line → List Line
lead b ls = cond (eqb b line_feed) (record { bytes = []; ended = true } ∷ ls) (on_first b ls)

-- 01: "A row is a line ended by LF"; "Bytes after the last LF are one row"
unfoldable pub lines_of : List ℕ → List Line
lines_of [] = []
lines_of (b ∷ bs) = lead b (lines_of bs)

-- bytes with no line feed among them
unfoldable pub free : List ℕ → Bool
free [] = true
free (b ∷ bs) = not (eqb b line_feed) && free bs

-- whole lines: no bytes, or the last is a line feed
unfoldable pub whole : List ℕ → Bool
whole [] = true
whole (b ∷ []) = eqb b line_feed
whole (b ∷ c ∷ bs) = whole (c ∷ bs)

-- how many bytes stand before the first line feed, or all where there is none
unfoldable pub line_length : List ℕ → ℕ
line_length [] = 0
line_length (b ∷ bs) = cond (eqb b line_feed) 0 (suc (line_length bs))

-- the line that starts at a place of a table: where it ends, whether a line feed ends it, and where the next one starts
unfoldable pub next_line : List ℕ → ℕ → NextLine
next_line table at =
    let end : ℕ = at + line_length (drop at table) in
    record { end = end; ended = ltb end (length table); next = cond (ltb end (length table)) (end + 1) end }

-- that line itself
unfoldable pub line_from : List ℕ → ℕ → Line
line_from table at = record { bytes = take (line_length (drop at table)) (drop at table); ended = (next_line table at).ended }

-- two rows, of which the second isn't ended
pub example : lines_of (65 ∷ 66 ∷ 10 ∷ 67 ∷ []) ≡ record { bytes = ascii "AB"; ended = true } ∷ record { bytes = ascii "C"; ended = false } ∷ []
unfolding lines_of lead on_first
example = refl
