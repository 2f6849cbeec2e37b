-- What import leaves in the buffers that it is lent, and that a row's cell and position are the same in two sets of
-- tables: the words in which demand 3 is claimed.
use Rattle.std.specs.Prelude.{ℕ, ◌<◌, ◌≡◌, List, length, get_or}
use Rattle.verdicts.specs.Verdicts.{verdicts}
use Rattle.verdicts.specs.Answer.{taken, room_in, import_of, cells_after, positions_after}
use Rattle.verdicts.specs.Places.{place}

-- the two buffers
pub record Lent : Type 0 where
  pub cells : List ℕ
  pub positions : List ℕ

-- how many rows they have room for
abbrev pub room_of : Lent → ℕ
room_of lent = room_in lent.cells lent.positions

-- 01: "Import takes the tables that it doesn't refuse", with these buffers lent
pub record Takes (texts : List (List ℕ)) (lent : Lent) : Type 0 where
  pub rows : ℕ
  pub good : ℕ
  pub answer : import_of texts (room_of lent) ≡ taken rows good

-- what import leaves in them
abbrev pub imported : List (List ℕ) → Lent → Lent
imported texts lent =
    record {
      cells = cells_after texts lent.cells (import_of texts (room_of lent));
      positions = positions_after texts lent.positions (import_of texts (room_of lent));
    }

-- import writes a cell and a position for row r of table u, of the tables here and of those there; they are the same
-- ones, and hold the same
pub record SameCell (texts texts' : List (List ℕ)) (lent lent' : Lent) (u r : ℕ) : Type 0 where
  pub written : place texts u r < length (verdicts texts)
  pub written' : place texts' u r < length (verdicts texts')
  pub same_place : place texts u r ≡ place texts' u r
  pub same : get_or (imported texts lent).cells (place texts u r) 0 ≡ get_or (imported texts' lent').cells (place texts' u r) 0
  pub same_position : get_or (imported texts lent).positions (place texts u r) 0 ≡ get_or (imported texts' lent').positions (place texts' u r) 0
