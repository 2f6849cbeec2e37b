-- What replacing a line leaves as it was: all rows but the line, and their places.
use mathlib.Core.Path.{◌≡◌, refl, sym, ap, ◌∙◌}
use mathlib.Core.Bool.{true}
use mathlib.Core.List.{List, [], ◌∷◌, ◌++◌}
use Prim.Native.Nat.{ℕ, zero, suc, ◌+◌, ◌-◌, ◌<◌}
use native.Mathlib.Omega.{arith}
use native.Mathlib.Decide.{ℕ_discrete}
use lib.ListN.{length, get_or, set, length-append}
use lib.Seq.{get_or-append_seam, get_or-set_same, get_or-set_other}
use Rattle.laws.proofs.Lists.{at_other}
use Rattle.lines.specs.Lines.{Line, line_feed, lines_of}
use Rattle.lines.proofs.LineLaws.{lines_around}
use Rattle.schemas.specs.declared.Table.{Table}
use Rattle.schemas.specs.declared.Table.TheVariants.{Ocp}
use Rattle.verdicts.specs.Entries.{Entry, entry, carried, entries_of, entries_from, all_rows, carried_at}
use Rattle.verdicts.specs.Places.{text_at, no_line, IsRow, line_at, entry_at, rows_before, place, Edit, line_number, edited}
use Rattle.verdicts.proofs.Isolation.{Like, none, like, here, like_self, like_append}

module _ {Out In : Entry → Type 0} (ls ms : List Line) (l l' : Line) where
  -- one line of a table
  like_lines : (table : Table) (t row i : ℕ) (ks : List Line) → row + length ks ≡ i → Out (entry table t i l) → In (entry table t i l')
      → Like Out In (entries_of table t row (ks ++ l ∷ ms)) (entries_of table t row (ks ++ l' ∷ ms))
  unfolding entries_of
  like_lines table t row i [] e p q = let s : row ≡ i = omega arith in rw s (here p q (like_self _))
  like_lines table t row i (k ∷ ks) e p q = like (like_lines table t (suc row) i ks (omega arith) p q)

  -- one line of one of the tables
  like_from : (n m t : ℕ) (tables : List Table) (y : Table) (texts : List (List ℕ)) (text : List ℕ) → n + t ≡ m
      → lines_of (text_at texts t) ≡ ls ++ l ∷ ms → lines_of text ≡ ls ++ l' ∷ ms
      → Out (entry (get_or tables t y) m (suc (length ls)) l) → In (entry (get_or tables t y) m (suc (length ls)) l')
      → Like Out In (entries_from n tables texts) (entries_from n tables (set texts t text))
  unfolding entries_from
  like_from n m t [] y texts text e was is p q = none
  like_from n m t (table ∷ tables) y [] text e was is p q = none
  like_from n m zero (table ∷ tables) y (old ∷ texts) text e was is p q =
      let s : n ≡ m = omega arith in
      rw (s, was, is) (like_append (like_lines table m 1 (suc (length ls)) ls (omega arith) p q) (like_self _))
  like_from n m (suc t) (table ∷ tables) y (old ∷ texts) text e was is p q =
      like_append (like_self (entries_of table n 1 (lines_of old))) (like_from (suc n) m t tables y texts text (omega arith) was is p q)

-- as many lines in one table: as many rows before each table
before_same : (texts : List (List ℕ)) (t u : ℕ) (text : List ℕ) → length (lines_of (text_at texts t)) ≡ length (lines_of text)
    → rows_before (set texts t text) u ≡ rows_before texts u
unfolding rows_before
before_same texts t zero text e = refl
before_same [] t (suc u) text e = refl
before_same (old ∷ texts) zero (suc u) text e = rw e
before_same (old ∷ texts) (suc t) (suc u) text e = rw (before_same texts t u text e)

-- a table with bytes is one of the tables
there : (texts : List (List ℕ)) (t : ℕ) → 0 < length (text_at texts t) → t < length texts
there [] t h = absurd (omega arith)
there (text ∷ texts) zero h = omega arith
there (text ∷ texts) (suc t) h = omega (arith, there texts t h)

module _ (texts : List (List ℕ)) (edit : Edit texts) where
  -- a line that a line feed ends
  abbrev line_of : List ℕ → Line
  line_of bytes = record { bytes = bytes; ended = true }

  -- the lines of the line's table, before
  lines_old : lines_of (text_at texts edit.table) ≡ lines_of edit.before ++ line_of edit.old ∷ lines_of edit.after
  lines_old = rw edit.stood (lines_around edit.before edit.old edit.after edit.starts edit.one_line)

  -- the line's table, after
  abbrev put : List ℕ
  put = edit.before ++ (edit.new ++ line_feed ∷ edit.after)

  -- its lines
  lines_put : lines_of put ≡ lines_of edit.before ++ line_of edit.new ∷ lines_of edit.after
  lines_put = lines_around edit.before edit.new edit.after edit.starts edit.new_line

  -- it stands where it is put
  text_new : text_at (edited texts edit) edit.table ≡ put
  text_new = get_or-set_same texts edit.table put [] (there texts edit.table (rw edit.stood (simp length-append (omega arith))))

  -- the lines of the line's table, after
  lines_new : lines_of (text_at (edited texts edit) edit.table) ≡ lines_of edit.before ++ line_of edit.new ∷ lines_of edit.after
  lines_new = ap lines_of text_new ∙ lines_put

  -- the other tables are as they were
  text_other : (u : ℕ) → (u ≡ edit.table → ⊥) → text_at (edited texts edit) u ≡ text_at texts u
  text_other u n = get_or-set_other texts edit.table u put [] n

  -- the line itself, before and after
  abbrev line_entry : List ℕ → Entry
  line_entry bytes = entry (carried_at edit.table) edit.table (line_number edit) (line_of bytes)

  line_old : entry_at texts edit.table (line_number edit) ≡ line_entry edit.old
  unfolding entry_at
  line_old = let q : line_number edit - 1 ≡ length (lines_of edit.before) = omega arith in rw (q, lines_old, get_or-append_seam)

  line_new : entry_at (edited texts edit) edit.table (line_number edit) ≡ line_entry edit.new
  unfolding entry_at
  line_new = let q : line_number edit - 1 ≡ length (lines_of edit.before) = omega arith in rw (q, lines_new, get_or-append_seam)

  -- all rows are the same in the same order, but for the line
  pub rows_alike : Like (λ x. x ≡ entry_at texts edit.table (line_number edit)) (λ x. x ≡ entry_at (edited texts edit) edit.table (line_number edit))
      (all_rows texts) (all_rows (edited texts edit))
  unfolding all_rows
  rows_alike =
      like_from (lines_of edit.before) (lines_of edit.after) (line_of edit.old) (line_of edit.new) 0 edit.table
      edit.table carried Ocp texts put (omega arith)
      lines_old lines_put (sym line_old) (sym line_new)

  -- as many rows in each table
  length_kept : (u : ℕ) → Dec (u ≡ edit.table) → length (lines_of (text_at (edited texts edit) u)) ≡ length (lines_of (text_at texts u))
  length_kept u (yes e) = rw (e, lines_old, lines_new) (simp length-append)
  length_kept u (no n) = rw (text_other u n)

  -- a row is there before just if it is there after
  pub row_kept : (u r : ℕ) → IsRow texts u r → IsRow (edited texts edit) u r
  row_kept u r is = record { table = is.table; above = is.above; below = rw (length_kept u (ℕ_discrete u edit.table)) is.below }

  -- at the same place
  pub place_kept : (u r : ℕ) → place texts u r ≡ place (edited texts edit) u r
  unfolding place
  place_kept u r = rw (before_same texts edit.table u put (rw (lines_old, lines_put) (simp length-append)))

  -- the line of a row that isn't the one replaced, by whether it is of that table
  other_line : (u r : ℕ) → 0 < r → (u ≡ edit.table → r ≡ line_number edit → ⊥) → Dec (u ≡ edit.table)
      → line_at texts u r ≡ line_at (edited texts edit) u r
  other_line u r h n (yes e) = rw (e, lines_old, lines_new) (at_other (lines_of edit.before) _ _ _ no_line (r - 1) (λ q. n e (omega arith)))
  other_line u r h n (no ne) = rw (text_other u ne)

  pub line_kept : (u r : ℕ) → IsRow texts u r → (u ≡ edit.table → r ≡ line_number edit → ⊥) → line_at texts u r ≡ line_at (edited texts edit) u r
  line_kept u r is n = other_line u r is.above n (ℕ_discrete u edit.table)

  -- so the row says the same
  pub other_kept : (u r : ℕ) → IsRow texts u r → (u ≡ edit.table → r ≡ line_number edit → ⊥) → entry_at texts u r ≡ entry_at (edited texts edit) u r
  unfolding entry_at
  other_kept u r is n = ap (entry (carried_at u) u r) (line_kept u r is n)
