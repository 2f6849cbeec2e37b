-- A row that holds a key is a good row, of a table that has such keys.
use mathlib.Core.Path.{◌≡◌, sym, subst, ◌∙◌}
use mathlib.Core.List.{List, [], ◌∷◌}
use mathlib.Core.Option.{some}
use Prim.Native.Nat.{ℕ, ◌-◌}
use native.Mathlib.Omega.{arith}
use lib.ListN.{get_or}
use borrow.Author.Tests.{eqb-true}
use Rattle.laws.proofs.Cases.{and_left}
use Rattle.laws.proofs.Tests.{keep_mem}
use Rattle.lines.specs.Lines.{Line, lines_of}
use Rattle.schemas.specs.declared.Table.{Table}
use Rattle.formed.specs.Formed.{formed}
use Rattle.verdicts.specs.Key.{Key}
use Rattle.verdicts.specs.Entries.{own, all_rows, carried_at, carried}
use Rattle.verdicts.specs.Verdicts.{sound}
use Rattle.verdicts.specs.Places.{text_at, no_line, entry_at, verdict_at}
use Rattle.verdicts.proofs.EntryLaws.{own_reading}
use Rattle.verdicts.proofs.GoodLaw.{good_law}
use Rattle.verdicts.proofs.OwnerLaws.{owners_of}
use Rattle.database.specs.Rows.{Row}
use Rattle.database.specs.GoodRows.{rows_in, is_good, good_rows, table_of, holds_key, among, of_tables}
use Rattle.database.proofs.RowLaws.{found_passes, in_tables}
use Rattle.database.proofs.OwnerLaws.{only_owner}

-- A good row

-- 01: "Good is 0": it is without reasons 1 to 8
formed_line : (texts : List (List ℕ)) (u r : ℕ) → verdict_at texts u r ≡ 0 → formed (carried_at u) (get_or (lines_of (text_at texts u)) (r - 1) no_line) ≡ 0
unfolding verdict_at entry_at sound
formed_line texts u r v =
    sym (own_reading (carried_at u) (get_or (lines_of (text_at texts u)) (r - 1) no_line))
    ∙ eqb-true (own (entry_at texts u r).reading) 0 (and_left _ _ ((good_law (all_rows texts) (entry_at texts u r)).0 v).is_sound)

-- a row has a line that passes its table's columns
pub record HasLine (table : Table) (row : Row) : Type 0 where
  pub line : Line
  pub passes : formed table line ≡ 0
  pub bytes : row.bytes ≡ line.bytes

pub holder_line : (tables : List (List ℕ)) (k : Key) (row : Row) → (of_tables tables).holder k ≡ some row → HasLine (table_of row) row
unfolding of_tables among good_rows rows_in is_good
holder_line tables k row e =
    let f = found_passes (holds_key k) (good_rows tables) row e in
    let g = keep_mem (is_good tables) (rows_in tables) f.0 in
    let w = in_tables 0 carried tables row g.0 in
    let z : row.table - 0 ≡ row.table = omega arith in
    record {
      line = get_or (lines_of (text_at tables row.table)) (row.number - 1) no_line;
      passes = formed_line tables row.table row.number (eqb-true _ 0 g.1);
      bytes = rw z at w.4;
    }

pub owner_line : (tables : List (List ℕ)) (k : Key) (table : Table) (row : Row) → owners_of k ≡ table ∷ [] → (of_tables tables).holder k ≡ some row
    → HasLine table row
unfolding of_tables among
owner_line tables k table row o e =
    let f = found_passes (holds_key k) (good_rows tables) row e in
    subst (λ (t : Table). HasLine t row) (only_owner k table row o f.1) (holder_line tables k row e)
