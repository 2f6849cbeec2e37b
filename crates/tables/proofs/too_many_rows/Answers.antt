use Prim.Native.Nat.{ℕ}
use mathlib.Core.Path.{◌≡◌, refl, ap, ◌∙◌}
use mathlib.Core.List.{List, [], map}
use native.Mathlib.Omega.{arith}
use borrow.Author.Rules.{rules}
use borrow.Author.Tests.{lt-ltb, le-ltb}
use lib.ListN.{length, get_or}
use Rattle.verdicts.specs.Answer.{too_many_rows, most_rows}
use Rattle.verdicts.specs.Entries.{table_count}
use Rattle.tables.proofs.ArrayLaws.{count}
use Rattle.tables.specs.Sizes.{numbered}
use Rattle.tables.proofs.SizeLaws.{found_number, table_none, table_here, table_more}
use Rattle.lines.specs.Lines.{lines_of}
use Rattle.tables.proofs.too_many_rows.Goals as goal

pub loop-t-init : goal.loop-t-init
unfolding too_many_rows
loop-t-init c = (omega arith, refl)

pub returns-then-n-gt-MOST_ROWS : goal.returns-then-n-gt-MOST_ROWS
returns-then-n-gt-MOST_ROWS c = let n : length c.args.tables ≡ table_count = search rules in
    found_number _ (table_here _ (map (λ x. x.now) c.args.tables) c.loop-t.t (omega (arith, count c.args.tables n))
    (lt-ltb most_rows (length (lines_of (get_or (map (λ x. x.now) c.args.tables) c.loop-t.t [])))
    (omega (arith, ap (λ (s : List ℕ). length (lines_of s)) c.table_at.ensures, c.row_count-n.ensures))) ∙ c.loop-t.invariant.1)

pub loop-t-preserved : goal.loop-t-preserved
loop-t-preserved c = let n : length c.args.tables ≡ table_count = search rules in (
  omega arith,
  table_more _ (map (λ x. x.now) c.args.tables) c.loop-t.t (omega (arith, count c.args.tables n))
      (le-ltb most_rows (length (lines_of (get_or (map (λ x. x.now) c.args.tables) c.loop-t.t [])))
      (omega (arith, ap (λ (s : List ℕ). length (lines_of s)) c.table_at.ensures, c.row_count-n.ensures))) ∙ c.loop-t.invariant.1,
)

pub returns : goal.returns
returns c = let n : length c.args.tables ≡ table_count = search rules in
    ap numbered (table_none _ (map (λ x. x.now) c.args.tables) c.loop-t.t (omega (arith, count c.args.tables n)) ∙ c.loop-t.invariant.1)
