use mathlib.Core.List.{[], map}
use lib.ListN.{length, get_or}
use mathlib.Core.Path.{◌≡◌, refl, ap, ◌∙◌}
use mathlib.Core.List.{map}
use native.Mathlib.Omega.{arith}
use borrow.Author.Rules.{rules}
use borrow.Author.Tests.{lt-ltb, le-ltb}
use lib.ListN.{length}
use Rattle.verdicts.specs.Answer.{too_long}
use Rattle.verdicts.specs.Entries.{table_count}
use Rattle.tables.proofs.ArrayLaws.{count}
use Rattle.tables.specs.Sizes.{numbered}
use Rattle.tables.proofs.SizeLaws.{found_number, table_none, table_here, table_more}
use Rattle.tables.proofs.too_long.Goals as goal

pub loop-t-init : goal.loop-t-init
unfolding too_long
loop-t-init c = (omega arith, refl)

pub returns-then-table-gt-MOST_BYTES : goal.returns-then-table-gt-MOST_BYTES
returns-then-table-gt-MOST_BYTES c = let n : length c.args.tables ≡ table_count = search rules in
    found_number _ (table_here _ (map (λ x. x.now) c.args.tables) c.loop-t.t (omega (arith, count c.args.tables n))
    (lt-ltb 65536 (length (get_or (map (λ x. x.now) c.args.tables) c.loop-t.t [])) (omega (arith, ap length c.table_at-table.ensures))) ∙ c.loop-t.invariant.1)

pub loop-t-preserved : goal.loop-t-preserved
loop-t-preserved c = let n : length c.args.tables ≡ table_count = search rules in (
  omega arith,
  table_more _ (map (λ x. x.now) c.args.tables) c.loop-t.t (omega (arith, count c.args.tables n))
      (le-ltb 65536 (length (get_or (map (λ x. x.now) c.args.tables) c.loop-t.t [])) (omega (arith, ap length c.table_at-table.ensures))) ∙ c.loop-t.invariant.1,
)

pub returns : goal.returns
returns c = let n : length c.args.tables ≡ table_count = search rules in
    ap numbered (table_none _ (map (λ x. x.now) c.args.tables) c.loop-t.t (omega (arith, count c.args.tables n)) ∙ c.loop-t.invariant.1)
