-- The slice at that place, or nothing past the last.
use mathlib.Core.Path.{◌≡◌, sym}
use mathlib.Core.List.{[], map}
use native.Mathlib.Omega.{arith}
use Prim.Native.Nat.{◌≤◌}
use lib.ListN.{length, get_or-eq_default}
use Rattle.verdicts.specs.Entries.{table_count}
use Rattle.tables.proofs.ArrayLaws.{at, count}
use borrow.Author.Rules.{rules}
use Rattle.tables.proofs.table_at.Goals as goal

pub returns-then-t-lt-TABLES : goal.returns-then-t-lt-TABLES
returns-then-t-lt-TABLES c = at c.args.tables c.args.t

pub returns : goal.returns
returns c = let n : length c.args.tables ≡ table_count = search rules in
    let l : length (map (λ x. x.now) c.args.tables) ≤ c.args.t = omega (arith, count c.args.tables n) in
    sym (get_or-eq_default (map (λ x. x.now) c.args.tables) [] l)
