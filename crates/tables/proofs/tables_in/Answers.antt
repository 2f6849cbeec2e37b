use Prim.Native.Nat.{◌+◌}
use mathlib.Core.Path.{◌≡◌, refl, ◌∙◌}
use native.Mathlib.Omega.{arith}
use native.Mathlib.Numerals.{add-one}
use lib.ListN.{length-set}
use Rattle.verdicts.specs.Entries.{table_count}
use Rattle.tables.specs.Parts.{tables_in}
use Rattle.tables.proofs.PartLaws.{filled_none, filled_more, filled_all}
use Rattle.tables.proofs.tables_in.Goals as goal

pub loop-t-init : goal.loop-t-init
loop-t-init c = (omega arith, refl, filled_none _ _)

pub loop-t-preserved : goal.loop-t-preserved
loop-t-preserved c = let z : 0 + c.loop-t.t ≡ c.loop-t.t = omega arith in (
  omega arith,
  length-set c.loop-t.tables c.loop-t.t c.table_in.result ∙ c.loop-t.invariant.1,
  rw add-one
      (filled_more _ 0 c.loop-t.t c.loop-t.tables _ (omega arith) c.loop-t.invariant.2 (rw z c.table_in.ensures)),
)

pub returns : goal.returns
unfolding tables_in
returns c = let z : c.loop-t.t ≡ table_count = omega arith in
    filled_all _ 0 table_count c.loop-t.tables c.loop-t.invariant.1 (rw z at c.loop-t.invariant.2)
