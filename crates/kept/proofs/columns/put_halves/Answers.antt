use mathlib.Core.Path.{◌≡◌, refl}
use native.Mathlib.Omega.{arith}
use lib.ListN.{length}
use borrow.Author.Rules.{rules}
use Rattle.kept.specs.Puts.{put_columns}
use Rattle.kept.proofs.PutLaws.{put_more, put_end}
use Rattle.kept.proofs.columns.put_halves.Goals as goal

pub loop-c-init : goal.loop-c-init
loop-c-init c = (omega arith, refl)

pub loop-c-preserved : goal.loop-c-preserved
loop-c-preserved c =
    let values : length c.args.values ≡ 8 = search rules in
    (omega arith, put_more c.args.values _ _ _ _ _ (omega (arith, values)) c.put_half.ensures c.loop-c.invariant.1)

pub returns : goal.returns
returns c =
    let values : length c.args.values ≡ 8 = search rules in
    let stored : c.loop-c.halves ≡ put_columns 0 c.args.halves.now c.args.i c.args.values = put_end _ _ _ _ _ (omega (arith, values)) c.loop-c.invariant.1 in
    stored
