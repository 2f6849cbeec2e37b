use mathlib.Core.Path.{◌≡◌, refl, ◌∙◌}
use native.Mathlib.Omega.{arith}
use lib.ListN.{length, length-set}
use lib.Seq.{take-length}
use Rattle.name_bytes.proofs.NameLaws.{put_more}
use Rattle.answers.proofs.answer.put.Goals as goal

pub loop-i-init : goal.loop-i-init
loop-i-init c = (omega arith, refl, refl)

pub loop-i-preserved : goal.loop-i-preserved
loop-i-preserved c = let l = c.loop-i in
    let a = c.args in
    (omega arith, simp length-set l.invariant.1, rw l.invariant.2 (put_more a.text.now a.to.now l.i (omega arith) (omega arith)))

pub returns : goal.returns
returns c = let l = c.loop-i in
    let s = c.args.text.now in
    let e : l.i ≡ length s = omega arith in
    l.invariant.2 ∙ rw (e, take-length s)
