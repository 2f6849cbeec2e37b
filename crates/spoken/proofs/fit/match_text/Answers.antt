use mathlib.Core.Path.{refl, sym, ◌∙◌}
use native.Mathlib.Omega.{arith}
use Rattle.spoken.proofs.SpokenLaws.{all_more, all_none}
use Rattle.spoken.proofs.fit.match_text.Goals as goal

pub loop-i-init : goal.loop-i-init
loop-i-init c = (omega arith, refl)

pub loop-i-preserved : goal.loop-i-preserved
loop-i-preserved c = (
  omega arith,
  rw c.match_byte-at.ensures (sym (all_more c.args.line.now c.loop-i.at c.args.text.now c.loop-i.i (omega arith)))
      ∙ c.loop-i.invariant.1,
)

pub returns : goal.returns
returns c = sym (all_none c.args.line.now c.loop-i.at c.args.text.now c.loop-i.i (omega arith)) ∙ c.loop-i.invariant.1
