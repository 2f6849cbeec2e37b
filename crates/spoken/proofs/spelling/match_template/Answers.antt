use mathlib.Core.Path.{refl, sym, ◌∙◌}
use native.Mathlib.Omega.{arith}
use Rattle.spoken.proofs.SpokenLaws.{number_more, word_more, template_end}
use Rattle.spoken.proofs.spelling.match_template.Goals as goal

pub loop-i-init : goal.loop-i-init
loop-i-init c = (omega arith, omega arith, refl)

pub loop-i-preserved-then-template-i-eq35 : goal.loop-i-preserved-then-template-i-eq35
loop-i-preserved-then-template-i-eq35 c = (
  omega arith,
  omega arith,
  rw (c.match_decimal-at.ensures, c.value_at.ensures)
      (sym (number_more c.args.line.now c.loop-i.at c.args.template.now c.args.values c.loop-i.k c.loop-i.i (omega arith)
      c.if-template-i-eq35.true)) ∙ c.loop-i.invariant.2,
)

pub loop-i-preserved : goal.loop-i-preserved
loop-i-preserved c = (
  omega arith,
  omega arith,
  rw c.match_byte-at.ensures
      (sym (word_more c.args.line.now c.loop-i.at c.args.template.now c.args.values c.loop-i.k c.loop-i.i (omega arith)
      c.if-template-i-eq35.false)) ∙ c.loop-i.invariant.2,
)

pub returns : goal.returns
returns c = sym (template_end c.args.line.now c.loop-i.at c.args.template.now c.args.values c.loop-i.k c.loop-i.i (omega arith)) ∙ c.loop-i.invariant.2
