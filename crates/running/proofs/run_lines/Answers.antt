use Rattle.std.proofs.Common.{drop, sym, refl, ap, ◌∙◌, arith}
use Rattle.running.proofs.ScriptLaws.{first_standing_lem, lines_more, lines_end}
use Rattle.lines.specs.Lines.{lines_of}
use Rattle.lines.proofs.LineLaws.{next_bounds}
use Rattle.running.specs.Script.{Standing, after_lines, closing}
use Rattle.running.proofs.run_lines.Goals as goal

pub loop-from-init : goal.loop-from-init
loop-from-init g c = (omega arith, omega arith, refl, refl, ap (λ (s : Standing). after_lines s (lines_of c.args.text.now)) (first_standing_lem _ _ _ _ c.stands-s.ensures))

pub loop-from-smaller : goal.loop-from-smaller
loop-from-smaller g c = let b = next_bounds c.args.text.now c.loop-from.from c.next_line-line.result c.next_line-line.ensures c.loop-from-test.true in
    omega (arith, b.further, b.within)

pub loop-from-preserved : goal.loop-from-preserved
loop-from-preserved g c = let b = next_bounds c.args.text.now c.loop-from.from c.next_line-line.result c.next_line-line.ensures c.loop-from-test.true in (
  b.within,
  omega (arith, b.further),
  omega arith,
  omega arith,
  ap (λ (s : Standing). after_lines s (lines_of (drop c.next_line-line.result.next c.args.text.now))) c.take_next-s.ensures
      ∙ sym (lines_more _ c.args.text.now c.loop-from.from c.next_line-line.result c.next_line-line.ensures c.loop-from-test.true) ∙ c.loop-from.invariant.4,
)

pub returns : goal.returns
returns g c = c.close.ensures c.loop-from.space c.loop-from.ends ∙ ap closing (sym (lines_end _ c.args.text.now c.loop-from.from (omega arith)) ∙ c.loop-from.invariant.4)
