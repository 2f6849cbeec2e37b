use native.Mathlib.Omega.{arith}
use mathlib.Core.Path.{sym, ◌∙◌}
use Rattle.notation.proofs.Room.{short_up}
use Rattle.notation.proofs.Walks.{walk_start, walk_more, walk_good, walk_bad, too_wide}
use Rattle.notation.proofs.parse.Goals as goal

pub returns-then-text-gt-WIDTH : goal.returns-then-text-gt-WIDTH
returns-then-text-gt-WIDTH c = too_wide _ c.if-text-gt-WIDTH.true

pub loop-i-init : goal.loop-i-init
loop-i-init c = (walk_start _, omega arith)

pub with_character-n-requires : goal.with_character-n-requires
with_character-n-requires c = short_up {i = c.loop-i.i} {j = 14} (omega arith) c.loop-i.invariant.0.short

pub loop-i-preserved : goal.loop-i-preserved
loop-i-preserved c = (
  walk_more _ c.loop-i.invariant.0 _ _ c.loop-i-test.true c.next_stage-s.ensures c.with_character-n.ensures,
  c.loop-i.invariant.1,
)

pub returns-then-is_coefficient : goal.returns-then-is_coefficient
returns-then-is_coefficient c = walk_good _ c.loop-i.invariant.0 c.loop-i.invariant.1 (omega arith) (sym c.is_coefficient.ensures ∙ c.if-is_coefficient.true)

pub returns : goal.returns
returns c = walk_bad _ c.loop-i.invariant.0 c.loop-i.invariant.1 (omega arith) (sym c.is_coefficient.ensures ∙ c.if-is_coefficient.false)
