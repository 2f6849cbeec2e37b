-- By the name.
use mathlib.Core.Bool.{true}
use Rattle.areas.specs.Memory.{cleared}
use Rattle.areas.proofs.MemoryLaws.{kept_parts}
use mathlib.Core.Path.{refl, ap, ◌∙◌}
use native.Mathlib.Omega.{arith}
use Rattle.settings.proofs.SettingLaws.{clear_every, clear_one, clear_none}
use Rattle.areas.specs.Memory.{unread}
use Rattle.settings.proofs.clear_named.Goals as goal

pub returns-then-name-eq0 : goal.returns-then-name-eq0
returns-then-name-eq0 c = kept_parts true refl c.clear_all.ensures ∙ clear_every _ _ c.if-name-eq0.true

pub returns-then-t-lt-AREAS : goal.returns-then-t-lt-AREAS
returns-then-t-lt-AREAS c = kept_parts true refl (c.clear.ensures ∙ ap (cleared _) c.setting_of-t.ensures) ∙ clear_one _ _ c.if-name-eq0.false (omega (arith, c.setting_of-t.ensures))

pub returns : goal.returns
unfolding unread
returns c = clear_none _ _ c.if-name-eq0.false (omega (arith, c.setting_of-t.ensures))
