-- Two digits, or none.
use mathlib.Core.Path.{◌∙◌}
use native.Mathlib.Omega.{arith}
use Rattle.settings.proofs.SettingLaws.{byte_two, byte_other}
use Rattle.settings.proofs.byte_in.Goals as goal

pub returns-then-text-eq2 : goal.returns-then-text-eq2
returns-then-text-eq2 c = (c.byte_of.ensures.0 ∙ byte_two _ c.if-text-eq2.true, c.byte_of.ensures.1)

pub returns : goal.returns
returns c = (byte_other _ c.if-text-eq2.false, omega arith)
