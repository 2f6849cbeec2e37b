-- `clear`, or a line with bytes.
use mathlib.Core.Path.{◌∙◌}
use Rattle.settings.proofs.SettingLaws.{line_clear, line_read, clear_any}
use Rattle.settings.proofs.set_line.Goals as goal

pub returns-then-k-eq-CLEAR : goal.returns-then-k-eq-CLEAR
returns-then-k-eq-CLEAR c = line_clear _ _ _ _ c.if-k-eq-CLEAR.true (clear_any _ _ _ _ _ c.clear_named.ensures)

pub returns : goal.returns
returns c = c.set_in.ensures
    ∙ line_read _ _ _ _ c.if-k-eq-CLEAR.false
