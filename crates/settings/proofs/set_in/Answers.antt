-- By whether the bytes can be read.
use mathlib.Core.Path.{sym, ap, ◌∙◌}
use Rattle.escapes.proofs.EscapeLaws.{read_part}
use Rattle.settings.proofs.SettingLaws.{bytes_some, bytes_none}
use Rattle.escapes.specs.Escapes.{read_in}
use Rattle.settings.specs.Settings.{set_text}
use Rattle.settings.proofs.set_in.Goals as goal

pub returns-in-Some : goal.returns-in-Some
unfolding read_in
returns-in-Some c = c.set_text.ensures ∙ ap (set_text _ _ _) c.part.ensures
    ∙ bytes_some _ _ _ _ _ (read_part c.in-Some.n c.setting_bytes.new.out (rw c.in-Some.is at c.setting_bytes.ensures))

pub returns-in-None : goal.returns-in-None
unfolding read_in
returns-in-None c = bytes_none _ _ _ _ (sym (rw c.in-None.is at c.setting_bytes.ensures))
