-- By the line.
use mathlib.Core.Path.{◌∙◌}
use Rattle.settings.proofs.SettingLaws.{area_packet, area_more, area_fill, area_row}
use Rattle.settings.proofs.set_area.Goals as goal

pub returns-in-11 : goal.returns-in-11
returns-in-11 c = rw c.clear.ensures at c.append.ensures ∙ area_packet _ _ _ c.in-11.is

pub returns-in-12 : goal.returns-in-12
returns-in-12 c = c.append-in-12.ensures ∙ area_more _ _ _ c.in-12.is

pub returns-in-13 : goal.returns-in-13
returns-in-13 c = c.add_fill.ensures ∙ area_fill _ _ _ c.in-13.is

pub returns-in_default : goal.returns-in_default
returns-in_default c = c.append-in_default.ensures ∙ area_row _ _ _ c.in_default.in_default-own.rest.0.0.1 c.in_default.in_default-own.rest.0.1 c.in_default.in_default-own.rest.1
