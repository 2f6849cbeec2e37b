-- The limit state, or the memory.
use Rattle.settings.proofs.SettingLaws.{text_state, text_memory}
use Rattle.settings.proofs.set_text.Goals as goal

pub returns-then-k-eq-STATE : goal.returns-then-k-eq-STATE
returns-then-k-eq-STATE c = text_state _ _ _ _ c.if-k-eq-STATE.true c.state_in.ensures

pub returns : goal.returns
returns c = text_memory _ _ _ _ c.if-k-eq-STATE.false c.set_area.ensures
