-- By what loading answers.
use mathlib.Core.Path.{ap, ◌∙◌}
use Rattle.std.specs.Prelude.{Err}
use borrow.Author.Rules.{rules}
use Rattle.full_loading.proofs.FullLoadLaws.{full_done, full_refused, never_short}
use Rattle.full_loading.proofs.load_full.Goals as goal

pub returns-in-Ok : goal.returns-in-Ok
returns-in-Ok c = full_done _ _ _ c.load.ensures c.in-Ok.is

pub returns-in-Err-Sizes : goal.returns-in-Err-Sizes
returns-in-Err-Sizes c = full_refused _ _ _ c.load.ensures c.in-Err-Sizes.error _ c.from.ensures (c.in-Err-Sizes.is ∙ ap Err c.in-Err-Sizes.field-0-is)

pub returns-in-Err-NoRoom : goal.returns-in-Err-NoRoom
returns-in-Err-NoRoom c = absurd (never_short _ _ _ c.load.ensures (search rules) (search rules) (search rules) (c.in-Err-NoRoom.is ∙ ap Err c.in-Err-NoRoom.field-0-is))
