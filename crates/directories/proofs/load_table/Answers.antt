-- By the system's answer.
use Rattle.std.specs.Prelude.{Ok}
use Rattle.std.proofs.Common.{ap, ◌∙◌}
use Rattle.directories.proofs.SpaceLaws.{loaded_bytes, loaded_missing, loaded_failed}
use Rattle.directories.proofs.load_table.Goals as goal

pub returns-in-Ok-Some : goal.returns-in-Ok-Some
returns-in-Ok-Some g c = loaded_bytes _ c.read_table.ensures _ (c.in-Ok-Some.is ∙ ap Ok c.in-Ok-Some.field-0-is) c.end_of.ensures c.keep_at.ensures

pub returns-in-Ok-None : goal.returns-in-Ok-None
returns-in-Ok-None g c = loaded_missing _ c.read_table.ensures _ (c.in-Ok-None.is ∙ ap Ok c.in-Ok-None.field-0-is)

pub returns-in-Err : goal.returns-in-Err
returns-in-Err g c = loaded_failed _ c.read_table.ensures _ c.in-Err.is
