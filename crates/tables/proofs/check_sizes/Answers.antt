-- The least number decides, each at its first table.
use mathlib.Core.Path.{sym, ◌∙◌}
use Rattle.tables.proofs.SizeLaws.{sizes_long, sizes_many, sizes_fit}
use Rattle.tables.proofs.check_sizes.Goals as goal

pub returns-in-Some : goal.returns-in-Some
returns-in-Some c = sizes_long _ (sym c.too_long.ensures ∙ c.in-Some.is)

pub returns-in-Some-too_many_rows : goal.returns-in-Some-too_many_rows
returns-in-Some-too_many_rows c = sizes_many _ (sym c.too_long.ensures ∙ c.in_default.is) (sym c.too_many_rows.ensures ∙ c.in-Some-too_many_rows.is)

pub returns : goal.returns
returns c = sizes_fit _ (sym c.too_long.ensures ∙ c.in_default.is) (sym c.too_many_rows.ensures ∙ c.in_default-too_many_rows.is)
