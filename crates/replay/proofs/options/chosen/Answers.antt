-- By the name that it is.
use mathlib.Core.Path.{sym, ap₂, ◌∙◌}
use Rattle.name_bytes.specs.Names.{same_name}
use Rattle.replay.proofs.ChoiceLaws.{chosen_runs, chosen_last, chosen_none}
use Rattle.replay.proofs.options.chosen.Goals as goal

pub returns-then-same_name : goal.returns-then-same_name
returns-then-same_name c = let runs = c.same_name.ensures ∙ ap₂ same_name c.name_of-name.ensures c.name_of.ensures in
    chosen_runs _ (sym runs ∙ c.if-same_name.true)

pub returns-then-same_name-2 : goal.returns-then-same_name-2
returns-then-same_name-2 c = let runs = c.same_name.ensures ∙ ap₂ same_name c.name_of-name.ensures c.name_of.ensures in
    let last = c.same_name-2.ensures ∙ ap₂ same_name c.name_of-name.ensures c.name_of-2.ensures in
    chosen_last _ (sym runs ∙ c.if-same_name.false) (sym last ∙ c.if-same_name-2.true)

pub returns : goal.returns
returns c = let runs = c.same_name.ensures ∙ ap₂ same_name c.name_of-name.ensures c.name_of.ensures in
    let last = c.same_name-2.ensures ∙ ap₂ same_name c.name_of-name.ensures c.name_of-2.ensures in
    chosen_none _ (sym runs ∙ c.if-same_name.false) (sym last ∙ c.if-same_name-2.false)
