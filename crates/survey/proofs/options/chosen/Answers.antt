-- By the name that it is.
use Rattle.survey.proofs.ChoiceLaws.{compared, chosen_identify, chosen_extract, chosen_engineer, chosen_none}
use Rattle.survey.proofs.options.chosen.Goals as goal

pub returns-then-same_name : goal.returns-then-same_name
returns-then-same_name c = chosen_identify _ (compared c.same_name.ensures c.name_of-name.ensures c.name_of.ensures c.if-same_name.true)

pub returns-then-same_name-2 : goal.returns-then-same_name-2
returns-then-same_name-2 c = chosen_extract _ (compared c.same_name.ensures c.name_of-name.ensures c.name_of.ensures c.if-same_name.false)
    (compared c.same_name-2.ensures c.name_of-name.ensures c.name_of-2.ensures c.if-same_name-2.true)

pub returns-then-same_name-3 : goal.returns-then-same_name-3
returns-then-same_name-3 c = chosen_engineer _ (compared c.same_name.ensures c.name_of-name.ensures c.name_of.ensures c.if-same_name.false)
    (compared c.same_name-2.ensures c.name_of-name.ensures c.name_of-2.ensures c.if-same_name-2.false)
    (compared c.same_name-3.ensures c.name_of-name.ensures c.name_of-3.ensures c.if-same_name-3.true)

pub returns : goal.returns
returns c = chosen_none _ (compared c.same_name.ensures c.name_of-name.ensures c.name_of.ensures c.if-same_name.false)
    (compared c.same_name-2.ensures c.name_of-name.ensures c.name_of-2.ensures c.if-same_name-2.false)
    (compared c.same_name-3.ensures c.name_of-name.ensures c.name_of-3.ensures c.if-same_name-3.false)
