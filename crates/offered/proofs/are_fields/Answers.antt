-- Test by test.
use mathlib.Core.Path.{sym, ◌∙◌}
use Rattle.offered.proofs.OfferedLaws.{fields_0, fields_1, fields_2, fields_3, fields_4}
use Rattle.offered.proofs.are_fields.Goals as goal

pub returns-then-not-holds : goal.returns-then-not-holds
returns-then-not-holds c = fields_0 _ (sym c.holds.ensures ∙ c.if-not-holds.true)

pub returns-then-not-holds-2 : goal.returns-then-not-holds-2
returns-then-not-holds-2 c = fields_1 _
    (sym c.holds.ensures ∙ c.if-not-holds.false)
    (sym c.holds-2.ensures ∙ c.if-not-holds-2.true)

pub returns-then-not-holds-3 : goal.returns-then-not-holds-3
returns-then-not-holds-3 c = fields_2 _
    (sym c.holds.ensures ∙ c.if-not-holds.false)
    (sym c.holds-2.ensures ∙ c.if-not-holds-2.false)
    (sym c.holds-3.ensures ∙ c.if-not-holds-3.true)

pub returns-then-not-holds-4 : goal.returns-then-not-holds-4
returns-then-not-holds-4 c = fields_3 _
    (sym c.holds.ensures ∙ c.if-not-holds.false)
    (sym c.holds-2.ensures ∙ c.if-not-holds-2.false)
    (sym c.holds-3.ensures ∙ c.if-not-holds-3.false)
    (sym c.holds-4.ensures ∙ c.if-not-holds-4.true)

pub returns : goal.returns
returns c = c.holds-5.ensures ∙ fields_4 _
    (sym c.holds.ensures ∙ c.if-not-holds.false)
    (sym c.holds-2.ensures ∙ c.if-not-holds-2.false)
    (sym c.holds-3.ensures ∙ c.if-not-holds-3.false)
    (sym c.holds-4.ensures ∙ c.if-not-holds-4.false)
