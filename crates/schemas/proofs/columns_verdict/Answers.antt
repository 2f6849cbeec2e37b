use mathlib.Core.Path.{ap, ◌∙◌}
use Rattle.column_checks.specs.ColumnReasons.{column_reason}
use Rattle.schemas.proofs.ShapeLaws.{checking_start, checking_end, checking_stop, checking_more}
use Rattle.schemas.proofs.columns_verdict.Goals as goal

pub loop-k-init : goal.loop-k-init
loop-k-init c = checking_start _ _

pub returns-then-reason-ne0 : goal.returns-then-reason-ne0
returns-then-reason-ne0 c = let is = c.column_reason-reason.ensures ∙ ap (column_reason _) c.column.ensures in
    c.verdict_of.ensures ∙ checking_stop _ _ _ c.requires _ _ c.loop-k.invariant
    c.loop-k-test.true _ is c.if-reason-ne0.true

pub loop-k-preserved : goal.loop-k-preserved
loop-k-preserved c = let is = c.column_reason-reason.ensures ∙ ap (column_reason _) c.column.ensures in
    checking_more _ _ _ c.requires _ _ c.loop-k.invariant
    c.loop-k-test.true _ is c.if-reason-ne0.false

pub returns : goal.returns
returns c = checking_end _ _ _ c.requires _ _ c.loop-k.invariant c.loop-k-test.false
