-- At each return the tests that led there say which reason holds.
use mathlib.Core.Path.{sym, ◌∙◌}
use Rattle.schemas.proofs.ShapeLaws.{schema_length, shape_open, shape_long, shape_foreign, shape_count, shape_columns}
use Rattle.schemas.proofs.check_row.Goals as goal

pub returns-then-line-gt-LONGEST_ROW : goal.returns-then-line-gt-LONGEST_ROW
returns-then-line-gt-LONGEST_ROW c = c.verdict_of.ensures ∙ shape_long _ _ _ _ c.if-walk.true c.if-line-gt-LONGEST_ROW.true

pub returns-then-walk-2 : goal.returns-then-walk-2
returns-then-walk-2 c = c.verdict_of-then-walk-2.ensures ∙ shape_foreign _ _ _ _ c.if-walk.true c.if-line-gt-LONGEST_ROW.false c.if-walk-2.true

pub returns-then-walk-widths : goal.returns-then-walk-widths
returns-then-walk-widths c = c.columns_verdict.ensures
    ∙ shape_columns _ _ _ _ c.if-walk.true c.if-line-gt-LONGEST_ROW.false
    c.if-walk-2.false
    (c.if-walk-widths.true ∙ sym (schema_length _ _ _ c.requires.marked c.requires.kinded))

pub returns-then-walk : goal.returns-then-walk
returns-then-walk c = c.verdict_of-then-walk.ensures
    ∙ shape_count _ _ _ _ c.if-walk.true c.if-line-gt-LONGEST_ROW.false
    c.if-walk-2.false
    (λ e. c.if-walk-widths.false (e ∙ schema_length _ _ _ c.requires.marked c.requires.kinded))

pub returns : goal.returns
returns c = c.verdict_of-2.ensures ∙ shape_open _ _ _ _ c.if-walk.false
