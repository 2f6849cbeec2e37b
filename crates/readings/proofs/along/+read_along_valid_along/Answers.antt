use mathlib.Core.Path.{ap, ◌∙◌}
use lib.IntN.{pos}
use lib.ListN.{get_or}
use mir.Facts.{to_z-of_z}
use mir.Syntax.{w64}
use mir.Val.{SFits}
use Rattle.outcomes.specs.Values.{value_of}
use Rattle.readings.specs.Readings.{agrees, with_validity, said_reading}
use Rattle.readings.proofs.ChainLaws.{along_stop, along_step}
use borrow.Author.Rules.{rules}
use Rattle.readings.proofs.along.+read_along_valid_along.Goals as goal

pub read_along-returns : goal.read_along-returns
unfolding said_reading with_validity value_of
read_along-returns t c =
    let f : SFits w64 (get_or c.args.values.now c.args.at (pos 0)) = search rules in
    rw (to_z-of_z f, c.valid_along-valid.ensures)

pub valid_along-returns-then-left-eq0 : goal.valid_along-returns-then-left-eq0
valid_along-returns-then-left-eq0 t c = along_stop _ _ _ _ _ c.if-left-eq0.true

pub valid_along-returns : goal.valid_along-returns
valid_along-returns t c =
    let f : SFits w64 (get_or c.args.valpars.now c.args.at (pos 0)) = search rules in
    c.agrees.ensures ∙ ap (agrees _) (to_z-of_z f) ∙ along_step _ _ _ _ _ c.if-left-eq0.false _ c.read_along.ensures
