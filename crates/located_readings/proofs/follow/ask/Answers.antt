-- By the rows of the validity parameter.
use mathlib.Core.Path.{refl, ap, ◌∙◌}
use Rattle.readings.specs.Readings.{agrees}
use Rattle.readings.proofs.ReadingLaws.{read_unlocated, read_located}
use Rattle.located_readings.specs.Asked.{asked_agrees}
use Rattle.located_readings.proofs.follow.ask.Goals as goal

pub returns-in_err-at : goal.returns-in_err-at
unfolding agrees asked_agrees
returns-in_err-at c valid valpar = rw c.from_residual.ensures
    (ap (λ r. agrees r valpar) (read_unlocated _ _ _ valid _ _ _ _ _ (c.locate.ensures _) c.in_err-at.was))

pub returns : goal.returns
returns c valid valpar = c.raw_asked.ensures valid valpar
    ∙ ap (λ r. agrees r valpar) (read_located _ _ _ valid _ _ _ _ _ (c.locate.ensures _) c.in_ok-at.was _ _ _
    c.pcf_at-pcf.ensures (c.raw_of.ensures _ c.location_at-location.ensures) refl)
