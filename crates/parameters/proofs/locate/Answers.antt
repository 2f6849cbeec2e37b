-- Each row is found by its key, or is missing.
use Rattle.database.proofs.FindLaws.{holder_none, holder_some}
use Rattle.parameters.specs.Located.{at_places}
use Rattle.parameters.proofs.LocatedLaws.{no_plf, no_pcf, both}
use Rattle.parameters.proofs.locate.Goals as goal

pub returns-then-plf-eq0 : goal.returns-then-plf-eq0
unfolding at_places
returns-then-plf-eq0 c texts = no_plf _ _ _ (holder_none texts _ _ _ _ _ c.location_key.ensures.0 c.location_key.ensures.1 _ c.holder_of-plf.ensures.0 c.if-plf-eq0.true)

pub returns-then-pcf-eq0 : goal.returns-then-pcf-eq0
unfolding at_places
returns-then-pcf-eq0 c texts = no_pcf _ _ _ _ (holder_some texts _ _ _ _ _ c.location_key.ensures.0 c.location_key.ensures.1 _ c.holder_of-plf.ensures.0 c.if-plf-eq0.false)
    (holder_none texts _ _ _ _ _ c.parameter_key.ensures.0 c.parameter_key.ensures.1 _ c.holder_of-pcf.ensures.0 c.if-pcf-eq0.true)

pub returns : goal.returns
unfolding at_places
returns c texts = both _ _ _ _ _ (holder_some texts _ _ _ _ _ c.location_key.ensures.0 c.location_key.ensures.1 _ c.holder_of-plf.ensures.0 c.if-plf-eq0.false)
    (holder_some texts _ _ _ _ _ c.parameter_key.ensures.0 c.parameter_key.ensures.1 _ c.holder_of-pcf.ensures.0 c.if-pcf-eq0.false)
