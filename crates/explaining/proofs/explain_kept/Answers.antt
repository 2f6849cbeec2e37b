-- By whether there is such a row.
use Rattle.explaining.proofs.AnswerLaws.{kept_at, kept_none}
use Rattle.explaining.proofs.explain_kept.Goals as goal

pub returns-in-Some : goal.returns-in-Some
returns-in-Some c = kept_at _ _ _ _ _ _ _ c.judge_kept.ensures _
    c.in-Some.is _ _ c.half_at-verdict.ensures
    c.put_causes-causes.ensures.value _ c.put_causes-causes.ensures.places_after

pub returns-in-None : goal.returns-in-None
returns-in-None c = kept_none _ _ _ _ _ _ _ c.judge_kept.ensures c.in-None.is
