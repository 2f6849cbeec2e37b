-- As it was read under U, and what was gathered under C.
use mathlib.Core.Path.{ap, ◌∙◌}
use mathlib.Core.List.{map}
use native.Mathlib.Omega.{arith}
use lib.ListN.{length}
use lib.Seq.{length-sets}
use Rattle.verdicts.specs.Key.{curve}
use Rattle.database.proofs.GatherLaws.{members_few}
use Rattle.curve_values.proofs.ScaleLaws.{gathered_scale}
use Rattle.checking.proofs.ParameterLaws.{under_raw, under_engineering}
use Rattle.checking.proofs.parameter.scale_under.Goals as goal

pub returns-in-Raw : goal.returns-in-Raw
returns-in-Raw c = record { ys_after = under_raw _ _ _ _ _ c.in-Raw.is; xs_len = c.requires }

pub returns-in-Engineering : goal.returns-in-Engineering
returns-in-Engineering c = let few = members_few (map (λ x. x.now) c.args.tables) c.args.words.now c.args.links.now c.args.columns.now (curve c.args.curtx.name) in record {
  ys_after = under_engineering _ _ _ c.in-Engineering.is
      (rw (c.gather_scale.ensures.value, c.gather_scale.ensures.xs_after, c.gather_scale.ensures.ys_after) (gathered_scale _ _ c.args.xs.now c.args.ys.now (omega (arith, few, c.requires.0)) (omega (arith, few, c.requires.1))));
  xs_len = (ap length c.gather_scale.ensures.xs_after ∙ simp length-sets c.requires.0, ap length c.gather_scale.ensures.ys_after ∙ simp length-sets c.requires.1);
}
