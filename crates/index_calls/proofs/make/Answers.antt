-- By what loading the tables answers.
use mathlib.Core.Path.{ap, ◌∙◌}
use Rattle.calls.proofs.LoadLaws.{asked, refused}
use Rattle.outcomes.proofs.OutcomeLaws.{passed_on}
use Rattle.outcomes.specs.Refusals.{said}
use Rattle.index_calls.specs.IndexCalls.{made_of}
use Rattle.index_calls.proofs.MakingLaws.{made_count, made_list, refused_count, refused_list}
use Rattle.index_calls.proofs.make.Goals as goal

pub returns : goal.returns
unfolding made_of
returns c = let loaded = asked _ _ _ c.load_full.ensures c.in_ok-load_full.was _ _ in
    record { result_value = made_count _ _ c.make_full.ensures.result_value loaded; rows_after = made_list _ _ _ c.make_full.ensures.rows_after loaded }

pub returns-in_err-load_full : goal.returns-in_err-load_full
unfolding made_of said
returns-in_err-load_full c = let no = refused _ _ _ c.load_full.ensures _ c.in_err-load_full.was _ _ in
    record {
      result_value = ap said (passed_on _ c.from_residual.ensures) ∙ refused_count _ _ _ no;
      rows_after = refused_list _ _ _ no _;
    }
