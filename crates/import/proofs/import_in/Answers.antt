-- By what keeping the rows answers.
use mathlib.Core.Path.{refl, sym, ap, ◌∙◌}
use Rattle.std.specs.Prelude.{Err}
use Rattle.verdicts.specs.Answer.{cells_after, positions_after}
use Rattle.kept.proofs.AnswerLaws.{kept_refused, kept_short, kept_done}
use Rattle.laws.proofs.Cases.{false≢true}
use Rattle.import.specs.Judged.{said_imported}
use Rattle.import.proofs.AnswerLaws.{answer_refused}
use Rattle.import.proofs.ImportLaws.{answer_by, has_room}
use borrow.Author.Rules.{rules}
use Rattle.import.proofs.import_in.Goals as goal

pub returns-in-Ok : goal.returns-in-Ok
returns-in-Ok c = let w =
    answer_by _ _ _ _ _ (kept_done _ _ _ _ c.keep.ensures _ c.in-Ok.is) _ _ _ _ _
    c.import_kept.ensures
    in record { result_value = w.answer; cells_after = w.cells; positions_after = w.positions }

pub returns-in-Err-Sizes : goal.returns-in-Err-Sizes
unfolding said_imported cells_after positions_after
returns-in-Err-Sizes c = record {
  result_value = sym (answer_refused _ _ ((kept_refused _ _ _ _ c.keep.ensures _ (c.in-Err-Sizes.is ∙ ap Err c.in-Err-Sizes.field-0-is)).0 ∙ c.from.ensures));
  cells_after = refl;
  positions_after = refl;
}

pub returns-in-Err-NoRoom : goal.returns-in-Err-NoRoom
returns-in-Err-NoRoom c = absurd (false≢true (sym (kept_short _ _ _ _ c.keep.ensures (c.in-Err-NoRoom.is ∙ ap Err c.in-Err-NoRoom.field-0-is)).1
    ∙ has_room c.args.words.now c.args.links.now c.args.halves.now c.args.bytes.now (search rules) (search rules) (search rules) (search rules)))
