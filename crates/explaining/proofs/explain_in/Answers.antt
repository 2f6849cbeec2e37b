-- By what keeping the rows answers.
use mathlib.Core.Path.{sym, ap, ◌∙◌}
use Rattle.std.specs.Prelude.{Err}
use Rattle.laws.proofs.Cases.{false≢true}
use Rattle.kept.proofs.AnswerLaws.{kept_refused, kept_short, kept_done}
use Rattle.explaining.proofs.AnswerLaws.{by_columns, answer_size, places_size, has_room}
use borrow.Author.Rules.{rules}
use Rattle.explaining.proofs.explain_in.Goals as goal

pub returns-in-Ok : goal.returns-in-Ok
returns-in-Ok c = by_columns _ _ _ _ _ (kept_done _ _ _ _ c.keep.ensures _ c.in-Ok.is) _ _ (search rules) _ _ _ _
    c.explain_kept.ensures

pub returns-in-Err-Sizes : goal.returns-in-Err-Sizes
returns-in-Err-Sizes c = let sizes = (kept_refused _ _ _ _ c.keep.ensures _ (c.in-Err-Sizes.is ∙ ap Err c.in-Err-Sizes.field-0-is)).0 in
    rw c.in-Err-Sizes.field-0-is (λ n m e. (answer_size _ n m _ sizes, places_size _ n m _ sizes _))

pub returns-in-Err-NoRoom : goal.returns-in-Err-NoRoom
returns-in-Err-NoRoom c = absurd (false≢true (sym (kept_short _ _ _ _ c.keep.ensures (c.in-Err-NoRoom.is ∙ ap Err c.in-Err-NoRoom.field-0-is)).1
    ∙ has_room c.args.words.now c.args.links.now c.args.halves.now c.args.bytes.now (search rules) (search rules) (search rules) (search rules)))
