-- By what keeping the rows answers.
use mathlib.Core.Path.{◌≡◌, ap, ◌∙◌}
use Rattle.std.specs.Prelude.{Err}
use Rattle.tables.specs.declared.SizeError.TheVariants.{TooLong, TooManyRows}
use Rattle.kept.specs.declared.KeepError.TheVariants.{Sizes}
use Rattle.kept.proofs.AnswerLaws.{kept_done}
use Rattle.loading.specs.Loaded.{Loads}
use Rattle.loading.proofs.LoadedLaws.{load_answers, load_refused}
use Rattle.loading.proofs.load.Goals as goal

pub returns-in-Ok : goal.returns-in-Ok
unfolding Loads
returns-in-Ok c = let k = kept_done _ _ _ _ c.keep.ensures _ c.in-Ok.is in
    (k.fits, load_answers _ _ _ _ _ k _ c.index_kept.ensures)

pub returns-in-Err-Sizes-TooLong : goal.returns-in-Err-Sizes-TooLong
returns-in-Err-Sizes-TooLong c =
    let size : c.in-Err-Sizes-TooLong.field-0-0 ≡ TooLong c.in-Err-Sizes-TooLong.table = rw c.in-Err-Sizes-TooLong.field-0-is at c.in-Err-Sizes-TooLong.field-0-0-is in
    rw (c.in-Err-Sizes-TooLong.field-0-is, size)
    (load_refused _ c.args.words.now c.args.links.now c.args.columns.now _ c.keep.ensures (c.in-Err-Sizes-TooLong.is ∙ ap Err (c.in-Err-Sizes-TooLong.field-0-is ∙ ap Sizes size)))

pub returns-in-Err-Sizes-TooManyRows : goal.returns-in-Err-Sizes-TooManyRows
returns-in-Err-Sizes-TooManyRows c =
    let size : c.in-Err-Sizes-TooManyRows.field-0-0 ≡ TooManyRows c.in-Err-Sizes-TooManyRows.table = rw c.in-Err-Sizes-TooManyRows.field-0-is at c.in-Err-Sizes-TooManyRows.field-0-0-is in
    rw (c.in-Err-Sizes-TooManyRows.field-0-is, size)
    (load_refused _ c.args.words.now c.args.links.now c.args.columns.now _ c.keep.ensures (c.in-Err-Sizes-TooManyRows.is ∙ ap Err (c.in-Err-Sizes-TooManyRows.field-0-is ∙ ap Sizes size)))

pub returns-in-Err-NoRoom : goal.returns-in-Err-NoRoom
returns-in-Err-NoRoom c =
    load_refused _ c.args.words.now c.args.links.now c.args.columns.now _ c.keep.ensures (c.in-Err-NoRoom.is ∙ ap Err c.in-Err-NoRoom.field-0-is)
