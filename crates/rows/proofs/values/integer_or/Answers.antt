-- The value that was read, or else the default.
use mathlib.Core.Path.{ap, ◌∙◌}
use lib.IntN.{ℤ}
use mir.Facts.{to_z-of_z}
use mir.Val.{SFits}
use mir.Syntax.{w64}
use Rattle.std.specs.Prelude.{Result}
use Rattle.std.specs.Result.{result_unwrap_or}
use Rattle.numbers.specs.declared.NumberError.{NumberError}
use Rattle.rows.specs.Values.{integer_or}
use Rattle.rows.proofs.ValueLaws.{integer_read}
use borrow.Author.Rules.{rules}
use Rattle.rows.proofs.values.integer_or.Goals as goal

pub returns : goal.returns
unfolding integer_or
returns c = let f : SFits w64 c.unwrap_or.result = search rules in
    to_z-of_z f ∙ c.unwrap_or.ensures ∙ ap (result_unwrap_or c.read_number.result) (to_z-of_z c.ranges.default)
    ∙ ap (λ (r : Result ℤ NumberError). result_unwrap_or r c.args.default) c.read_number.ensures
    ∙ integer_read c.args.default _
