-- By the sizes of the tables.
use mathlib.Core.Path.{ap, refl, sym, ◌∙◌}
use Rattle.std.proofs.lemmas.Result.{err_from_is_err_and}
use Rattle.tables.specs.Sizes.{said_sizes}
use Rattle.kept.specs.Keeping.{Keeps}
use Rattle.kept.proofs.keep.Goals as goal

pub keep_fitting-requires : goal.keep_fitting-requires
keep_fitting-requires c = sym c.check_sizes.ensures ∙ ap said_sizes c.in_ok-check_sizes.was

pub returns-in_err-check_sizes : goal.returns-in_err-check_sizes
unfolding Keeps
returns-in_err-check_sizes c = let p = err_from_is_err_and c.from_residual.result c.from_residual.ensures.1 in
    rw (p.1, p.2) (sym c.check_sizes.ensures ∙ ap said_sizes c.in_err-check_sizes.was, refl)
