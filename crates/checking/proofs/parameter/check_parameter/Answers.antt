-- The checks that were gathered, and the parameter checked by them.
use mathlib.Core.Path.{sym, ◌∙◌}
use Prim.Native.Nat.{ℕ}
use native.Mathlib.Omega.{arith}
use lib.IntN.{pos}
use lib.ListN.{length-replicate}
use Rattle.database.proofs.GatherLaws.{part_long}
use Rattle.checking.proofs.ParameterLaws.{applying_checked}
use Rattle.checking.proofs.parameter.check_parameter.Goals as goal

pub gather_checks-checks-requires : goal.gather_checks-checks-requires
gather_checks-checks-requires c = record { low = length-replicate 1024 (pos 0); high = length-replicate 1024 (pos 0); level = length-replicate {A = ℕ} 1024 0 }

pub slice_bounds-check_by-end : goal.slice_bounds-check_by-end
slice_bounds-check_by-end c = sym c.gather_checks-checks.ensures.upper_bound.1.low

pub slice_bounds-check_by-end-2 : goal.slice_bounds-check_by-end-2
slice_bounds-check_by-end-2 c = sym c.gather_checks-checks.ensures.upper_bound.1.high

pub slice_bounds-levels-end : goal.slice_bounds-levels-end
slice_bounds-levels-end c = omega (arith, c.gather_checks-checks.ensures.upper_bound.0, c.gather_checks-checks.ensures.upper_bound.1.level)

pub slice_bounds-check_by-end-3 : goal.slice_bounds-check_by-end-3
slice_bounds-check_by-end-3 c = part_long _ _ (omega (arith, c.gather_checks-checks.ensures.upper_bound.0, c.gather_checks-checks.ensures.upper_bound.1.level))

pub returns : goal.returns
returns c = c.check_by.ensures ∙ applying_checked _ _ _ _ _ _ _ c.gather_checks-checks.ensures.levels_after
