-- Refusals 28, 30 and 31 of a limit step mean exactly what 01 says.
-- 01: "In a limit step 28 is sought over all occurrences first, then 30, then 31,
-- these two only on valid occurrences under INTER C"
use mathlib.Core.Path.{◌≡◌, refl}
use mathlib.Core.Logic.{◌↔◌}
use mathlib.Core.List.{List}
use Prim.Native.Nat.{ℕ}
use Rattle.tables.specs.Sizes.{fit, sizes_of}
use Rattle.outcomes.specs.Outcome.{refused}
use Rattle.database.specs.GoodRows.{of_tables}
use Rattle.limit_state.specs.declared.state.LimitState.{LimitState}
use Rattle.stepping.specs.Step.{step_in}
use Rattle.calls.specs.Tables.{after_sizes, asking}
use Rattle.calls.specs.Calls.{limit_step_of}
use Rattle.at_verdicts.specs.StepValues.{StepLeaves, StepOffCurve, StepOutOfRange}
use Rattle.at_verdicts.proofs.StepTaken.{step_taken}
use Rattle.at_verdicts.proofs.StepLeaving.{values_28, leaving_28}
use Rattle.at_verdicts.proofs.StepCurve.{values_30, values_31, off_30, out_31}

module _ (texts : List (List ℕ)) (p name : List ℕ) (s : LimitState) where
  limit_step_28 : (byte : ℕ) → (step_in (of_tables texts) p name s ≡ refused 28 byte) ↔ StepLeaves (of_tables texts) p name s byte
  limit_step_28 byte =
      let w = step_taken (of_tables texts) p name s 28 byte refl refl refl refl refl in
      (λ e. values_28 texts p name s byte (w.0 e), λ u. w.1 (leaving_28 texts p name s byte u))

  limit_step_30 : (step_in (of_tables texts) p name s ≡ refused 30 0) ↔ StepOffCurve (of_tables texts) p name s
  limit_step_30 =
      let w = step_taken (of_tables texts) p name s 30 0 refl refl refl refl refl in (
        λ e. let r = w.0 e in values_30 texts p name s r.0 r.1,
        λ u. let c = u.calibrated in w.1 (c.taken, off_30 texts p name s c.taken c.there c.valid c.under_c u.off),
      )

  limit_step_31 : (step_in (of_tables texts) p name s ≡ refused 31 0) ↔ StepOutOfRange (of_tables texts) p name s
  limit_step_31 =
      let w = step_taken (of_tables texts) p name s 31 0 refl refl refl refl refl in (
        λ e. let r = w.0 e in values_31 texts p name s r.0 r.1,
        λ u. let c = u.calibrated in w.1 (c.taken, out_31 texts p name s c.taken c.there c.valid c.under_c u.none_off u.out),
      )

  -- of the call, with tables that fit
  pub limit_call_28 : sizes_of texts ≡ fit → (byte : ℕ) → (limit_step_of texts p name s ≡ refused 28 byte) ↔ StepLeaves (of_tables texts) p name s byte
  unfolding limit_step_of asking after_sizes
  limit_call_28 f byte = rw f (limit_step_28 byte)

  pub limit_call_30 : sizes_of texts ≡ fit → (limit_step_of texts p name s ≡ refused 30 0) ↔ StepOffCurve (of_tables texts) p name s
  unfolding limit_step_of asking after_sizes
  limit_call_30 f = rw f limit_step_30

  pub limit_call_31 : sizes_of texts ≡ fit → (limit_step_of texts p name s ≡ refused 31 0) ↔ StepOutOfRange (of_tables texts) p name s
  unfolding limit_step_of asking after_sizes
  limit_call_31 f = rw f limit_step_31
