-- A limit step of what was offered as a state.
use mathlib.Core.Path.{◌≡◌, refl, sym, ap, ◌∙◌}
use mathlib.Core.List.{List}
use Prim.Native.Nat.{ℕ}
use Rattle.std.specs.Prelude.{Option, Some, None, Result, Ok, Err}
use Rattle.outcomes.specs.Outcome.{Outcome, refused}
use Rattle.outcomes.specs.Refusals.{refusal_number, refusal_place, refused_by}
use Rattle.outcomes.specs.declared.Refusal.{Refusal}
use Rattle.outcomes.specs.declared.Refusal.TheVariants as refusal
use Rattle.outcomes.specs.declared.Refusal.TheVariants.{TableTooLong, NoState}
use Rattle.units.specs.declared.TableNumber.{TableNumber}
use Rattle.tables.specs.Sizes as sized
use Rattle.tables.specs.Sizes.{Sized, size_refusal, said_sizes, sizes_of}
use Rattle.tables.specs.declared.SizeError.{SizeError}
use Rattle.tables.specs.declared.SizeError.TheVariants.{TooLong, TooManyRows}
use Rattle.limit_state.specs.declared.state.LimitState.{LimitState}
use Rattle.calls.specs.Tables.{after_sizes, asking}
use Rattle.calls.specs.Calls.{limit_step_of}
use Rattle.offered_step.specs.OfferedStep.{no_state, limit_step_from}

module _ (texts : List (List ℕ)) {r : Result Unit SizeError} (h : said_sizes r ≡ sizes_of texts) where
  by : {s : Result Unit SizeError} → r ≡ s → after_sizes (said_sizes s) (refused 34 0) ≡ no_state texts
  unfolding no_state asking
  by e = ap (λ (x : Sized). after_sizes x (refused 34 0)) (sym (ap said_sizes e) ∙ h)

  pub fit_no_state : {done : Unit} → r ≡ Ok done → refused_by NoState ≡ no_state texts
  unfolding after_sizes refused_by refusal_number refusal_place
  fit_no_state e = by e

  pub size_no_state : {error : SizeError} (refusal : Refusal) → size_refusal error ≡ sized.refused_by (refusal_number refusal) (refusal_place refusal)
      → r ≡ Err error → refused_by refusal ≡ no_state texts
  unfolding after_sizes refused_by
  size_no_state refusal f e = sym (ap (λ (x : Sized). after_sizes x (refused 34 0)) f) ∙ by e

  -- each size by itself, for a body that tells them apart
  pub long_no_state : (table : TableNumber) → r ≡ Err (TooLong table) → refused_by (TableTooLong table) ≡ no_state texts
  unfolding refusal_number refusal_place
  long_no_state table e = size_no_state (TableTooLong table) refl e

  pub many_no_state : (table : TableNumber) → r ≡ Err (TooManyRows table) → refused_by (refusal.TooManyRows table) ≡ no_state texts
  unfolding refusal_number refusal_place
  many_no_state table e = size_no_state (refusal.TooManyRows table) refl e

module _ (texts : List (List ℕ)) (p name : List ℕ) {o x : Option LimitState} (h : o ≡ x) {q : Outcome LimitState} where
  pub step_of_state : (s : LimitState) → o ≡ Some s → q ≡ limit_step_of texts p name s → q ≡ limit_step_from texts p name x
  unfolding limit_step_from
  step_of_state s e k = k ∙ ap (limit_step_from texts p name) (sym e ∙ h)

  pub step_of_none : o ≡ None → q ≡ no_state texts → q ≡ limit_step_from texts p name x
  unfolding limit_step_from
  step_of_none e k = k ∙ ap (limit_step_from texts p name) (sym e ∙ h)
