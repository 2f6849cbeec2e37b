-- What is asked of tables that were loaded.
use mathlib.Core.Path.{◌≡◌, sym, ap, subst, ◌∙◌}
use mathlib.Core.List.{List}
use Prim.Native.Nat.{ℕ}
use Rattle.std.specs.Prelude.{Result, Ok, Err}
use Rattle.outcomes.specs.Outcome.{Outcome}
use Rattle.outcomes.specs.Refusals.{refused_by}
use Rattle.outcomes.specs.declared.Refusal.{Refusal}
use Rattle.tables.specs.Sizes.{Sized}
use Rattle.database.specs.Rows.{Rows}
use Rattle.database.specs.GoodRows.{of_tables}
use Rattle.database.specs.Arrays.{database, answers}
use Rattle.loading.specs.Loaded.{Lent}
use Rattle.full_loading.specs.FullLoads.{FullLoads}
use Rattle.calls.specs.Tables.{after_sizes, asking}

module _ (texts : List (List ℕ)) (before after : Lent) {r : Result Unit Refusal} (l : FullLoads texts before after r) where
  pub asked : {done : Unit} → r ≡ Ok done → (A : Type 0) (ask : Rows → Outcome A)
      → ask (answers (database texts after.words after.links after.columns)) ≡ asking texts ask
  unfolding FullLoads asking after_sizes
  asked e A ask =
      let k = subst (FullLoads texts before after) e l in
      ap ask k.1 ∙ sym (ap (λ (s : Sized). after_sizes s (ask (of_tables texts))) k.0)

  pub refused : (refusal : Refusal) → r ≡ Err refusal → (A : Type 0) (ask : Rows → Outcome A) → refused_by refusal ≡ asking texts ask
  unfolding FullLoads asking after_sizes refused_by
  refused refusal e A ask = sym (ap (λ (s : Sized). after_sizes s (ask (of_tables texts))) (subst (FullLoads texts before after) e l).0)
