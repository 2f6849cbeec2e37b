-- A call with tables.
use Rattle.std.specs.Prelude.{◌≡◌, refl, List, ℕ}
use Rattle.outcomes.specs.Outcome.{Outcome, refused, answer}
use Rattle.tables.specs.Sizes.{Sized, fit, refused_by, sizes_of}
use Rattle.database.specs.Rows.{Rows}
use Rattle.database.specs.GoodRows.{of_tables}

-- 01: "1, 2 … any call with tables, before all else"
unfoldable pub after_sizes : {A : Type 0} → Sized → Outcome A → Outcome A
after_sizes fit outcome = outcome
after_sizes (refused_by number place) outcome = refused number place

-- what is asked of the tables' good rows. 01: "they take the tables, never a lent verdict"
unfoldable pub asking : {A : Type 0} → List (List ℕ) → (Rows → Outcome A) → Outcome A
asking texts ask = after_sizes (sizes_of texts) (ask (of_tables texts))

pub example : after_sizes {A = ℕ} (refused_by 2 7) (answer 5) ≡ refused 2 7
unfolding after_sizes
example = refl
