-- What loading into arrays of the full size answers and leaves.
use Rattle.std.specs.Prelude.{ℕ, ◌≡◌, refl, List, [], ◌∷◌, replicate, Result, Ok, Err}
use Rattle.outcomes.specs.Refusals.{refusal_number, refusal_place}
use Rattle.outcomes.specs.declared.Refusal.{Refusal}
use Rattle.outcomes.specs.declared.Refusal.TheVariants.{TableTooLong}
use Rattle.verdicts.specs.Answer.{first_table, too_long}
use Rattle.tables.specs.Sizes.{fit, refused_by, sizes_of}
use Rattle.database.specs.Arrays.{database, answers}
use Rattle.database.specs.GoodRows.{of_tables}
use Rattle.loading.specs.Loaded.{Lent, lent}

-- once tables are loaded, the database answers what they do; refused by 1 or 2, the arrays are as they were
unfoldable pub FullLoads : List (List ℕ) → Lent → Lent → Result Unit Refusal → Type 0
FullLoads texts before after (Ok done) = (sizes_of texts ≡ fit) × (answers (database texts after.words after.links after.columns) ≡ of_tables texts)
FullLoads texts before after (Err refusal) = (sizes_of texts ≡ refused_by (refusal_number refusal) (refusal_place refusal)) × (after ≡ before)

-- of two tables the second is a byte too long
pub example : FullLoads ([] ∷ replicate 65537 0 ∷ []) (lent [] [] []) (lent [] [] []) (Err (TableTooLong (record { 0 = 2 })))
unfolding FullLoads refusal_number refusal_place sizes_of too_long first_table
example = (refl, refl)
