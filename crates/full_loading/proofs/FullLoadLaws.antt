-- Loading into arrays that have room.
use mathlib.Core.Path.{◌≡◌, refl, sym, subst, ◌∙◌}
use mathlib.Core.Bool.{true, false}
use mathlib.Core.List.{List}
use Prim.Native.Nat.{ℕ, ◌≤◌}
use lib.ListN.{length}
use borrow.Author.Tests.{le-leb}
use Rattle.laws.proofs.Cases.{false≢true}
use Rattle.std.specs.Prelude.{Result, Ok, Err}
use Rattle.outcomes.specs.Refusals.{refusal_number, refusal_place}
use Rattle.outcomes.specs.declared.Refusal.{Refusal}
use Rattle.outcomes.specs.declared.Refusal.TheVariants as refusal
use Rattle.outcomes.specs.declared.Refusal.TheVariants.{TableTooLong}
use Rattle.units.specs.declared.TableNumber.{TableNumber}
use Rattle.tables.specs.Sizes.{refused_by, size_refusal}
use Rattle.tables.specs.declared.SizeError.{SizeError}
use Rattle.tables.specs.declared.SizeError.TheVariants.{TooLong, TooManyRows}
use Rattle.symbols.specs.Arrays.{all_words, all_links}
use Rattle.database.specs.Arrays.{all_columns}
use Rattle.loading.specs.Loaded.{Lent, all_lent, Loads}
use Rattle.kept.specs.declared.KeepError.{KeepError}
use Rattle.kept.specs.declared.KeepError.TheVariants.{Sizes, NoRoom}
use Rattle.full_loading.specs.FullLoads.{FullLoads}

module _ (texts : List (List ℕ)) (before after : Lent) {r : Result Unit KeepError} (l : Loads texts before after r) where
  pub full_done : {done : Unit} → r ≡ Ok done → FullLoads texts before after (Ok done)
  unfolding Loads FullLoads
  full_done e = subst (Loads texts before after) e l

  pub full_refused : (error : SizeError) (refusal : Refusal) → size_refusal error ≡ refused_by (refusal_number refusal) (refusal_place refusal)
      → r ≡ Err (Sizes error) → FullLoads texts before after (Err refusal)
  unfolding Loads FullLoads
  full_refused error refusal f e = let k = subst (Loads texts before after) e l in (k.0 ∙ f, k.1)

  -- each size by itself, for a body that tells them apart
  pub full_long : (table : TableNumber) → r ≡ Err (Sizes (TooLong table)) → FullLoads texts before after (Err (TableTooLong table))
  unfolding refusal_number refusal_place
  full_long table e = full_refused (TooLong table) (TableTooLong table) refl e

  pub full_many : (table : TableNumber) → r ≡ Err (Sizes (TooManyRows table)) → FullLoads texts before after (Err (refusal.TooManyRows table))
  unfolding refusal_number refusal_place
  full_many table e = full_refused (TooManyRows table) (refusal.TooManyRows table) refl e

  pub never_short : all_words ≤ length before.words → all_links ≤ length before.links → all_columns ≤ length before.columns → r ≡ Err NoRoom → ⊥
  unfolding Loads
  never_short w k c e =
      let short : all_lent before ≡ false = (subst (Loads texts before after) e l).1 in
      let room : all_lent before ≡ true =
      rw (le-leb all_words (length before.words) w, le-leb all_links (length before.links) k, le-leb all_columns (length before.columns) c) in
      false≢true (sym short ∙ room)
