-- What was found is what the database answers.
use mathlib.Core.Path.{◌≡◌, refl, ap, sym, ◌∙◌}
use mathlib.Core.Bool.{true}
use mathlib.Core.List.{List, [], map}
use mathlib.Core.Option.{none, some}
use Prim.Native.Nat.{ℕ, ◌-◌}
use borrow.Author.Tests.{eq-eqb, ne_eqb}
use Rattle.symbols.specs.declared.Symbol.{Symbol}
use Rattle.verdicts.specs.Key.{Key}
use Rattle.key_symbols.specs.Keyed.{symbol_of}
use Rattle.key_symbols.specs.Bounded.{key_fits}
use Rattle.database.specs.Arrays.{database, holder_column, first_column, row_at, row_for, keyed, keyed_by, group_places, answers}

-- a row's number stands in the columns alone
pub number_alone : (texts : List (List ℕ)) (columns : List ℕ) (i : ℕ) → (row_at [] columns i).number ≡ (row_at texts columns i).number
unfolding row_at
number_alone texts columns i = refl

module _ (texts : List (List ℕ)) (words links columns : List ℕ) (k : Key) (s : Symbol) (is : s ≡ symbol_of k) (fit : key_fits k ≡ true) where
  keyed_by_lem : (column : ℕ) → keyed words links columns column s ≡ keyed_by words links columns column k
  unfolding keyed_by
  keyed_by_lem column = rw (fit, is)

  -- the row that holds a key, by what `holder_of` answers
  pub holder_is : (at : ℕ) → at ≡ keyed words links columns holder_column s → (answers (database texts words links columns)).holder k ≡ row_for texts columns at
  unfolding answers
  holder_is at e = ap (row_for texts columns) (sym (e ∙ keyed_by_lem holder_column))

  pub holder_none : (at : ℕ) → at ≡ keyed words links columns holder_column s → at ≡ 0 → (answers (database texts words links columns)).holder k ≡ none
  unfolding row_for
  holder_none at e z = holder_is at e ∙ rw (eq-eqb at 0 z)

  pub holder_some : (at : ℕ) → at ≡ keyed words links columns holder_column s → (at ≡ 0 → ⊥)
      → (answers (database texts words links columns)).holder k ≡ some (row_at texts columns (at - 1))
  unfolding row_for
  holder_some at e z = holder_is at e ∙ rw (ne_eqb at 0 z)

  -- the rows of a group, by what `list_members` lists
  pub members_are : (answers (database texts words links columns)).members k
      ≡ map (row_at texts columns) (group_places columns (keyed words links columns first_column s))
  unfolding answers
  members_are = ap (λ (at : ℕ). map (row_at texts columns) (group_places columns at)) (sym (keyed_by_lem first_column))
