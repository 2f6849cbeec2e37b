-- What the columns of keys say of a key: what stands under its id, and nothing of a key without one.
use mathlib.Core.Path.{◌≡◌, refl, sym, ◌∙◌}
use mathlib.Core.Bool.{true}
use mathlib.Core.List.{List}
use Prim.Native.Nat.{ℕ, ◌+◌, ◌≤◌, ◌<◌}
use native.Mathlib.Omega.{arith}
use lib.Dec.{ltb}
use lib.ListN.{get_or}
use borrow.Author.Tests.{lt-ltb, le-ltb, ltb-true, ltb-false}
use Rattle.laws.proofs.Cases.{bool_cases, cond_cases, false≢true}
use Rattle.symbols.specs.declared.Symbol.{Symbol}
use Rattle.symbols.specs.Symbols.{no_id}
use Rattle.symbols.specs.Arrays.{symbols, most_symbols}
use Rattle.symbols.specs.Searches.{Table}
use Rattle.symbols.proofs.FindLaws.{symbols_length, found_id}
use Rattle.symbols.proofs.PlaceLaws.{id_below}
use Rattle.verdicts.specs.Key.{Key}
use Rattle.key_symbols.specs.Keyed.{symbol_of}
use Rattle.key_symbols.specs.Bounded.{key_fits}
use Rattle.key_symbols.proofs.FitLaws.{fits_bounded, bounded_fits}
use Rattle.meaning.specs.Kept.{key_id, Known}
use Rattle.judged.proofs.Held.{coding}
use Rattle.database.specs.Arrays.{keyed, keyed_by}

module _ {words links : List ℕ} {count : ℕ} (table : Table words links count) (small : count ≤ most_symbols) (k : Key) where
  abbrev ls : List Symbol
  ls = symbols words count

  abbrev id : ℕ
  id = key_id coding ls k

  -- a key has an id or not
  pub known_cases : {P : Type 0} → (Known coding ls k → P) → ((Known coding ls k → ⊥) → P) → P
  known_cases f g =
      bool_cases (key_fits k)
      (λ a. bool_cases (ltb id no_id)
      (λ b. f (record { fits = fits_bounded k a; numbered = ltb-true id no_id b }))
      (λ b. g (λ q. omega (arith, ltb-false id no_id b, q.numbered))))
      (λ a. g (λ q. false≢true (sym a ∙ bounded_fits k q.fits)))

  module _ (q : Known coding ls k) where
    -- there are at most as many ids as a column has places
    pub id_few : id < most_symbols
    id_few = omega (arith, id_below (symbol_of k) ls q.numbered, symbols_length words count)

    pub keyed_known : (columns : List ℕ) (column : ℕ) → keyed_by words links columns column k ≡ get_or columns (column + id) 0
    unfolding keyed_by keyed
    keyed_known columns column = rw (bounded_fits k q.fits, found_id words links count table (symbol_of k), lt-ltb id most_symbols id_few)

  pub keyed_none : (Known coding ls k → ⊥) → (columns : List ℕ) (column : ℕ) → keyed_by words links columns column k ≡ 0
  unfolding keyed_by keyed
  keyed_none n columns column =
      cond_cases (λ (x : ℕ). x ≡ 0) (key_fits k)
      (λ a. rw (found_id words links count table (symbol_of k), le-ltb id most_symbols (none a)))
      (λ _. refl)
    where
      none : key_fits k ≡ true → most_symbols ≤ id
      none a =
          bool_cases (ltb id no_id)
          (λ b. absurd (n (record { fits = fits_bounded k a; numbered = ltb-true id no_id b })))
          (λ b. omega (arith, ltb-false id no_id b))
