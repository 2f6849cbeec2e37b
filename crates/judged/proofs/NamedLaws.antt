-- What a row names is kept by its code, and leads to the row that holds the key.
use mathlib.Core.Path.{◌≡◌, refl, ap, sym, ◌∙◌}
use mathlib.Core.Bool.{true}
use mathlib.Core.List.{List, [], ◌∷◌}
use Prim.Native.Nat.{ℕ, zero, suc, ◌≤◌, ◌<◌}
use native.Mathlib.Omega.{arith}
use lib.ListN.{length, drop}
use borrow.Author.Tests.{eqb-false}
use Rattle.laws.proofs.Cases.{false≢true}
use Rattle.arrays.specs.Room.{most_places}
use Rattle.verdicts.specs.Key.{Key}
use Rattle.verdicts.specs.Facts.{Naming}
use Rattle.verdicts.specs.Entries.{Entry}
use Rattle.verdicts.specs.Steps.{holds}
use Rattle.chain_steps.specs.Chains.{no_row}
use Rattle.manners.specs.Manners.{manner_of, manner_at, code_of}
use Rattle.keys.specs.Held.{named_of}
use Rattle.keys.proofs.Fitting.{Listed, NamesFit}
use Rattle.meaning.specs.Kept.{kept_entry}
use Rattle.meaning.specs.Found.{Finds}
use Rattle.judging.proofs.CircleMeaning.{no_code}
use Rattle.judging.proofs.Resolved.{Answers, absent, present, Names}
use Rattle.findings.specs.Found.{row_linked}

module _ (rows : List Entry) (few : length rows ≤ most_places) where
  -- the row that was found
  module _ (n : Naming) (x : ℕ) (finds : Finds rows n.key x) where
    row_there : (y : ℕ) → x ≡ y → (row_linked y ≡ no_row → ⊥) → (row_linked y < length rows) × (holds (kept_entry rows (row_linked y)) n.key ≡ true)
    unfolding row_linked
    row_there zero e some = absurd (some refl)
    row_there (suc j) e some = finds.some j (omega arith)

    row_found : (y : ℕ) → x ≡ y → (j : ℕ) → j < length rows → holds (kept_entry rows j) n.key ≡ true → row_linked y ≡ no_row → ⊥
    unfolding row_linked
    row_found zero e j p h z = false≢true (sym (finds.none e j p) ∙ h)
    row_found (suc k) e j p h z = omega (arith, (finds.some k (omega arith)).0)

    pub answers : (keys : List Key) → Listed keys n → (code found : ℕ) → code ≡ code_of (manner_of n) → found ≡ row_linked x
        → Answers rows n code found
    answers keys l code found c f =
        let d : manner_at code ≡ manner_of n = ap manner_at c ∙ l.decoded in
        record {
          column = sym (ap (λ m. m.column) d);
          kind = sym (ap (λ m. m.kind) d);
          chained = sym (ap (λ m. m.chained) d);
          there = λ some. rw f (row_there x refl (λ z. some (f ∙ z)));
          finds = λ j p h z. row_found x refl j p h (sym f ∙ z);
        }

  -- what a row names, in its two places
  module _ (keys : List Key) (x1 x2 : ℕ) where
    pub names_are : (ns : List Naming) → NamesFit keys ns
        → ((n : Naming) (ms : List Naming) → ns ≡ n ∷ ms → Finds rows n.key x1)
        → ((n m : Naming) (ms : List Naming) → ns ≡ n ∷ m ∷ ms → Finds rows m.key x2)
        → Names rows (named_of ns).code (row_linked x1) (named_of (drop 1 ns)).code (row_linked x2) ns
    unfolding named_of
    names_are [] l f g = record { one = absent refl; two = absent refl; are = refl; unchained = no_code 0 refl }
    names_are (n ∷ []) l f g =
        record {
          one = present n (eqb-false _ _ l.coded) (answers n x1 (f n [] refl) keys l _ _ refl refl);
          two = absent refl;
          are = refl;
          unchained = no_code 0 refl;
        }
    names_are (n ∷ m ∷ []) l f g =
        record {
          one = present n (eqb-false _ _ l.0.coded) (answers n x1 (f n (m ∷ []) refl) keys l.0 _ _ refl refl);
          two = present m (eqb-false _ _ l.1.coded) (answers m x2 (g n m [] refl) keys l.1 _ _ refl refl);
          are = refl;
          unchained = ap (λ k. k.chained) l.1.decoded ∙ l.2;
        }
    names_are (n ∷ m ∷ o ∷ os) l f g = absurd l
