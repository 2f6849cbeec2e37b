-- Whether the arrays have their places, and what is promised once they have.
use mathlib.Core.Path.{◌≡◌, refl, ◌∙◌}
use mathlib.Core.Bool.{Bool, true, false, cond}
use mathlib.Core.List.{List}
use Prim.Native.Nat.{ℕ, ◌≤◌, ◌<◌}
use native.Mathlib.Omega.{arith}
use lib.Dec.{eqb}
use lib.ListN.{length, replicate, length-replicate}
use borrow.Author.Tests.{le-leb, lt-leb, eqb-true}
use Rattle.symbols.specs.Arrays.{all_words, all_links}
use Rattle.verdicts.specs.Answer.{too_long, too_many_rows}
use Rattle.verdicts.specs.Entries.{all_rows}
use Rattle.tables.specs.Sizes.{fit, refused_by, sizes_of}
use Rattle.kept.specs.Puts.{all_halves, all_bytes}
use Rattle.kept.specs.Stored.{Stored}
use Rattle.kept.specs.FirstPass.{Arrays, arrays, Situations, SameSizes, HoldBytes}
use Rattle.kept.specs.Keeping.{has_places, KeepsRows}

pub sizes_taken : (texts : List (List ℕ)) → sizes_of texts ≡ fit → (too_long texts ≡ 0) × (too_many_rows texts ≡ 0)
unfolding sizes_of
sizes_taken texts e = go (eqb (too_long texts) 0) (eqb (too_many_rows texts) 0) refl refl e
  where
    go : (a b : Bool) → eqb (too_long texts) 0 ≡ a → eqb (too_many_rows texts) 0 ≡ b → cond a (cond b fit (refused_by 2 (too_many_rows texts)))
        (refused_by 1 (too_long texts)) ≡ fit
        → (too_long texts ≡ 0) × (too_many_rows texts ≡ 0)
    go true true p q e = (eqb-true _ _ p, eqb-true _ _ q)
    go true false p q e = absurd (let z : ◌≡◌ {A = ℕ} 0 1 = cc in omega arith)
    go false b p q e = absurd (let z : ◌≡◌ {A = ℕ} 0 1 = cc in omega arith)

module _ (s : Arrays) where
  pub short_words : length s.words < all_words → has_places s ≡ false
  short_words h = rw (lt-leb _ _ h)

  module _ (w : all_words ≤ length s.words) where
    pub short_links : length s.links < all_links → has_places s ≡ false
    short_links h = rw (le-leb _ _ w, lt-leb _ _ h)

    module _ (l : all_links ≤ length s.links) where
      pub short_halves : length s.halves < all_halves → has_places s ≡ false
      short_halves h = rw (le-leb _ _ w, le-leb _ _ l, lt-leb _ _ h)

      pub short_bytes : all_halves ≤ length s.halves → length s.bytes < all_bytes → has_places s ≡ false
      short_bytes g h = rw (le-leb _ _ w, le-leb _ _ l, le-leb _ _ g, lt-leb _ _ h)

      pub all_long : all_halves ≤ length s.halves → all_bytes ≤ length s.bytes → has_places s ≡ true
      all_long g h = rw (le-leb _ _ w, le-leb _ _ l, le-leb _ _ g, le-leb _ _ h)

-- the rows are kept, after the links were cleared
pub keeps_rows : (texts : List (List ℕ)) (words links halves bytes cleared words₁ links₁ halves₁ bytes₁ : List ℕ) (rows symbols : ℕ) → sizes_of texts ≡ fit
    → has_places (arrays words links 0 halves bytes) ≡ true → cleared ≡ replicate (length links) 0 → rows ≡ length (all_rows texts) → Stored
    (all_rows texts) words₁ links₁ symbols halves₁ bytes₁
    → Situations texts halves₁ bytes₁ rows → SameSizes (arrays words cleared 0 halves bytes) (arrays words₁ links₁ symbols halves₁ bytes₁) → HoldBytes texts
    → KeepsRows texts (arrays words links 0 halves bytes) (arrays words₁ links₁ 0 halves₁ bytes₁) rows symbols
keeps_rows texts words links halves bytes cleared words₁ links₁ halves₁ bytes₁ rows symbols f p e c s t z b =
    record {
      fits = f;
      room = p;
      count = c;
      stored = s;
      situated = t;
      sizes = record { words = z.words; links = z.links ∙ rw (e, length-replicate); halves = z.halves; bytes = z.bytes };
      below = b;
    }
