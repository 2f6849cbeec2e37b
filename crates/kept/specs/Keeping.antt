-- What keeping the rows of tables answers, and what it leaves in the arrays.
use Rattle.std.specs.Prelude.{ℕ, ◌≡◌, Bool, true, false, ◌&&◌, List, leb, length, Result, Ok, Err}
use Rattle.symbols.specs.Arrays.{all_words, all_links}
use Rattle.verdicts.specs.Entries.{all_rows}
use Rattle.tables.specs.Sizes.{fit, size_refusal, sizes_of}
use Rattle.kept.specs.Stored.{Stored}
use Rattle.kept.specs.Puts.{all_halves, all_bytes}
use Rattle.kept.specs.FirstPass.{Arrays, Situations, SameSizes, HoldBytes}
use Rattle.kept.specs.declared.KeptCounts.{KeptCounts}
use Rattle.kept.specs.declared.KeepError.{KeepError}
use Rattle.kept.specs.declared.KeepError.TheVariants.{Sizes, NoRoom}

-- the arrays have all their places
abbrev pub has_places : Arrays → Bool
has_places s =
    leb all_words (length s.words) && (leb all_links (length s.links) && (leb all_halves (length s.halves) && leb all_bytes (length s.bytes)))

-- the rows of tables that fit are kept
pub record KeepsRows (texts : List (List ℕ)) (s₀ s₁ : Arrays) (rows symbols : ℕ) : Type 0 where
  pub fits : sizes_of texts ≡ fit
  pub room : has_places s₀ ≡ true
  pub count : rows ≡ length (all_rows texts)
  pub stored : Stored (all_rows texts) s₁.words s₁.links symbols s₁.halves s₁.bytes
  pub situated : Situations texts s₁.halves s₁.bytes rows
  pub sizes : SameSizes s₀ s₁
  pub below : HoldBytes texts

-- 01: "A refusal writes nothing"
unfoldable pub Keeps : List (List ℕ) → Arrays → Arrays → Result KeptCounts KeepError → Type 0
Keeps texts s₀ s₁ (Ok kept) = KeepsRows texts s₀ s₁ kept.rows kept.symbols
Keeps texts s₀ s₁ (Err (Sizes error)) = (sizes_of texts ≡ size_refusal error) × (s₁ ≡ s₀)
Keeps texts s₀ s₁ (Err NoRoom) = (sizes_of texts ≡ fit) × (has_places s₀ ≡ false) × (s₁ ≡ s₀)
