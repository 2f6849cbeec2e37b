-- What keeping answered says of the tables and the arrays.
use mathlib.Core.Path.{◌≡◌, subst}
use mathlib.Core.Bool.{false}
use mathlib.Core.List.{List}
use Prim.Native.Nat.{ℕ}
use Rattle.std.specs.Prelude.{Result, Ok, Err}
use Rattle.tables.specs.Sizes.{fit, size_refusal, sizes_of}
use Rattle.tables.specs.declared.SizeError.{SizeError}
use Rattle.kept.specs.FirstPass.{Arrays}
use Rattle.kept.specs.Keeping.{has_places, KeepsRows, Keeps}
use Rattle.kept.specs.declared.KeptCounts.{KeptCounts}
use Rattle.kept.specs.declared.KeepError.{KeepError}
use Rattle.kept.specs.declared.KeepError.TheVariants.{Sizes, NoRoom}

module _ (texts : List (List ℕ)) (s₀ s₁ : Arrays) (r : Result KeptCounts KeepError) (k : Keeps texts s₀ s₁ r) where
  pub kept_refused : (error : SizeError) → r ≡ Err (Sizes error) → (sizes_of texts ≡ size_refusal error) × (s₁ ≡ s₀)
  unfolding Keeps
  kept_refused error e = subst (Keeps texts s₀ s₁) e k

  pub kept_short : r ≡ Err NoRoom → (sizes_of texts ≡ fit) × (has_places s₀ ≡ false) × (s₁ ≡ s₀)
  unfolding Keeps
  kept_short e = subst (Keeps texts s₀ s₁) e k

  pub kept_done : (kept : KeptCounts) → r ≡ Ok kept → KeepsRows texts s₀ s₁ kept.rows kept.symbols
  unfolding Keeps
  kept_done kept e = subst (Keeps texts s₀ s₁) e k
