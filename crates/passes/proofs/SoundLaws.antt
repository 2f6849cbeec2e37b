-- A row's mark by what was read of it.
use mathlib.Core.Path.{◌≡◌, ◌∙◌}
use mathlib.Core.List.{List}
use Prim.Native.Nat.{ℕ}
use lib.ListN.{get_or}
use Rattle.passes.specs.Sound.{sound_of, sound_at}

module _ (formed key1 key2 holders : List ℕ) (i : ℕ) where
  pub sound_is : {mark id₁ h₁ id₂ h₂ r : ℕ} → mark ≡ get_or formed i 0 → id₁ ≡ get_or key1 i 0 → h₁ ≡ get_or holders id₁ 0
      → id₂ ≡ get_or key2 i 0 → h₂ ≡ get_or holders id₂ 0 → r ≡ sound_of mark h₁ h₂ → r ≡ sound_at formed key1 key2 holders i
  unfolding sound_at
  sound_is m k₁ e₁ k₂ e₂ e = e ∙ rw (m, e₁, k₁, e₂, k₂)
