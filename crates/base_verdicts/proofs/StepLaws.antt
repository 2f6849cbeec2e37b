-- What each step of the passes answers, by what was read.
use mathlib.Core.Path.{◌≡◌}
use mathlib.Core.Bool.{Bool, true, false}
use mathlib.Core.List.{List}
use Prim.Native.Nat.{ℕ}
use lib.ListN.{get_or}
use borrow.Author.Tests.{eq-eqb, ne_eqb}
use Rattle.schemas.specs.Reasons.{reason_at}
use Rattle.manners.specs.Manners.{manner_at}
use Rattle.chain_steps.specs.Chains.{no_row}
use Rattle.met_names.proofs.StepLaws.{or_here}
use Rattle.base_verdicts.specs.Judged.{next_of, base_of}

-- the next row: b says whether the naming is of a chain
module _ (sound : List ℕ) (code found : ℕ) (b : Bool) (chains : b ≡ (manner_at code).chained) where
  pub next_none : b ≡ false → no_row ≡ next_of sound code found
  unfolding next_of
  next_none h = rw (← chains, h)

  module _ (h : b ≡ true) (mark : ℕ) (marked : mark ≡ get_or sound found 0) where
    pub next_sound : mark ≡ 1 → found ≡ next_of sound code found
    unfolding next_of
    next_sound k = rw (← chains, h, ← marked, eq-eqb mark 1 k)

    pub next_unsound : (mark ≡ 1 → ⊥) → no_row ≡ next_of sound code found
    unfolding next_of
    next_unsound k = rw (← chains, h, ← marked, ne_eqb mark 1 k)

-- the verdict without names
module _ (own sound count circle : ℕ) where
  pub base_own : (own ≡ 0 → ⊥) → own ≡ base_of own sound count circle
  unfolding base_of
  base_own h = or_here own _ h

  module _ (formed : own ≡ 0) where
    pub base_shared : (sound ≡ 1 → ⊥) → reason_at 9 0 ≡ base_of own sound count circle
    unfolding base_of
    base_shared h = rw (formed, ne_eqb sound 1 h)

    module _ (alone : sound ≡ 1) where
      pub base_count : (count ≡ 0 → ⊥) → count ≡ base_of own sound count circle
      unfolding base_of
      base_count h = rw (formed, eq-eqb sound 1 alone) (or_here count _ h)

      module _ (counted : count ≡ 0) where
        pub base_circle : circle ≡ 1 → reason_at 12 8 ≡ base_of own sound count circle
        unfolding base_of
        base_circle h = rw (formed, eq-eqb sound 1 alone, counted, eq-eqb circle 1 h)

        pub base_none : (circle ≡ 1 → ⊥) → 0 ≡ base_of own sound count circle
        unfolding base_of
        base_none h = rw (formed, eq-eqb sound 1 alone, counted, ne_eqb circle 1 h)
