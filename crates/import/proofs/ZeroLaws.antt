-- The count of good rows, cell by cell.
use mathlib.Core.Path.{◌≡◌}
use mathlib.Core.List.{List}
use Prim.Native.Nat.{ℕ, suc, ◌+◌, ◌≤◌, ◌<◌}
use lib.ListN.{length, get_or, drop, drop_of_length-le}
use borrow.Author.Tests.{eq-eqb, ne_eqb}
use Rattle.laws.proofs.Lists.{split}
use Rattle.verdicts.specs.Answer.{zeros}

module _ (cells : List ℕ) (i : ℕ) where
  -- what is left from cell i on
  abbrev pub zeros_from : ℕ
  zeros_from = zeros (drop i cells)

  pub zeros_none : length cells ≤ i → zeros_from ≡ 0
  unfolding zeros
  zeros_none h = rw (drop_of_length-le cells h)

  pub zeros_good : i < length cells → get_or cells i 0 ≡ 0 → zeros_from ≡ suc (zeros (drop (i + 1) cells))
  unfolding zeros
  zeros_good h e = rw (split cells i 0 h, eq-eqb _ 0 e)

  pub zeros_bad : i < length cells → (get_or cells i 0 ≡ 0 → ⊥) → zeros_from ≡ zeros (drop (i + 1) cells)
  unfolding zeros
  zeros_bad h e = rw (split cells i 0 h, ne_eqb _ 0 e)
