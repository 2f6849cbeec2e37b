-- What each step of the passes answers, by what was read.
use mathlib.Core.Path.{◌≡◌, refl}
use Prim.Native.Nat.{ℕ, zero, suc, ◌+◌, ◌*◌, ◌-◌}
use native.Mathlib.Omega.{arith}
use borrow.Author.Tests.{eq-eqb, ne_eqb}
use Rattle.chain_steps.specs.Chains.{no_row}
use Rattle.findings.specs.Found.{row_linked, count_finding}

pub row_none : (more : ℕ) → more ≡ 0 → no_row ≡ row_linked more
unfolding row_linked
row_none more e = rw e

pub row_some : (more : ℕ) → (more ≡ 0 → ⊥) → more - 1 ≡ row_linked more
unfolding row_linked
row_some zero h = absurd (h refl)
row_some (suc j) h = omega arith

module _ (column number tally : ℕ) where
  pub count_none : column ≡ 0 → 0 ≡ count_finding column number tally
  unfolding count_finding
  count_none h = rw (eq-eqb column 0 h)

  module _ (some : column ≡ 0 → ⊥) where
    pub count_same : tally ≡ number → 0 ≡ count_finding column number tally
    unfolding count_finding
    count_same h = rw (ne_eqb column 0 some, eq-eqb tally number h)

    pub count_differs : (tally ≡ number → ⊥) → 10 * 256 + column ≡ count_finding column number tally
    unfolding count_finding
    count_differs h = rw (ne_eqb column 0 some, ne_eqb tally number h)
