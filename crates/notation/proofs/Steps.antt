-- Laws of one more character, as the code tells the cases apart.
use mathlib.Core.Path.{◌≡◌}
use mathlib.Core.Logic.{◌⊎◌, inl, inr, ⊎_elim}
use Prim.Native.Nat.{ℕ}
use borrow.Author.Tests.{eq-eqb, ne_eqb}
use Rattle.laws.specs.Text.{char}
use Rattle.notation.specs.Stages.{on_digit, in_digits, stage_after}
use Rattle.notation.specs.declared.Stage.{Stage}
use Rattle.notation.specs.declared.Stage.TheVariants.{Start, Minus, Whole, DecimalPoint, Fraction, ExponentMark, ExponentSign, Exponent, Stuck}

module _ (c : ℕ) where
  -- an e or E, and any other character
  pub mark : (s : Stage) → (c ≡ char "E") ⊎ (c ≡ char "e") → ExponentMark ≡ in_digits s c
  unfolding in_digits
  mark s h = ⊎_elim (λ e. rw e) (λ e. rw e) h

  pub no_mark : (s : Stage) → ((c ≡ char "E") ⊎ (c ≡ char "e") → ⊥) → on_digit s c ≡ in_digits s c
  unfolding in_digits
  no_mark s h = rw (ne_eqb c (char "e") (λ e. h (inr e)), ne_eqb c (char "E") (λ e. h (inl e)))

  module _ {s : Stage} where
    pub start_minus : s ≡ Start → c ≡ char "-" → Minus ≡ stage_after s c
    unfolding stage_after
    start_minus e h = rw (e, eq-eqb c (char "-") h)

    pub start_digit : s ≡ Start → (c ≡ char "-" → ⊥) → on_digit Whole c ≡ stage_after s c
    unfolding stage_after
    start_digit e h = rw (e, ne_eqb c (char "-") h)

    pub minus_digit : s ≡ Minus → on_digit Whole c ≡ stage_after s c
    unfolding stage_after
    minus_digit e = rw e

    pub whole_point : s ≡ Whole → c ≡ char "." → DecimalPoint ≡ stage_after s c
    unfolding stage_after
    whole_point e h = rw (e, eq-eqb c (char ".") h)

    pub whole_on : s ≡ Whole → (c ≡ char "." → ⊥) → in_digits Whole c ≡ stage_after s c
    unfolding stage_after
    whole_on e h = rw (e, ne_eqb c (char ".") h)

    pub point_on : s ≡ DecimalPoint → in_digits Fraction c ≡ stage_after s c
    unfolding stage_after
    point_on e = rw e

    pub fraction_on : s ≡ Fraction → in_digits Fraction c ≡ stage_after s c
    unfolding stage_after
    fraction_on e = rw e

    pub mark_sign : s ≡ ExponentMark → (c ≡ char "+") ⊎ (c ≡ char "-") → ExponentSign ≡ stage_after s c
    unfolding stage_after
    mark_sign e h = rw e (⊎_elim (λ q. rw q) (λ q. rw q) h)

    pub mark_digit : s ≡ ExponentMark → ((c ≡ char "+") ⊎ (c ≡ char "-") → ⊥) → on_digit Exponent c ≡ stage_after s c
    unfolding stage_after
    mark_digit e h = rw (e, ne_eqb c (char "+") (λ q. h (inl q)), ne_eqb c (char "-") (λ q. h (inr q)))

    pub sign_digit : s ≡ ExponentSign → on_digit Exponent c ≡ stage_after s c
    unfolding stage_after
    sign_digit e = rw e

    pub exponent_digit : s ≡ Exponent → on_digit Exponent c ≡ stage_after s c
    unfolding stage_after
    exponent_digit e = rw e

    pub stuck_on : s ≡ Stuck → Stuck ≡ stage_after s c
    unfolding stage_after
    stuck_on e = rw e
