-- Laws of the loop that walks over a text.
use mathlib.Core.Path.{◌≡◌, refl, sym, ap, ◌∙◌, subst}
use mathlib.Core.List.{List}
use mathlib.Core.Bool.{true, false}
use Prim.Native.Nat.{ℕ, ◌+◌, ◌<◌, ◌≤◌}
use native.Mathlib.Omega.{arith}
use lib.ListN.{length, get_or, drop, drop_of_length-le}
use borrow.Author.Tests.{lt-ltb, le-ltb}
use Rattle.laws.proofs.Lists.{split}
use Rattle.notation.specs.Stages.{stage_after, stage_from, is_coefficient}
use Rattle.notation.specs.Scientific.{unwritten, with_character, scientific_from, parsed, parsed_of, Short}
use Rattle.notation.specs.declared.Stage.{Stage}
use Rattle.notation.specs.declared.Stage.TheVariants.{Start}
use Rattle.notation.specs.declared.Scientific.{Scientific}
use Rattle.notation.specs.declared.Parsed.TheVariants.{Parts, NotCoefficient, TooWide}
use Rattle.notation.proofs.Room.{short_none, short_after}

-- i characters are walked: what is left goes on to what the whole text is
pub record Walk (t : List ℕ) (s : Stage) (n : Scientific) (i : ℕ) : Type 0 where
  pub within : i ≤ length t
  pub short : Short i n
  pub stage : stage_from s (drop i t) ≡ stage_from Start t
  pub parts : scientific_from s n (drop i t) ≡ scientific_from Start unwritten t

module _ (t : List ℕ) where
  pub walk_start : Walk t Start unwritten 0
  walk_start = record { within = omega arith; short = short_none; stage = refl; parts = refl }

  pub too_wide : 14 < length t → TooWide ≡ parsed_of t
  unfolding parsed_of
  too_wide h = rw (lt-ltb 14 (length t) h)

  module _ {s : Stage} {n : Scientific} {i : ℕ} (w : Walk t s n i) where
    pub walk_more : (s' : Stage) (n' : Scientific) → i < length t → s' ≡ stage_after s (get_or t i 0) → n' ≡ with_character n s' (get_or t i 0) → Walk t s' n' (i + 1)
    unfolding stage_from scientific_from
    walk_more s' n' h p q =
        let c = get_or t i 0 in
        let e : n' ≡ with_character n (stage_after s c) c = q ∙ ap (λ x. with_character n x c) p in
        record {
          within = omega arith;
          short = subst (Short (i + 1)) (sym e) (short_after i c n w.short s);
          stage = rw p (ap (stage_from s) (sym (split t i 0 h)) ∙ w.stage);
          parts = rw (e, p) (ap (scientific_from s n) (sym (split t i 0 h)) ∙ w.parts);
        }

    module _ (short : length t ≤ 14) (done : length t ≤ i) where
      stage_is : s ≡ stage_from Start t
      unfolding stage_from
      stage_is = ap (stage_from s) (sym (drop_of_length-le t done)) ∙ w.stage

      parts_are : n ≡ scientific_from Start unwritten t
      unfolding scientific_from
      parts_are = ap (scientific_from s n) (sym (drop_of_length-le t done)) ∙ w.parts

      pub walk_good : is_coefficient s ≡ true → Parts n ≡ parsed_of t
      unfolding parsed_of parsed
      walk_good e = rw (le-ltb 14 (length t) short, ← stage_is, ← parts_are, e)

      pub walk_bad : is_coefficient s ≡ false → NotCoefficient ≡ parsed_of t
      unfolding parsed_of parsed
      walk_bad e = rw (le-ltb 14 (length t) short, ← stage_is, e)
