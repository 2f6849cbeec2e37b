-- The occurrences left, checked from what the earlier ones made, answer what all of them answer from the start.
use mathlib.Core.Path.{◌≡◌, refl, ap, sym, ◌∙◌}
use mathlib.Core.Bool.{Bool, true, false, cond, ◌||◌, or-true, or-false, or_assoc}
use mathlib.Core.List.{List, [], ◌∷◌, map}
use Prim.Native.Nat.{ℕ, suc, ◌+◌, ◌-◌, ◌≤◌, ◌<◌}
use native.Mathlib.Omega.{arith}
use native.Mathlib.Numerals.{add-one}
use lib.Dec.{eqb}
use lib.IntN.{ℤ}
use borrow.Author.Tests.{ne_eqb}
use Rattle.laws.specs.Lists.{any}
use Rattle.outcomes.specs.Outcome.{Outcome, refused, answer, and_then}
use Rattle.outcomes.specs.Values.{Value}
use Rattle.curve_values.specs.Scale.{Scale, on_scale}
use Rattle.announced.specs.Announced.{after_reading, after_readings}
use Rattle.severity.specs.declared.Severity.{Severity}
use Rattle.announced.specs.declared.Progress.{Progress}
use Rattle.occurrences.specs.Values.{occurrences_from, integer_in, raws_of, is_refusal, answered, unless_refused, values_on}
use Rattle.occurrences.specs.Pass.{after_refusal, after_value, after_values, ended}
use Rattle.occurrences.specs.declared.Pass.{Pass}

-- What a refusal makes of a pass

module _ (n : ℕ) (pass : Pass) where
  pub after_off : n ≡ 30 → record { progress = pass.progress; off = true; beyond = pass.beyond } ≡ after_refusal n pass
  unfolding after_refusal
  after_off e = rw (e, or-true pass.off, or-false pass.beyond)

  pub after_beyond : n ≡ 31 → record { progress = pass.progress; off = pass.off; beyond = true } ≡ after_refusal n pass
  unfolding after_refusal
  after_beyond e = rw (e, or-true pass.beyond, or-false pass.off)

  pub after_other : (n ≡ 30 → ⊥) → (n ≡ 31 → ⊥) → pass ≡ after_refusal n pass
  unfolding after_refusal
  after_other h k = rw (ne_eqb n 30 h, ne_eqb n 31 k, or-false pass.off, or-false pass.beyond)

-- what a value makes of it
module _ (nbchck : ℕ) (severity : ℤ → Severity) (pass : Pass) {value : Outcome ℤ} where
  pub after_number : {z : ℤ} {t : Severity} {r : Progress} → value ≡ answer z → t ≡ severity z → r ≡ after_reading nbchck t pass.progress
      → record { progress = r; off = pass.off; beyond = pass.beyond } ≡ after_value nbchck severity value pass
  unfolding after_value
  after_number e t h = rw (e, h, t)

  pub after_refused : {n m place : ℕ} {r : Pass} → value ≡ refused n place → m ≡ n → r ≡ after_refusal m pass → r ≡ after_value nbchck severity value pass
  unfolding after_value
  after_refused e q h = rw (e, ← q) h

-- nothing met so far
abbrev pub started : Progress → Pass
started progress = record { progress = progress; off = false; beyond = false }

module _ (nbchck : ℕ) (severity : ℤ → Severity) where
  -- the answer of a pass after some values, by whether 30 or 31 was met so far or is met in them
  ended_is : (values : List (Outcome ℤ)) (pass : Pass)
      → (
      ended (after_values nbchck severity values pass)
      ≡ cond (pass.off || any (is_refusal 30) values) (refused 30 0)
      (cond (pass.beyond || any (is_refusal 31) values) (refused 31 0)
      (answer (after_readings nbchck (map severity (answered values)) pass.progress)))
      )
  unfolding ended after_values after_value after_refusal is_refusal answered after_readings
  ended_is [] pass = rw (or-false pass.off, or-false pass.beyond)
  ended_is (answer z ∷ later) pass = ended_is later (after_value nbchck severity (answer z) pass)
  ended_is (refused n place ∷ later) pass =
      ended_is later (after_value nbchck severity (refused n place) pass)
      ∙ rw (or_assoc pass.off (eqb n 30) (any (is_refusal 30) later), or_assoc pass.beyond (eqb n 31) (any (is_refusal 31) later))

  answer_is : (progress : Progress) (off beyond : Bool) (values : List ℤ)
      → (
      cond off (refused 30 0) (cond beyond (refused 31 0) (answer (after_readings nbchck (map severity values) progress)))
      ≡ and_then (cond off (refused 30 0) (cond beyond (refused 31 0) (answer values))) (λ zs. answer (after_readings nbchck (map severity zs) progress))
      )
  unfolding and_then
  answer_is progress true beyond values = refl
  answer_is progress false true values = refl
  answer_is progress false false values = refl

  none_passed : (progress : Progress) → ended (started progress) ≡ and_then (answer []) (λ values. answer (after_readings nbchck (map severity values) progress))
  unfolding ended and_then after_readings
  none_passed progress = refl

  module _ (scale : Scale) (valid : Bool) where
    -- the answer after these raw values, from what the earlier ones made; invalid ones make nothing
    unfoldable pub passed : Outcome (List ℤ) → Pass → Outcome Progress
    passed raws pass = and_then raws (λ zs. ended (cond valid (after_values nbchck severity (map (on_scale scale) zs) pass) pass))

    start_passed : (t : Bool) (progress : Progress) (zs : List ℤ)
        → (
        ended (cond t (after_values nbchck severity (map (on_scale scale) zs) (started progress)) (started progress))
        ≡ and_then (values_on scale t zs) (λ values. answer (after_readings nbchck (map severity values) progress))
        )
    unfolding values_on unless_refused
    start_passed true progress zs =
        let values = map (on_scale scale) zs in
        ended_is values (started progress) ∙ answer_is progress (any (is_refusal 30) values) (any (is_refusal 31) values) (answered values)
    start_passed false progress zs = none_passed progress

    all_passed : (raws : Outcome (List ℤ)) (progress : Progress)
        → (
        passed raws (started progress)
        ≡ and_then raws (λ zs. and_then (values_on scale valid zs) (λ values. answer (after_readings nbchck (map severity values) progress)))
        )
    unfolding passed and_then
    all_passed (refused n place) progress = refl
    all_passed (answer zs) progress = start_passed valid progress zs

    -- an occurrence, and those later
    more_valid : (z : ℤ) (later : Outcome (List ℤ)) (pass : Pass) → valid ≡ true
        → passed (and_then later (λ zs. answer (z ∷ zs))) pass ≡ passed later (after_value nbchck severity (on_scale scale z) pass)
    unfolding passed and_then after_values
    more_valid z (refused n place) pass v = refl
    more_valid z (answer zs) pass v = rw v

    more_invalid : (z : ℤ) (later : Outcome (List ℤ)) (pass : Pass) → valid ≡ false → passed (and_then later (λ zs. answer (z ∷ zs))) pass ≡ passed later pass
    unfolding passed and_then
    more_invalid z (refused n place) pass v = refl
    more_invalid z (answer zs) pass v = rw v

    module _ (raw : ℕ → Outcome Value) (nbocc : ℕ) where
      -- the raw values from occurrence k on
      abbrev pub left : (k : ℕ) → Outcome (List ℤ)
      left k = raws_of raw (occurrences_from k (nbocc - k))

      -- those left answer what all answered from the start
      abbrev pub Passing : (start pass : Pass) (k : ℕ) → Type 0
      Passing start pass k = passed (left k) pass ≡ passed (raws_of raw (occurrences_from 0 nbocc)) start

      left_more : (k : ℕ) → k < nbocc → left k ≡ and_then (and_then (raw k) integer_in) (λ z. and_then (left (k + 1)) (λ zs. answer (z ∷ zs)))
      unfolding raws_of occurrences_from
      left_more k h = let e : nbocc - k ≡ suc (nbocc - (k + 1)) = omega arith in rw (e, ← add-one k)

      left_one : (k : ℕ) {z : ℤ} → k < nbocc → and_then (raw k) integer_in ≡ answer z → left k ≡ and_then (left (k + 1)) (λ zs. answer (z ∷ zs))
      unfolding and_then
      left_one k h e = left_more k h ∙ rw e

      left_refused : (k : ℕ) {n place : ℕ} → k < nbocc → and_then (raw k) integer_in ≡ refused n place → left k ≡ refused n place
      unfolding and_then
      left_refused k h e = left_more k h ∙ rw e

      pub passing_start : (start : Pass) → Passing start start 0
      passing_start start = let e : nbocc - 0 ≡ nbocc = omega arith in rw e

      module _ (start pass : Pass) (k : ℕ) (so_far : Passing start pass k) where
        pub passing_refused : {n place : ℕ} → k < nbocc → and_then (raw k) integer_in ≡ refused n place
            → refused n place ≡ passed (raws_of raw (occurrences_from 0 nbocc)) start
        unfolding passed and_then
        passing_refused h e = sym (ap (λ (raws : Outcome (List ℤ)). passed raws pass) (left_refused k h e)) ∙ so_far

        pub passing_valid : {z : ℤ} {next : Pass} → k < nbocc → and_then (raw k) integer_in ≡ answer z → valid ≡ true
            → next ≡ after_value nbchck severity (on_scale scale z) pass → Passing start next (k + 1)
        passing_valid {z} h e v n =
            ap (passed (left (k + 1))) n
            ∙ sym (ap (λ (raws : Outcome (List ℤ)). passed raws pass) (left_one k h e) ∙ more_valid z (left (k + 1)) pass v)
            ∙ so_far

        pub passing_invalid : {z : ℤ} {next : Pass} → k < nbocc → and_then (raw k) integer_in ≡ answer z → valid ≡ false → next ≡ pass
            → Passing start next (k + 1)
        passing_invalid {z} h e v n =
            ap (passed (left (k + 1))) n
            ∙ sym (ap (λ (raws : Outcome (List ℤ)). passed raws pass) (left_one k h e) ∙ more_invalid z (left (k + 1)) pass v)
            ∙ so_far

        same_pass : (t : Bool) → ended (cond t pass pass) ≡ ended pass
        same_pass true = refl
        same_pass false = refl

        pub passing_done : nbocc ≤ k → ended pass ≡ passed (raws_of raw (occurrences_from 0 nbocc)) start
        unfolding passed and_then raws_of occurrences_from after_values
        passing_done h = let e : nbocc - k ≡ 0 = omega arith in sym (same_pass valid) ∙ (rw e at so_far)

      -- from the start, by the checks that the severity is of
      pub passing_all : {n : ℕ} (progress : Progress) → nbocc ≡ n
          → (
          passed (raws_of raw (occurrences_from 0 nbocc)) (started progress)
          ≡ and_then (raws_of raw (occurrences_from 0 n)) (λ raws.
          and_then (values_on scale valid raws) (λ values.
          answer (after_readings nbchck (map severity values) progress)))
          )
      passing_all progress e = rw e (all_passed (raws_of raw (occurrences_from 0 _)) progress)
