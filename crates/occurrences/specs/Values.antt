-- The values of a packet that are checked.
use Rattle.std.specs.Prelude.{ℕ, zero, suc, ◌≡◌, refl, Bool, true, false, cond, List, [], ◌∷◌, map, eqb, ℤ, pos}
use Rattle.laws.specs.Lists.{any}
use Rattle.rows.specs.declared.letters.LimitValue.{LimitValue}
use Rattle.rows.specs.declared.letters.LimitValue.TheVariants.{Raw, Engineering}
use Rattle.rows.specs.declared.records.OptionalCurve.{OptionalCurve}
use Rattle.rows.specs.declared.records.OcfRow.{OcfRow}
use Rattle.outcomes.specs.Outcome.{Outcome, refused, answer, and_then}
use Rattle.outcomes.specs.Values.{Value, number, part, bits}
use Rattle.database.specs.Rows.{Rows}
use Rattle.raw_values.specs.RawValues.{raw_of}
use Rattle.parameters.specs.Located.{Located}
use Rattle.readings.specs.Readings.{validity}
use Rattle.curve_values.specs.Scale.{Scale, as_read, scale_of, on_scale}

-- n occurrences from k on
unfoldable pub occurrences_from : (k n : ℕ) → List ℕ
occurrences_from k zero = []
occurrences_from k (suc n) = k ∷ occurrences_from (suc k) n

-- a parameter that has limits is of PTC 1-4, no string and no real: see `whole_raw`. These are answered by 26,
-- as what has no field
unfoldable pub integer_in : Value → Outcome ℤ
integer_in (number z) = answer z
integer_in (part start bytes) = refused 26 0
integer_in (bits pattern width) = refused 26 0

-- 01: "In a limit step 28 is sought over all occurrences first": the raw values of all,
-- or the refusal of the first that has one
unfoldable pub raws_of : (raw : ℕ → Outcome Value) → (occurrences : List ℕ) → Outcome (List ℤ)
raws_of raw [] = answer []
raws_of raw (k ∷ later) =
    and_then (and_then (raw k) integer_in) (λ z.
    and_then (raws_of raw later) (λ zs.
    answer (z ∷ zs)))

unfoldable pub is_refusal : (wanted : ℕ) → Outcome ℤ → Bool
is_refusal wanted (refused n place) = eqb n wanted
is_refusal wanted (answer z) = false

unfoldable pub answered : List (Outcome ℤ) → List ℤ
answered [] = []
answered (refused n place ∷ later) = answered later
answered (answer z ∷ later) = z ∷ answered later

-- 01: "then 30, then 31"
unfoldable pub unless_refused : List (Outcome ℤ) → Outcome (List ℤ)
unless_refused values =
    cond (any (is_refusal 30) values) (refused 30 0)
    (cond (any (is_refusal 31) values) (refused 31 0)
    (answer (answered values)))

-- 01: 30 and 31 "only on valid occurrences under INTER C"; "Invalid readings change nothing": none of them is checked
unfoldable pub values_on : Scale → (valid : Bool) → (raws : List ℤ) → Outcome (List ℤ)
values_on scale valid raws = cond valid (unless_refused (map (on_scale scale) raws)) (answer [])

-- 01: "the value is the raw one under INTER U, the engineering one under C"
unfoldable pub scale_under : Rows → LimitValue → OptionalCurve → Scale
scale_under rows Raw curtx = as_read
scale_under rows Engineering curtx = scale_of rows curtx

-- 01: "Occurrences go in order": the values that are checked of occurrences 0 to NBOCC - 1, or 28, 30, 31
unfoldable pub values_of : Rows → List ℕ → (spid : ℕ) → OcfRow → Located → Outcome (List ℤ)
values_of rows p spid ocf at =
    and_then (raws_of (raw_of p at.plf at.pcf) (occurrences_from 0 at.plf.nbocc))
    (values_on (scale_under rows ocf.inter at.pcf.curtx) (validity rows p spid at.pcf))

-- a field that leaves the packet refuses all, the first such one; a 30 comes before a 31 of an earlier occurrence
abbrev raws : ℕ → Outcome Value
raws zero = answer (number (pos 7))
raws (suc k) = refused 28 k

pub record Examples : Type 0 where
  pub in_order : occurrences_from 0 3 ≡ 0 ∷ 1 ∷ 2 ∷ []
  pub inside : raws_of raws (0 ∷ 0 ∷ []) ≡ answer (pos 7 ∷ pos 7 ∷ [])
  pub leaves : raws_of raws (0 ∷ 13 ∷ 15 ∷ []) ≡ refused 28 12
  pub off_the_curve : unless_refused (refused 31 0 ∷ answer (pos 1) ∷ refused 30 0 ∷ []) ≡ refused 30 0
  pub beyond : unless_refused (answer (pos 1) ∷ refused 31 0 ∷ []) ≡ refused 31 0
  pub valid : values_on as_read true (pos 8 ∷ pos 9 ∷ []) ≡ answer (pos 8 ∷ pos 9 ∷ [])
  pub invalid : values_on as_read false (pos 8 ∷ pos 9 ∷ []) ≡ answer []

pub examples : Examples
unfolding occurrences_from raws_of integer_in and_then unless_refused is_refusal answered values_on on_scale
examples = record { in_order = refl; inside = refl; leaves = refl; off_the_curve = refl; beyond = refl; valid = refl; invalid = refl }
