-- What a limit step is refused with once its rows are found: 20, 27 to 31, 35 and 36 only.
use mathlib.Core.Path.{◌≡◌, refl, sym, ◌∙◌}
use mathlib.Core.Bool.{Bool, true}
use mathlib.Core.List.{List, [], ◌∷◌, map}
use mathlib.Core.Option.{some}
use Prim.Native.Nat.{ℕ}
use lib.Dec.{eqb}
use lib.IntN.{ℤ}
use Rattle.laws.specs.Lists.{any}
use Rattle.laws.proofs.Cases.{cond_cases, false≢true}
use Rattle.name_bytes.specs.declared.Name.{Name}
use Rattle.widths.specs.Width.{width_of}
use Rattle.contradictions.specs.Contradictions.{is_whole}
use Rattle.rows.specs.declared.records.OcfRow.{OcfRow}
use Rattle.rows.specs.declared.records.PlfRow.{PlfRow}
use Rattle.rows.specs.declared.records.PcfRow.{PcfRow}
use Rattle.outcomes.specs.Outcome.{Outcome, and_then}
use Rattle.outcomes.specs.Values.{Value}
use Rattle.database.specs.Rows.{Rows}
use Rattle.headers.specs.declared.Head.{Head}
use Rattle.raw_values.specs.RawValues.{raw_of}
use Rattle.parameters.specs.Located.{Located}
use Rattle.curve_values.specs.Scale.{Scale, on_scale}
use Rattle.limit_state.specs.State.{is_a_state, is_newer}
use Rattle.limit_state.specs.declared.state.LimitState.{LimitState}
use Rattle.occurrences.specs.Values.{occurrences_from, integer_in, raws_of, is_refusal, unless_refused, values_on, values_of}
use Rattle.occurrences.proofs.WholeLaws.{no_string, no_real}
use Rattle.accepting.specs.Time.{state_in, in_time}
use Rattle.stepping.specs.Step.{step_at}
use Rattle.at_verdicts.proofs.NumberLaws.{Numbered, one_more, one_then}
use Rattle.at_verdicts.proofs.PacketNumbers.{reading, raw_made}

-- 01: "36, 35, 28, 30, 31", and what a reading is refused with
abbrev pub checking : List ℕ
checking = 20 ∷ 27 ∷ 28 ∷ 29 ∷ 30 ∷ 31 ∷ 35 ∷ 36 ∷ []

-- 01: "34"
pub state_numbers : (s : LimitState) → Numbered (34 ∷ []) (state_in s)
unfolding state_in
state_numbers s = cond_cases (λ (o : Outcome LimitState). Numbered (34 ∷ []) o) (is_a_state s) (λ _. refl) (λ _. refl)

-- 01: "36, 35"
pub time_numbers : (numbers : List ℕ) → any (eqb 35) (0 ∷ numbers) ≡ true → any (eqb 36) (0 ∷ numbers) ≡ true → (s : LimitState) (head : Head)
    → Numbered numbers (in_time s head)
unfolding in_time
time_numbers numbers x y s head =
    cond_cases (λ (o : Outcome LimitState). Numbered numbers o) s.fresh (λ _. refl)
    (λ _. cond_cases (λ (o : Outcome LimitState). Numbered numbers o) (eqb head.apid s.apid)
    (λ _. cond_cases (λ (o : Outcome LimitState). Numbered numbers o) (is_newer head.count s.count) (λ _. refl) (λ _. x))
    (λ _. y))

-- The values of a parameter of PTC 1-4

integer_numbers : (p : List ℕ) (plf : PlfRow) (pcf : PcfRow) (n : ℕ) → width_of pcf.ptc pcf.pfc ≡ some n → is_whole pcf.ptc ≡ true
    → (k : ℕ) → Numbered checking (and_then (raw_of p plf pcf k) integer_in)
unfolding integer_in
integer_numbers p plf pcf n wide whole k =
    one_more reading (30 ∷ 31 ∷ 35 ∷ 36 ∷ []) (and_then (raw_of p plf pcf k) integer_in)
    (raw_made integer_in (λ z. refl) p plf pcf k n wide (λ t start bytes. absurd (false≢true (sym (no_string pcf.ptc whole) ∙ t)))
    (λ t z. absurd (false≢true (sym (no_real pcf.ptc whole) ∙ t))))

raws_numbers : (raw : ℕ → Outcome Value) → ((k : ℕ) → Numbered checking (and_then (raw k) integer_in)) → (ks : List ℕ) → Numbered checking (raws_of raw ks)
unfolding raws_of
raws_numbers raw h [] = refl
raws_numbers raw h (k ∷ ks) =
    one_then checking (and_then (raw k) integer_in) _ (h k) (λ z _.
    one_then checking (raws_of raw ks) _ (raws_numbers raw h ks) (λ zs _. refl))

-- 01: "30, 31"
module _ (numbers : List ℕ) (x : any (eqb 30) (0 ∷ numbers) ≡ true) (y : any (eqb 31) (0 ∷ numbers) ≡ true) where
  unless_numbers : (values : List (Outcome ℤ)) → Numbered numbers (unless_refused values)
  unfolding unless_refused
  unless_numbers values =
      cond_cases (λ (o : Outcome (List ℤ)). Numbered numbers o) (any (is_refusal 30) values) (λ _. x)
      (λ _. cond_cases (λ (o : Outcome (List ℤ)). Numbered numbers o) (any (is_refusal 31) values) (λ _. y) (λ _. refl))

  pub on_numbers : (scale : Scale) (valid : Bool) (raws : List ℤ) → Numbered numbers (values_on scale valid raws)
  unfolding values_on
  on_numbers scale valid raws =
      cond_cases (λ (o : Outcome (List ℤ)). Numbered numbers o) valid (λ _. unless_numbers (map (on_scale scale) raws)) (λ _. refl)

module _ (rows : Rows) (p : List ℕ) (spid : ℕ) (ocf : OcfRow) (at : Located) (n : ℕ)
    (wide : width_of at.pcf.ptc at.pcf.pfc ≡ some n) (whole : is_whole at.pcf.ptc ≡ true) where
  values_numbers : Numbered checking (values_of rows p spid ocf at)
  unfolding values_of
  values_numbers =
      one_then checking (raws_of (raw_of p at.plf at.pcf) (occurrences_from 0 at.plf.nbocc)) _
      (raws_numbers (raw_of p at.plf at.pcf) (integer_numbers p at.plf at.pcf n wide whole) (occurrences_from 0 at.plf.nbocc))
      (λ raws _. on_numbers checking refl refl _ _ raws)

  pub step_numbers : (name : Name) (s : LimitState) (head : Head) → Numbered checking (step_at rows p name s head spid ocf at)
  unfolding step_at
  step_numbers name s head =
      one_then checking (in_time s head) _ (time_numbers checking refl refl s head) (λ old _.
      one_then checking (values_of rows p spid ocf at) _ values_numbers (λ values _. refl))
