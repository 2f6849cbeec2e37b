-- 28 of the values of a packet that is taken: the first occurrence that isn't there starts in the byte that is told.
use mathlib.Core.Path.{◌≡◌, refl, sym, ap, ◌∙◌}
use mathlib.Core.Bool.{Bool, true, false}
use mathlib.Core.List.{List, [], ◌∷◌}
use Prim.Native.Nat.{ℕ, ◌/◌, ◌<◌}
use native.Mathlib.Decide.{dec_lt}
use native.Mathlib.Omega.{arith}
use lib.Dec.{ltb}
use lib.IntN.{ℤ}
use lib.ListN.{length}
use Rattle.laws.proofs.Cases.{bool_cases}
use Rattle.name_bytes.specs.Names.{name_of}
use Rattle.decoding.specs.Records.{ocf_row}
use Rattle.rows.specs.declared.records.PlfRow.{PlfRow}
use Rattle.rows.specs.declared.records.PcfRow.{PcfRow}
use Rattle.outcomes.specs.Outcome.{Outcome, answer, refused, and_then}
use Rattle.database.specs.GoodRows.{of_tables}
use Rattle.wire_reals.specs.Reals.{is_real_type}
use Rattle.raw_values.specs.RawValues.{is_string, start_of, raw_of}
use Rattle.parameters.specs.Located.{by_lines}
use Rattle.readings.specs.Readings.{validity}
use Rattle.curve_values.specs.Scale.{Scale}
use Rattle.limit_state.specs.declared.state.LimitState.{LimitState}
use Rattle.occurrences.specs.Values.{occurrences_from, raws_of, values_on, scale_under, values_of}
use Rattle.occurrences.proofs.WholeLaws.{no_string, no_real}
use Rattle.at_verdicts.specs.Fields.{is_there}
use Rattle.at_verdicts.specs.Placed.{plf_of, pcf_of}
use Rattle.at_verdicts.specs.Taken.{Taken}
use Rattle.at_verdicts.specs.StepValues.{StepLeaves}
use Rattle.at_verdicts.proofs.NumberLaws.{number_in, never_one}
use Rattle.at_verdicts.proofs.ParameterRows.{parameter_width, ocf_parameter}
use Rattle.at_verdicts.proofs.StepNumbers.{on_numbers}
use Rattle.at_verdicts.proofs.StepTaken.{values_in}
use Rattle.at_verdicts.proofs.ValueLaws.{integer_is, integer_refused}
use Rattle.at_verdicts.proofs.FieldCases.{headed_short, raw_out, raw_number}
use Rattle.at_verdicts.proofs.Occurrences.{integer_at, Stopped, Raws, raws_are}

pub refused≢answer : {A : Type 0} (o : Outcome A) (n place : ℕ) (a : A) → o ≡ refused n place → o ≡ answer a → ⊥
refused≢answer o n place a e f = let z : ◌≡◌ {A = ℕ} 0 1 = cc in omega arith

module _ (texts : List (List ℕ)) (p name : List ℕ) (s : LimitState) (t : Taken (of_tables texts) p name s) where
  abbrev pub plf : PlfRow
  plf = plf_of t.at

  abbrev pub pcf : PcfRow
  pcf = pcf_of t.at

  abbrev pub scale : Scale
  scale = scale_under (of_tables texts) (ocf_row t.ocf.bytes).inter pcf.curtx

  abbrev pub valid : Bool
  valid = validity (of_tables texts) p t.at.identity.spid pcf

  -- An occurrence

  other : is_string pcf.ptc ≡ false
  other = no_string pcf.ptc (ocf_parameter texts (name_of name) t.ocf t.at.pcf t.has_limits t.at.described)

  plain : is_real_type pcf.ptc ≡ false
  plain = no_real pcf.ptc (ocf_parameter texts (name_of name) t.ocf t.at.pcf t.has_limits t.at.described)

  pub taken_short : ltb 8192 (length p) ≡ false
  taken_short = headed_short p t.head t.headed

  module _ (k : ℕ) (below : k < plf.nbocc) where
    pub at_out : is_there p plf pcf k ≡ false → integer_at (raw_of p plf pcf) k ≡ refused 28 (start_of plf k / 8)
    at_out f =
        let w = parameter_width texts (name_of name) t.at.pcf t.at.described in
        integer_refused (raw_of p plf pcf k) 28 (start_of plf k / 8) (raw_out p plf pcf w.0 w.1 taken_short k below other f)

    pub at_here : is_there p plf pcf k ≡ true → (z : ℤ) × (integer_at (raw_of p plf pcf) k ≡ answer z)
    at_here e =
        let w = parameter_width texts (name_of name) t.at.pcf t.at.described in
        let r = raw_number p plf pcf w.0 w.1 taken_short k below other plain e in
        (r.0, integer_is (raw_of p plf pcf k) r.0 r.1)

    -- what answers is there, and what is refused isn't
    pub answers_there : (z : ℤ) → integer_at (raw_of p plf pcf) k ≡ answer z → is_there p plf pcf k ≡ true
    answers_there z e =
        bool_cases (is_there p plf pcf k) (λ h. h)
        (λ f. absurd (refused≢answer (integer_at (raw_of p plf pcf) k) 28 (start_of plf k / 8) z (at_out f) e))

    pub refused_out : (n place : ℕ) → integer_at (raw_of p plf pcf) k ≡ refused n place → is_there p plf pcf k ≡ false
    refused_out n place e =
        bool_cases (is_there p plf pcf k) (λ h. let w = at_here h in absurd (refused≢answer (integer_at (raw_of p plf pcf) k) n place w.0 e w.1))
        (λ f. f)

  -- All of them

  leaves : (byte : ℕ) → values_in t ≡ refused 28 byte → StepLeaves (of_tables texts) p name s byte
  unfolding values_of by_lines and_then
  leaves byte e = go (raws_of (raw_of p plf pcf) (occurrences_from 0 plf.nbocc)) (raws_are (raw_of p plf pcf) 0 plf.nbocc) e
    where
      go : (r : Outcome (List ℤ)) → Raws (raw_of p plf pcf) 0 plf.nbocc r → and_then r (values_on scale valid) ≡ refused 28 byte
          → StepLeaves (of_tables texts) p name s byte
      go (answer zs) h e =
          absurd (never_one 28 (30 ∷ 31 ∷ []) (values_on scale valid zs) refl (on_numbers (30 ∷ 31 ∷ []) refl refl scale valid zs)
          (ap (λ (o : Outcome (List ℤ)). number_in o) e))
      go (refused m q) h e =
          let b : h.at < plf.nbocc = omega (arith, h.below) in
          let f = refused_out h.at b m q h.is in
          let o = at_out h.at b f in
          let i = h.is in
          record {
            taken = t;
            k = h.at;
            below = b;
            outside = f;
            first = λ j l. let w = h.before j (omega arith) l in answers_there j (omega arith) w.0 w.1;
            start = cc;
          }

  left : (byte k : ℕ) → k < plf.nbocc → is_there p plf pcf k ≡ false → ((j : ℕ) → j < k → is_there p plf pcf j ≡ true) → start_of plf k / 8 ≡ byte
      → values_in t ≡ refused 28 byte
  unfolding values_of by_lines and_then
  left byte k b f first start = go (raws_of (raw_of p plf pcf) (occurrences_from 0 plf.nbocc)) (raws_are (raw_of p plf pcf) 0 plf.nbocc)
    where
      out : integer_at (raw_of p plf pcf) k ≡ refused 28 (start_of plf k / 8)
      out = at_out k b f

      never : (z : ℤ) → integer_at (raw_of p plf pcf) k ≡ answer z → ⊥
      never z e = refused≢answer (integer_at (raw_of p plf pcf) k) 28 (start_of plf k / 8) z out e

      stops : (m q : ℕ) (h : Stopped (raw_of p plf pcf) 0 plf.nbocc m q) → Dec (h.at < k) → Dec (k < h.at)
          → ◌≡◌ {A = Outcome (List ℤ)} (refused m q) (refused 28 byte)
      stops m q h (yes l) d =
          let w = at_here h.at (omega arith) (first h.at l) in
          absurd (refused≢answer (integer_at (raw_of p plf pcf) h.at) m q w.0 h.is w.1)
      stops m q h (no l) (yes r) = let w = h.before k (omega arith) r in absurd (never w.0 w.1)
      stops m q h (no l) (no r) =
          let same : h.at ≡ k = omega arith in
          let i : integer_at (raw_of p plf pcf) k ≡ refused m q = ap (integer_at (raw_of p plf pcf)) (sym same) ∙ h.is in
          let o = out in
          cc

      go : (r : Outcome (List ℤ)) → Raws (raw_of p plf pcf) 0 plf.nbocc r → and_then r (values_on scale valid) ≡ refused 28 byte
      go (answer zs) h = let w = h.has k (omega arith) (omega arith) in absurd (never w.0 w.1)
      go (refused m q) h = stops m q h (dec_lt h.at k) (dec_lt k h.at)

-- 01: "In a limit step 28 is sought over all occurrences first"
module _ (texts : List (List ℕ)) (p name : List ℕ) (s : LimitState) (byte : ℕ) where
  pub values_28 : ((t : Taken (of_tables texts) p name s) × (values_in t ≡ refused 28 byte)) → StepLeaves (of_tables texts) p name s byte
  values_28 r = leaves texts p name s r.0 byte r.1

  pub leaving_28 : StepLeaves (of_tables texts) p name s byte → (t : Taken (of_tables texts) p name s) × (values_in t ≡ refused 28 byte)
  leaving_28 u = (u.taken, left texts p name s u.taken byte u.k u.below u.outside u.first u.start)
