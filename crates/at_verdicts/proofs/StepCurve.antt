-- 30 and 31 of the values of a packet that is taken: a valid occurrence under INTER C is off its curve,
-- or its result out of range.
use mathlib.Core.Path.{◌≡◌, refl, sym, ap, ◌∙◌}
use mathlib.Core.Logic.{◌↔◌}
use mathlib.Core.Bool.{Bool, true, false, cond}
use mathlib.Core.List.{List, [], map}
use Rattle.std.specs.Prelude.{None}
use Prim.Native.Nat.{ℕ, ◌<◌}
use native.Mathlib.Omega.{arith}
use lib.IntN.{ℤ}
use Rattle.laws.specs.Lists.{any}
use Rattle.laws.proofs.Cases.{false≢true, false_of}
use Rattle.laws.proofs.Tests.{any_mem, any_witness}
use Rattle.name_bytes.specs.Names.{name_of}
use Rattle.decoding.specs.Records.{ocf_row}
use Rattle.rows.specs.declared.letters.Category.TheVariants.{Numeric}
use Rattle.rows.specs.declared.letters.LimitValue.TheVariants.{Engineering}
use Rattle.rows.specs.declared.records.PlfRow.{PlfRow}
use Rattle.rows.specs.declared.records.PcfRow.{PcfRow}
use Rattle.curves.specs.Line.{is_raw}
use Rattle.outcomes.specs.Outcome.{Outcome, answer, refused, and_then}
use Rattle.outcomes.specs.Values.{number}
use Rattle.database.specs.GoodRows.{of_tables}
use Rattle.raw_values.specs.RawValues.{raw_of}
use Rattle.parameters.specs.Located.{by_lines}
use Rattle.curve_values.specs.Scale.{scale_of, on_scale}
use Rattle.polynomial_curves.specs.Polynomials.{polynomial_for}
use Rattle.engineering.specs.Engineering.{engineered}
use Rattle.limit_state.specs.declared.state.LimitState.{LimitState}
use Rattle.occurrences.specs.Values.{occurrences_from, raws_of, is_refusal, unless_refused, values_on, scale_under, values_of}
use Rattle.at_verdicts.specs.Fields.{is_there}
use Rattle.at_verdicts.specs.OffCurve.{OffItsCurve, OutOfItsRange}
use Rattle.at_verdicts.specs.Taken.{Taken}
use Rattle.at_verdicts.specs.StepValues.{Calibrated, Occurs, StepOffCurve, StepOutOfRange}
use Rattle.at_verdicts.proofs.ParameterRows.{parameter_width, ocf_numeric}
use Rattle.at_verdicts.proofs.RawRange.{raw_range}
use Rattle.at_verdicts.proofs.ByCategory.{engineered_30, engineered_31}
use Rattle.at_verdicts.proofs.LimitCurve.{c_no_polynomial}
use Rattle.at_verdicts.proofs.StepTaken.{values_in}
use Rattle.at_verdicts.proofs.Occurrences.{integer_at, Each, Raws, raws_are}
use Rattle.at_verdicts.proofs.ValueLaws.{any_map, unless_30, unless_31, is_refusal_lem, scale_refused, scale_engineered, under_c_lem, integer_is, integer_of_lem}
use Rattle.at_verdicts.proofs.StepLeaving.{plf, pcf, scale, valid, at_out, at_here, answers_there, refused_out, refused≢answer}

module _ (texts : List (List ℕ)) (p name : List ℕ) (s : LimitState) (t : Taken (of_tables texts) p name s) where
  abbrev place : PlfRow
  place = plf texts p name s t

  abbrev kind : PcfRow
  kind = pcf texts p name s t

  abbrev made : ℤ → Outcome ℤ
  made z = on_scale (scale texts p name s t) z

  -- What is read

  -- the raw values of all occurrences, where they are valid, and what then refuses them
  record Asked (n : ℕ) : Type 0 where
    zs : List ℤ
    each : Each (raw_of p place kind) 0 place.nbocc zs
    is_valid : valid texts p name s t ≡ true
    refusal : unless_refused (map made zs) ≡ refused n 0

  asked : (n : ℕ) → (n ≡ 28 → ⊥) → values_in t ≡ refused n 0 → Asked n
  unfolding values_of by_lines and_then values_on
  asked n x e = go (raws_of (raw_of p place kind) (occurrences_from 0 place.nbocc)) (raws_are (raw_of p place kind) 0 place.nbocc) e
    where
      by : (zs : List ℤ) → Each (raw_of p place kind) 0 place.nbocc zs → (b : Bool) → valid texts p name s t ≡ b
          → cond b (unless_refused (map made zs)) (answer []) ≡ refused n 0 → Asked n
      by zs h true q e = record { zs = zs; each = h; is_valid = q; refusal = e }
      by zs h false q e = absurd (let z : ◌≡◌ {A = ℕ} 0 1 = cc in omega arith)

      go : (r : Outcome (List ℤ)) → Raws (raw_of p place kind) 0 place.nbocc r
          → and_then r (values_on (scale texts p name s t) (valid texts p name s t)) ≡ refused n 0 → Asked n
      go (answer zs) h e = by zs h (valid texts p name s t) refl e
      go (refused m q) h e =
          let b : h.at < place.nbocc = omega (arith, h.below) in
          let o = at_out texts p name s t h.at b (refused_out texts p name s t h.at b m q h.is) in
          let i = h.is in
          let z : n ≡ 28 = cc in
          absurd (x z)

  all_there : (zs : List ℤ) → Each (raw_of p place kind) 0 place.nbocc zs → (k : ℕ) → k < place.nbocc → is_there p place kind k ≡ true
  all_there zs h k b = let w = h.has k (omega arith) (omega arith) in answers_there texts p name s t k b w.0 w.1

  -- and the other way round
  all_read : ((k : ℕ) → k < place.nbocc → is_there p place kind k ≡ true) → valid texts p name s t ≡ true
      → (zs : List ℤ) × Each (raw_of p place kind) 0 place.nbocc zs × (values_in t ≡ unless_refused (map made zs))
  unfolding values_of by_lines and_then values_on
  all_read there v = go (raws_of (raw_of p place kind) (occurrences_from 0 place.nbocc)) (raws_are (raw_of p place kind) 0 place.nbocc)
    where
      go : (r : Outcome (List ℤ)) → Raws (raw_of p place kind) 0 place.nbocc r
          → (zs : List ℤ) × Each (raw_of p place kind) 0 place.nbocc zs
          × (and_then r (values_on (scale texts p name s t) (valid texts p name s t)) ≡ unless_refused (map made zs))
      go (answer zs) h = (zs, h, rw v)
      go (refused m q) h =
          let b : h.at < place.nbocc = omega (arith, h.below) in
          let w = at_here texts p name s t h.at b (there h.at b) in
          absurd (refused≢answer (integer_at (raw_of p place kind) h.at) m q w.0 h.is w.1)

  -- An occurrence that is refused

  read_raw : (k : ℕ) (z : ℤ) → raw_of p place kind k ≡ answer (number z) → is_raw z ≡ true
  read_raw k z e = let w = parameter_width texts (name_of name) t.at.pcf t.at.described in raw_range p place kind k w.0 w.1 z e

  numeric : kind.categ ≡ Numeric
  numeric = ocf_numeric texts (name_of name) t.ocf t.at.pcf t.has_limits t.at.described

  module _ (c : (ocf_row t.ocf.bytes).inter ≡ Engineering) (zs : List ℤ) (each : Each (raw_of p place kind) 0 place.nbocc zs)
      (n : ℕ) (so : ℤ → Type 0) (exactly : (raw : ℤ) → is_raw raw ≡ true → (engineered (of_tables texts) kind raw ≡ refused n 0) ↔ so raw) where
    no_polynomial : polynomial_for (of_tables texts) kind.curtx ≡ None
    no_polynomial = c_no_polynomial texts (name_of name) t.ocf t.at.pcf t.has_limits t.at.described c

    made_is : (z : ℤ) → made z ≡ on_scale (scale_of (of_tables texts) kind.curtx) z
    unfolding scale_under
    made_is z = rw c

    occurs : any (is_refusal n) (map made zs) ≡ true → Occurs t so
    occurs e =
        let w = any_witness (λ z. is_refusal n (made z)) zs (sym (any_map (is_refusal n) made zs) ∙ e) in
        let j = each.of w.1 in
        let r = integer_of_lem (raw_of p place kind j.0) w.0 j.3 in
        record {
          k = j.0;
          below = omega (arith, j.2);
          raw = w.0;
          read = r;
          is = (exactly w.0 (read_raw j.0 w.0 r)).0
              ((scale_engineered (of_tables texts) kind numeric no_polynomial w.0 n 0).0
              (sym (made_is w.0) ∙ scale_refused n (scale texts p name s t) w.0 w.2));
        }

    occurring : Occurs t so → any (is_refusal n) (map made zs) ≡ true
    occurring o =
        let h = each.has o.k (omega arith) (omega (arith, o.below)) in
        let r = integer_is (raw_of p place kind o.k) o.raw o.read in
        let i = h.1 in
        let q : h.0 ≡ o.raw = cc in
        let e = (scale_engineered (of_tables texts) kind numeric no_polynomial o.raw n 0).1
        ((exactly o.raw (read_raw o.k o.raw o.read)).1 o.is) in
        any_map (is_refusal n) made zs
        ∙ any_mem (λ z. is_refusal n (made z)) h.2
        (ap (λ (z : ℤ). is_refusal n (made z)) q ∙ is_refusal_lem n 0 (made o.raw) (made_is o.raw ∙ e))

  -- Which is off its curve, or out of range

  abbrev calibrated : (n m : ℕ) → (a : Asked n) → any (is_refusal m) (map made a.zs) ≡ true → Calibrated (of_tables texts) p name s
  calibrated n m a e =
      record {
        taken = t;
        there = all_there a.zs a.each;
        valid = a.is_valid;
        under_c = under_c_lem (of_tables texts) (ocf_row t.ocf.bytes).inter kind.curtx m a.zs e;
      }

  abbrev IsOff : ℤ → Type 0
  IsOff z = OffItsCurve (of_tables texts) kind z

  abbrev IsOut : ℤ → Type 0
  IsOut z = OutOfItsRange (of_tables texts) kind z

  off_exactly : (raw : ℤ) → is_raw raw ≡ true → (engineered (of_tables texts) kind raw ≡ refused 30 0) ↔ IsOff raw
  off_exactly = engineered_30 texts (name_of name) t.at.pcf t.at.described

  out_exactly : (raw : ℤ) → is_raw raw ≡ true → (engineered (of_tables texts) kind raw ≡ refused 31 0) ↔ IsOut raw
  out_exactly = engineered_31 texts (name_of name) t.at.pcf t.at.described

  pub values_30 : values_in t ≡ refused 30 0 → StepOffCurve (of_tables texts) p name s
  values_30 e =
      let a = asked 30 (λ z. omega arith) e in
      let f = (unless_30 (map made a.zs)).0 a.refusal in
      let c = calibrated 30 30 a f in
      record { calibrated = c; off = occurs c.under_c a.zs a.each 30 IsOff off_exactly f }

  pub values_31 : values_in t ≡ refused 31 0 → StepOutOfRange (of_tables texts) p name s
  values_31 e =
      let a = asked 31 (λ z. omega arith) e in
      let f = (unless_31 (map made a.zs)).0 a.refusal in
      let c = calibrated 31 31 a f.1 in
      record {
        calibrated = c;
        none_off = λ o. false≢true (sym f.0 ∙ occurring c.under_c a.zs a.each 30 IsOff off_exactly o);
        out = occurs c.under_c a.zs a.each 31 IsOut out_exactly f.1;
      }

  -- and the other way round
  module _ (there : (k : ℕ) → k < place.nbocc → is_there p place kind k ≡ true) (v : valid texts p name s t ≡ true)
      (c : (ocf_row t.ocf.bytes).inter ≡ Engineering) where
    pub off_30 : Occurs t IsOff → values_in t ≡ refused 30 0
    off_30 o =
        let r = all_read there v in
        r.2 ∙ (unless_30 (map made r.0)).1 (occurring c r.0 r.1 30 IsOff off_exactly o)

    pub out_31 : (Occurs t IsOff → ⊥) → Occurs t IsOut → values_in t ≡ refused 31 0
    out_31 none o =
        let r = all_read there v in
        r.2
        ∙ (unless_31 (map made r.0)).1 (
          false_of (any (is_refusal 30) (map made r.0)) (λ e. none (occurs c r.0 r.1 30 IsOff off_exactly e)),
          occurring c r.0 r.1 31 IsOut out_exactly o,
        )
