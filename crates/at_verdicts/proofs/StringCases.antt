-- An occurrence of a parameter of good rows, in each of its cases: 27, 28, 29, or a value.
use mathlib.Core.Path.{◌≡◌, refl, sym, ◌∙◌}
use mathlib.Core.Bool.{Bool, true, false, cond, ◌&&◌, ◌||◌}
use mathlib.Core.List.{List}
use mathlib.Core.Option.{none, some}
use Prim.Native.Nat.{ℕ, ◌*◌, ◌/◌, ◌%◌, ◌≤◌, ◌<◌}
use native.Mathlib.Omega.{arith}
use lib.Dec.{eqb, leb, ltb}
use lib.ListN.{length}
use borrow.Author.Tests.{eqb-true, ne_eqb, eq-eqb, le-ltb, ltb-true, ltb-false, leb-true}
use Rattle.laws.proofs.Cases.{bool_cases, false≢true}
use Rattle.fields.specs.Place.{inside}
use Rattle.string_fields.specs.Text.{string_at}
use Rattle.widths.specs.Width.{width_of, bits_within}
use Rattle.rows.specs.declared.records.PlfRow.{PlfRow}
use Rattle.rows.specs.declared.records.PcfRow.{PcfRow}
use Rattle.outcomes.specs.Outcome.{answer, refused}
use Rattle.outcomes.specs.Values.{Value, part}
use Rattle.raw_values.specs.RawValues.{is_string, start_of, value_at, field_raw, raw_in, raw_of}
use Rattle.at_verdicts.specs.Fields.{is_there}
use Rattle.at_verdicts.proofs.FieldCases.{there_is, raw_is, raw_out, raw_here}

-- 01: "7, 8 | 1–255 | 8 × PFC": a string has whole bytes, and some
bytes_within : (pfc n : ℕ) → bits_within pfc 1 255 (8 * pfc) ≡ some n → (n / 8 * 8 ≡ n) × (n / 8 ≡ 0 → ⊥)
unfolding bits_within
bytes_within pfc n e = go (leb 1 pfc) (leb pfc 255) refl e
  where
    go : (a b : Bool) → leb 1 pfc ≡ a → cond (a && b) (some (8 * pfc)) none ≡ some n → (n / 8 * 8 ≡ n) × (n / 8 ≡ 0 → ⊥)
    go true true f e =
        let q : n ≡ 8 * pfc = cc in
        let h : 1 ≤ pfc = leb-true 1 pfc f in
        (omega arith, λ z. omega arith)
    go true false f e = absurd (let z : ◌≡◌ {A = ℕ} 0 1 = cc in omega arith)
    go false b f e = absurd (let z : ◌≡◌ {A = ℕ} 0 1 = cc in omega arith)

string_bytes : (ptc pfc n : ℕ) → is_string ptc ≡ true → width_of ptc pfc ≡ some n → (n / 8 * 8 ≡ n) × (n / 8 ≡ 0 → ⊥)
unfolding is_string width_of
string_bytes ptc pfc n t e = go (eqb ptc 7) (eqb ptc 8) refl refl t
  where
    go : (a b : Bool) → eqb ptc 7 ≡ a → eqb ptc 8 ≡ b → (a || b) ≡ true → (n / 8 * 8 ≡ n) × (n / 8 ≡ 0 → ⊥)
    go true b f g t = let q = eqb-true ptc 7 f in bytes_within pfc n (rw q at e)
    go false true f g t = let q = eqb-true ptc 8 g in bytes_within pfc n (rw q at e)
    go false false f g t = absurd (false≢true t)

module _ (p : List ℕ) (ptc pfc n at : ℕ) (string : is_string ptc ≡ true) (bytes : n / 8 * 8 ≡ n) (any : n / 8 ≡ 0 → ⊥) where
  string_out : inside p at n ≡ false → field_raw p ptc pfc n at ≡ refused 28 (at / 8)
  unfolding field_raw string_at value_at
  string_out f = rw (string, ne_eqb (n / 8) 0 any, bytes, f)

  string_off : inside p at n ≡ true → eqb (at % 8) 0 ≡ false → field_raw p ptc pfc n at ≡ refused 29 (at / 8)
  unfolding field_raw string_at value_at
  string_off h f = rw (string, ne_eqb (n / 8) 0 any, bytes, h, f)

  string_here : inside p at n ≡ true → eqb (at % 8) 0 ≡ true → field_raw p ptc pfc n at ≡ answer (part (at / 8) (n / 8))
  unfolding field_raw string_at value_at
  string_here h t = rw (string, ne_eqb (n / 8) 0 any, bytes, h, t)

-- the cases of an occurrence
pub data Case (p : List ℕ) (plf : PlfRow) (pcf : PcfRow) (k : ℕ) : Type 0 where
  over : plf.nbocc ≤ k → raw_of p plf pcf k ≡ refused 27 0 → Case p plf pcf k
  out : k < plf.nbocc → is_there p plf pcf k ≡ false → raw_of p plf pcf k ≡ refused 28 (start_of plf k / 8) → Case p plf pcf k
  off_a_byte : k < plf.nbocc → is_there p plf pcf k ≡ true → is_string pcf.ptc ≡ true → (start_of plf k % 8 ≡ 0 → ⊥)
      → raw_of p plf pcf k ≡ refused 29 (start_of plf k / 8) → Case p plf pcf k
  read : k < plf.nbocc → is_there p plf pcf k ≡ true → (is_string pcf.ptc ≡ true → start_of plf k % 8 ≡ 0) → (v : Value) → raw_of p plf pcf k ≡ answer v
      → Case p plf pcf k

module _ (p : List ℕ) (plf : PlfRow) (pcf : PcfRow) (n : ℕ) (wide : width_of pcf.ptc pcf.pfc ≡ some n) (short : ltb 8192 (length p) ≡ false)
    (k : ℕ) where
  raw_over : plf.nbocc ≤ k → raw_of p plf pcf k ≡ refused 27 0
  unfolding raw_of raw_in
  raw_over h = rw (short, wide, le-ltb k plf.nbocc h)

  other_case : k < plf.nbocc → is_string pcf.ptc ≡ false → Case p plf pcf k
  other_case b o =
      bool_cases (is_there p plf pcf k)
      (λ t. let w = raw_here p plf pcf n wide short k b o t in read b t (λ s. absurd (false≢true (sym o ∙ s))) w.0 w.1)
      (λ f. out b f (raw_out p plf pcf n wide short k b o f))

  string_case : k < plf.nbocc → is_string pcf.ptc ≡ true → Case p plf pcf k
  string_case b s =
      let at : ℕ = start_of plf k in
      let w = string_bytes pcf.ptc pcf.pfc n s wide in
      let is = raw_is p plf pcf n wide short k b in
      let i = there_is p plf pcf n wide short k in
      bool_cases (is_there p plf pcf k)
      (λ t. bool_cases (eqb (at % 8) 0)
      (λ e. read b t (λ _. eqb-true (at % 8) 0 e) (part (at / 8) (n / 8)) (is ∙ string_here p pcf.ptc pcf.pfc n at s w.0 w.1 (sym i ∙ t) e))
      (λ f. off_a_byte b t s (λ z. false≢true (sym f ∙ eq-eqb (at % 8) 0 z)) (is ∙ string_off p pcf.ptc pcf.pfc n at s w.0 w.1 (sym i ∙ t) f)))
      (λ f. out b f (is ∙ string_out p pcf.ptc pcf.pfc n at s w.0 w.1 (sym i ∙ f)))

  pub raw_case : Case p plf pcf k
  raw_case =
      bool_cases (ltb k plf.nbocc)
      (λ t. let b : k < plf.nbocc = ltb-true k plf.nbocc t in
      bool_cases (is_string pcf.ptc) (string_case b) (other_case b))
      (λ f. let h : plf.nbocc ≤ k = ltb-false k plf.nbocc f in over h (raw_over h))
