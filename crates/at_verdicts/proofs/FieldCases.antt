-- The raw value of an occurrence by its field: 27 past NBOCC, 28 where a bit lies outside,
-- else a value, of PTC 1-4 a number.
use mathlib.Core.Path.{◌≡◌, refl, sym, ◌∙◌}
use mathlib.Core.Bool.{Bool, true, false, cond}
use mathlib.Core.List.{List}
use mathlib.Core.Option.{some}
use Prim.Native.Nat.{ℕ, ◌/◌, ◌<◌}
use native.Mathlib.Omega.{arith}
use lib.Dec.{eqb, ltb}
use lib.IntN.{ℤ, pos}
use lib.ListN.{length}
use borrow.Author.Tests.{lt-ltb}
use Rattle.laws.proofs.Cases.{false_of, or_right}
use Rattle.fields.specs.Bits.{number_at}
use Rattle.fields.specs.Place.{inside}
use Rattle.fields.specs.Field.{is_width, field_at, unsigned_at}
use Rattle.fields.specs.Sign.{complement_of, signed_at}
use Rattle.widths.specs.Width.{width_of}
use Rattle.fields.proofs.FieldLaws.{width_yes}
use Rattle.rows.specs.declared.records.PlfRow.{PlfRow}
use Rattle.rows.specs.declared.records.PcfRow.{PcfRow}
use Rattle.headers.specs.Header.{head_of}
use Rattle.outcomes.specs.Outcome.{answer, refused}
use Rattle.outcomes.specs.Values.{Value, number}
use Rattle.headers.specs.declared.Head.{Head}
use Rattle.wire_reals.specs.Reals.{is_real_type, real_value}
use Rattle.raw_values.specs.RawValues.{is_string, start_of, value_at, field_raw, raw_in, raw_of}
use Rattle.raw_values.proofs.RawLaws.{width_wide}
use Rattle.at_verdicts.specs.Fields.{all_inside, is_there}

-- 01: "20 packet under 7 or over 8,192 bytes"
too_long : (p : List ℕ) → ltb 8192 (length p) ≡ true → head_of p ≡ refused 20 0
unfolding head_of
too_long p t = rw (or_right (ltb (length p) 7) t)

pub headed_short : (p : List ℕ) (head : Head) → head_of p ≡ answer head → ltb 8192 (length p) ≡ false
headed_short p head e = false_of (ltb 8192 (length p)) (λ t. let q = too_long p t in let z : ◌≡◌ {A = ℕ} 0 1 = cc in omega arith)

-- a field of n bits
module _ (make : ℤ → Value) (meant : ℕ → ℤ) (p : List ℕ) (n at : ℕ) (width : is_width n ≡ true) where
  bits_out : inside p at n ≡ false → value_at at make (field_at meant p at n) ≡ refused 28 (at / 8)
  unfolding field_at value_at
  bits_out f = rw (width, f)

  bits_here : inside p at n ≡ true → value_at at make (field_at meant p at n) ≡ answer (make (meant (number_at p at n)))
  unfolding field_at value_at
  bits_here t = rw (width, t)

-- one that is no string
module _ (p : List ℕ) (ptc pfc n at : ℕ) (other : is_string ptc ≡ false) where
  made : (make : ℤ → Value) × (meant : ℕ → ℤ) × (field_raw p ptc pfc n at ≡ value_at at make (field_at meant p at n))
  unfolding field_raw signed_at unsigned_at
  made = rw other (go (is_real_type ptc) (eqb ptc 4))
    where
      go : (r b : Bool) → (make : ℤ → Value) × (meant : ℕ → ℤ)
          × (cond r (value_at at (real_value pfc) (field_at pos p at n)) (value_at at number (cond b (field_at (complement_of n) p at n) (field_at pos p at n)))
          ≡ value_at at make (field_at meant p at n))
      go true b = (real_value pfc, pos, refl)
      go false true = (number, complement_of n, refl)
      go false false = (number, pos, refl)

  value_out : is_width n ≡ true → inside p at n ≡ false → field_raw p ptc pfc n at ≡ refused 28 (at / 8)
  value_out w f = let m = made in m.2 ∙ bits_out m.0 m.1 p n at w f

  value_here : is_width n ≡ true → inside p at n ≡ true → (v : Value) × (field_raw p ptc pfc n at ≡ answer v)
  value_here w t = let m = made in (m.0 (m.1 (number_at p at n)), m.2 ∙ bits_here m.0 m.1 p n at w t)

  numbered : is_real_type ptc ≡ false → (meant : ℕ → ℤ) × (field_raw p ptc pfc n at ≡ value_at at number (field_at meant p at n))
  unfolding field_raw signed_at unsigned_at
  numbered plain = rw (other, plain) (go (eqb ptc 4))
    where
      go : (b : Bool)
          → (meant : ℕ → ℤ) × (value_at at number (cond b (field_at (complement_of n) p at n) (field_at pos p at n)) ≡ value_at at number (field_at meant p at n))
      go true = (complement_of n, refl)
      go false = (pos, refl)

  number_here : is_real_type ptc ≡ false → is_width n ≡ true → inside p at n ≡ true → (z : ℤ) × (field_raw p ptc pfc n at ≡ answer (number z))
  number_here plain w t = let m = numbered plain in (m.0 (number_at p at n), m.1 ∙ bits_here number m.0 p n at w t)

-- an occurrence, where the packet isn't too long and the field has a width, as good rows give it
module _ (p : List ℕ) (plf : PlfRow) (pcf : PcfRow) (n : ℕ) (wide : width_of pcf.ptc pcf.pfc ≡ some n) (short : ltb 8192 (length p) ≡ false)
    (k : ℕ) where
  pub there_is : is_there p plf pcf k ≡ inside p (start_of plf k) n
  unfolding is_there all_inside
  there_is = rw wide

  pub raw_is : k < plf.nbocc → raw_of p plf pcf k ≡ field_raw p pcf.ptc pcf.pfc n (start_of plf k)
  unfolding raw_of raw_in
  raw_is h = rw (short, wide, lt-ltb k plf.nbocc h)

  module _ (below : k < plf.nbocc) (other : is_string pcf.ptc ≡ false) where
    narrow : is_width n ≡ true
    narrow = let w = width_wide pcf.ptc pcf.pfc n wide in width_yes n w.some (w.other other)

    -- 01: "28 … a bit of the field lies outside"; "the byte in which the first such field starts"
    pub raw_out : is_there p plf pcf k ≡ false → raw_of p plf pcf k ≡ refused 28 (start_of plf k / 8)
    raw_out f = raw_is below ∙ value_out p pcf.ptc pcf.pfc n (start_of plf k) other narrow (sym there_is ∙ f)

    pub raw_here : is_there p plf pcf k ≡ true → (v : Value) × (raw_of p plf pcf k ≡ answer v)
    raw_here t =
        let w = value_here p pcf.ptc pcf.pfc n (start_of plf k) other narrow (sym there_is ∙ t) in
        (w.0, raw_is below ∙ w.1)

    -- of PTC 1-4
    pub raw_number : is_real_type pcf.ptc ≡ false → is_there p plf pcf k ≡ true → (z : ℤ) × (raw_of p plf pcf k ≡ answer (number z))
    raw_number plain t =
        let w = number_here p pcf.ptc pcf.pfc n (start_of plf k) other plain narrow (sym there_is ∙ t) in
        (w.0, raw_is below ∙ w.1)
