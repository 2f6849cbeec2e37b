-- A raw value that is a number has at most 32 bits, signed or unsigned.
use mathlib.Core.Path.{◌≡◌, refl, sym, ap, ◌∙◌}
use mathlib.Core.Bool.{true}
use mathlib.Core.List.{List}
use mathlib.Core.Option.{some}
use Prim.Native.Nat.{ℕ, ◌^◌, ◌/◌, ◌≤◌, ◌<◌}
use native.Mathlib.Nat.{lt_of_lt_of_le}
use native.Mathlib.Omega.{arith}
use lib.Dec.{eqb, ltb}
use lib.IntN.{ℤ, pos, negsuc}
use lib.ListN.{length}
use lib.Pow.{pow_mono}
use lib.Signed.{mag}
use borrow.Author.Tests.{le-leb}
use Rattle.laws.specs.Said.{Said, value, refused as refused_with, free}
use Rattle.laws.proofs.Cases.{cond_cases, and_both}
use Rattle.fields.specs.Bits.{number_at}
use Rattle.fields.specs.Field.{unsigned_at}
use Rattle.fields.specs.Sign.{signed_at}
use Rattle.widths.specs.Width.{width_of}
use Rattle.fields.proofs.BitLaws.{number_lt}
use Rattle.fields.proofs.FieldLaws.{field_read}
use Rattle.fields.proofs.SignLaws.{signed_range}
use Rattle.rows.specs.declared.records.PlfRow.{PlfRow}
use Rattle.rows.specs.declared.records.PcfRow.{PcfRow}
use Rattle.curves.specs.Line.{is_between, is_raw}
use Rattle.outcomes.specs.Outcome.{Outcome, answer, refused}
use Rattle.outcomes.specs.Values.{Value, number}
use Rattle.wire_reals.specs.Reals.{is_real_type, real_value}
use Rattle.raw_values.specs.RawValues.{is_string, TypeWidth, start_of, value_at, packet_part, field_raw, raw_in, raw_of}
use Rattle.raw_values.proofs.RawLaws.{width_wide}

abbrev Ranged : Outcome Value → Type 0
Ranged o = (z : ℤ) → o ≡ answer (number z) → is_raw z ≡ true

refused_ranged : (n place : ℕ) → Ranged (refused n place)
refused_ranged n place z e = absurd (let w : ◌≡◌ {A = ℕ} 0 1 = cc in omega arith)

number_ranged : (at : ℕ) (s : Said) → ((z : ℤ) → value z ≡ s → is_raw z ≡ true) → Ranged (value_at at number s)
unfolding value_at
number_ranged at (value x) h z e = h z (let q : x ≡ z = cc in ap value (sym q))
number_ranged at (refused_with n) h z e = absurd (let w : ◌≡◌ {A = ℕ} 0 1 = cc in omega arith)
number_ranged at free h z e = absurd (let w : ◌≡◌ {A = ℕ} 0 1 = cc in omega arith)

-- what is made no number has none
other_ranged : (at : ℕ) (make : ℤ → Value) → ((x z : ℤ) → make x ≡ number z → ⊥) → (s : Said) → Ranged (value_at at make s)
unfolding value_at
other_ranged at make h (value x) z e = absurd (h x z (let q : make x ≡ number z = cc in q))
other_ranged at make h (refused_with n) z e = absurd (let w : ◌≡◌ {A = ℕ} 0 1 = cc in omega arith)
other_ranged at make h free z e = absurd (let w : ◌≡◌ {A = ℕ} 0 1 = cc in omega arith)

part_number : (at bytes : ℕ) (x z : ℤ) → packet_part at bytes x ≡ number z → ⊥
part_number at bytes x z e = let w : ◌≡◌ {A = ℕ} 0 1 = cc in omega arith

real_number : (pfc : ℕ) (x z : ℤ) → real_value pfc x ≡ number z → ⊥
unfolding real_value
real_number pfc x z e = let w : ◌≡◌ {A = ℕ} 0 1 = cc in omega arith

small_raw : (z : ℤ) → mag z < 2 ^ 31 → is_raw z ≡ true
unfolding is_raw is_between
small_raw (pos n) h = le-leb n 4294967295 (omega arith)
small_raw (negsuc n) h = and_both (le-leb n 2147483647 (omega arith)) refl

natural_raw : (n : ℕ) → n < 2 ^ 32 → is_raw (pos n) ≡ true
unfolding is_raw is_between
natural_raw n h = le-leb n 4294967295 (omega arith)

module _ (p : List ℕ) (at n : ℕ) (narrow : n ≤ 32) where
  signed_raw : (z : ℤ) → value z ≡ signed_at p at n → is_raw z ≡ true
  signed_raw z e = small_raw z (lt_of_lt_of_le (signed_range p at n z e) (pow_mono {j = 31} (omega arith)))

  unsigned_raw : (z : ℤ) → value z ≡ unsigned_at p at n → is_raw z ≡ true
  unfolding unsigned_at
  unsigned_raw z e =
      ap is_raw (field_read pos p at n z e).is ∙ natural_raw (number_at p at n) (lt_of_lt_of_le (number_lt p at n) (pow_mono {j = 32} narrow))

field_ranged : (p : List ℕ) (ptc pfc n at : ℕ) → TypeWidth ptc n → Ranged (field_raw p ptc pfc n at)
unfolding field_raw
field_ranged p ptc pfc n at w =
    cond_cases Ranged (is_string ptc) (λ _. other_ranged at (packet_part at (n / 8)) (part_number at (n / 8)) _)
    (λ f. cond_cases Ranged (is_real_type ptc) (λ _. other_ranged at (real_value pfc) (real_number pfc) _)
    (λ g. number_ranged at _
    (cond_cases (λ (s : Said). (z : ℤ) → value z ≡ s → is_raw z ≡ true) (eqb ptc 4)
    (λ _. signed_raw p at n (w.integer f g))
    (λ _. unsigned_raw p at n (w.integer f g)))))

pub raw_range : (p : List ℕ) (plf : PlfRow) (pcf : PcfRow) (k n : ℕ) → width_of pcf.ptc pcf.pfc ≡ some n
    → (z : ℤ) → raw_of p plf pcf k ≡ answer (number z) → is_raw z ≡ true
unfolding raw_of raw_in
raw_range p plf pcf k n e =
    cond_cases Ranged (ltb 8192 (length p)) (λ _. refused_ranged 20 0)
    (λ _. rw e
    (cond_cases Ranged (ltb k plf.nbocc)
    (λ _. field_ranged p pcf.ptc pcf.pfc n (start_of plf k) (width_wide pcf.ptc pcf.pfc n e))
    (λ _. refused_ranged 27 0)))
