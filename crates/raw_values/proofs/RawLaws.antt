-- Laws of raw values: the widths of fields, a field past the packet's end, and where an occurrence starts.
use mathlib.Core.Path.{◌≡◌, refl, sym, ap, ◌∙◌}
use mathlib.Core.Logic.{◌⊎◌, inl, inr}
use mathlib.Core.Bool.{Bool, true, false, cond, ◌&&◌, ◌||◌}
use mathlib.Core.List.{List}
use mathlib.Core.Option.{some, none}
use Prim.Native.Nat.{ℕ, ◌+◌, ◌-◌, ◌*◌, ◌/◌, ◌^◌, ◌<◌, ◌≤◌}
use native.Mathlib.Nat.{mul-le-mul, lt_of_lt_of_le}
use native.Mathlib.Omega.{arith}
use lib.Dec.{eqb, leb}
use lib.IntN.{ℤ, pos}
use lib.ListN.{length}
use lib.Pow.{pow_mono}
use lib.Signed.{mag}
use mir.Syntax.{w64}
use mir.Val.{SFits, to_z, of_z}
use mir.ValLaws.{to_z_pos}
use Rattle.std.specs.Prelude.{Option, Some, None, Result, Ok}
use borrow.Author.Tests.{lt-ltb, le-ltb, eq-eqb, ne_eqb, leb-true, eqb-true}
use Rattle.laws.proofs.Cases.{cond_cases, bool_cases}
use Rattle.laws.proofs.Words.{through_word}
use Rattle.laws.specs.Said.{Said, value, refused as refused_with}
use Rattle.widths.specs.Width.{bits_of, bits_within, integer_width, real_width, width_of}
use Rattle.rows.specs.declared.records.PlfRow.{PlfRow}
use Rattle.rows.specs.declared.records.PcfRow.{PcfRow}
use Rattle.fields.specs.Field.{field_at, said_unsigned, unsigned_at}
use Rattle.fields.specs.declared.field.FieldError.{FieldError}
use Rattle.fields.specs.Sign.{complement_of, said_signed, signed_at}
use Rattle.string_fields.specs.Text.{string_at}
use Rattle.fields.proofs.FieldLaws.{field_outside, field_read, unsigned_read}
use Rattle.fields.proofs.SignLaws.{signed_range}
use Rattle.string_fields.proofs.TextLaws.{string_outside}
use Rattle.outcomes.specs.Outcome.{Outcome, refused, answer}
use Rattle.outcomes.specs.Values.{Value, number, bits}
use Rattle.wire_reals.specs.Reals.{is_real_type, real_bits, bits_told, real_value}
use Rattle.raw_values.specs.RawValues.{is_string, TypeWidth, value_at, packet_part, field_raw, start_of, location_of, raw_in, raw_of}
use Rattle.raw_values.specs.declared.place.Location.{Location}

-- where an occurrence starts, a word holds its bits
pub offset_bounded : (k l : ℕ) → k + 1 < 2 ^ 32 → l < 2 ^ 32 → k * l ≤ 4294967294 * 4294967295
offset_bounded k l h g = mul-le-mul {n₁ = k} {m₁ = l} {n₂ = 4294967294} {m₂ = 4294967295} (omega arith) (omega arith)

-- so many bits are told only where the format code is in its range
pub record In-range (m lowest highest many n : ℕ) : Type 0 where
  pub low : lowest ≤ m
  pub high : m ≤ highest
  pub is : n ≡ many

bits_within_lem : (m lowest highest many n : ℕ) → bits_within m lowest highest many ≡ some n → In-range m lowest highest many n
unfolding bits_within
bits_within_lem m lowest highest many n e = by (leb lowest m) (leb m highest) refl refl e
  where
    by : (a b : Bool) → leb lowest m ≡ a → leb m highest ≡ b → cond (a && b) (some many) none ≡ some n → In-range m lowest highest many n
    by true true f g e = record { low = leb-true lowest m f; high = leb-true m highest g; is = cc }
    by true false f g e = absurd (let z : ◌≡◌ {A = ℕ} 0 1 = cc in omega arith)
    by false b f g e = absurd (let z : ◌≡◌ {A = ℕ} 0 1 = cc in omega arith)

string_is : (ptc : ℕ) → is_string ptc ≡ true → (ptc ≡ 7) ⊎ (ptc ≡ 8)
unfolding is_string
string_is ptc e = by (eqb ptc 7) (eqb ptc 8) refl refl e
  where
    by : (a b : Bool) → eqb ptc 7 ≡ a → eqb ptc 8 ≡ b → (a || b) ≡ true → (ptc ≡ 7) ⊎ (ptc ≡ 8)
    by true b f g e = inl (eqb-true ptc 7 f)
    by false true f g e = inr (eqb-true ptc 8 g)
    by false false f g e = absurd (let z : ◌≡◌ {A = ℕ} 0 1 = cc in omega arith)

-- a string has whole bytes
bytes_of : (pfc n : ℕ) → bits_within pfc 1 255 (8 * pfc) ≡ some n → 8 ≤ n
bytes_of pfc n e = let r = bits_within_lem pfc 1 255 (8 * pfc) n e in omega (arith, r.low, r.is)

string_wide : (ptc pfc n : ℕ) → (ptc ≡ 7) ⊎ (ptc ≡ 8) → width_of ptc pfc ≡ some n → 8 ≤ n
unfolding width_of
string_wide ptc pfc n (inl s) e = bytes_of pfc n (rw s at e)
string_wide ptc pfc n (inr s) e = bytes_of pfc n (rw s at e)

-- an integer's field has 1 to 32 bits
abbrev Narrow : ℕ → Type 0
Narrow n = (1 ≤ n) × (n ≤ 32)

few_bits : (pfc n : ℕ) → bits_within pfc 1 32 pfc ≡ some n → Narrow n
few_bits pfc n e = let r = bits_within_lem pfc 1 32 pfc n e in (omega (arith, r.low, r.is), omega (arith, r.high, r.is))

one_bit : (pfc n : ℕ) → bits_within pfc 0 0 1 ≡ some n → Narrow n
one_bit pfc n e = let r = bits_within_lem pfc 0 0 1 n e in (omega (arith, r.is), omega (arith, r.is))

integer_narrow : (pfc n : ℕ) → integer_width pfc ≡ some n → Narrow n
unfolding integer_width
integer_narrow pfc n e = by (eqb pfc 13) (eqb pfc 14) e
  where
    to_12 : bits_within pfc 0 12 (pfc + 4) ≡ some n → Narrow n
    to_12 e = let r = bits_within_lem pfc 0 12 (pfc + 4) n e in (omega (arith, r.is), omega (arith, r.high, r.is))

    by : (a b : Bool) → cond a (some 24) (cond b (some 32) (bits_within pfc 0 12 (pfc + 4))) ≡ some n → Narrow n
    by true b e = let m : n ≡ 24 = cc in (omega arith, omega arith)
    by false true e = let m : n ≡ 32 = cc in (omega arith, omega arith)
    by false false e = to_12 e

-- a field that is no string: one to 64 bits, and up to 32 unless it is a real
pub record Other (real : Bool) (n : ℕ) : Type 0 where
  pub some : 1 ≤ n
  pub most : n ≤ 64
  pub integer : real ≡ false → n ≤ 32

narrow_other : (real : Bool) (n : ℕ) → Narrow n → Other real n
narrow_other real n h = record { some = h.0; most = omega (arith, h.1); integer = λ f. h.1 }

real_other : (pfc n : ℕ) → real_width pfc ≡ some n → Other true n
unfolding real_width
real_other pfc n e = by (eqb pfc 1 || eqb pfc 3) (eqb pfc 2) (eqb pfc 4) e
  where
    of : (m : ℕ) → 1 ≤ m → m ≤ 64 → some m ≡ some n → Other true n
    of m l h e =
        let q : n ≡ m = cc in
        record { some = omega arith; most = omega arith; integer = λ f. absurd (let z : ◌≡◌ {A = ℕ} 0 1 = cc in omega arith) }

    by : (a b c : Bool) → cond a (some 32) (cond b (some 64) (cond c (some 48) none)) ≡ some n → Other true n
    by true b c e = of 32 (omega arith) (omega arith) e
    by false true c e = of 64 (omega arith) (omega arith) e
    by false false true e = of 48 (omega arith) (omega arith) e
    by false false false e = absurd (let z : ◌≡◌ {A = ℕ} 0 1 = cc in omega arith)

other_wide : (ptc pfc n : ℕ) → is_string ptc ≡ false → width_of ptc pfc ≡ some n → Other (is_real_type ptc) n
unfolding width_of is_string is_real_type
other_wide ptc pfc n s e = by (eqb ptc 1) (eqb ptc 2 || eqb ptc 6) (eqb ptc 3 || eqb ptc 4) (eqb ptc 5) (eqb ptc 7 || eqb ptc 8) s e
  where
    by : (a b c r d : Bool) → d ≡ false
        → cond a (bits_within pfc 0 0 1) (cond b (bits_within pfc 1 32 pfc) (cond c (integer_width pfc)
        (cond r (real_width pfc) (cond d (bits_within pfc 1 255 (8 * pfc)) none)))) ≡ some n → Other r n
    by true b c r d s e = narrow_other r n (one_bit pfc n e)
    by false true c r d s e = narrow_other r n (few_bits pfc n e)
    by false false true r d s e = narrow_other r n (integer_narrow pfc n e)
    by false false false true d s e = real_other pfc n e
    by false false false false true s e = absurd (let z : ◌≡◌ {A = ℕ} 0 1 = cc in omega arith)
    by false false false false false s e = absurd (let z : ◌≡◌ {A = ℕ} 0 1 = cc in omega arith)

pub width_wide : (ptc pfc n : ℕ) → width_of ptc pfc ≡ some n → TypeWidth ptc n
width_wide ptc pfc n e =
    record {
      some =
          bool_cases (is_string ptc)
          (λ t. let h = string_wide ptc pfc n (string_is ptc t) e in omega arith)
          (λ f. (other_wide ptc pfc n f e).some);
      string = λ t. string_wide ptc pfc n (string_is ptc t) e;
      other = λ f. (other_wide ptc pfc n f e).most;
      integer = λ f g. (other_wide ptc pfc n f e).integer g;
    }

-- a field from a byte past the end is outside, whatever it is
pub field_past : (p : List ℕ) (ptc pfc n byte bit : ℕ) → length p < byte → bit < 8 → TypeWidth ptc n
    → refused 28 byte ≡ field_raw p ptc pfc n (8 * byte + bit)
unfolding field_raw value_at signed_at unsigned_at
field_past p ptc pfc n byte bit out low w =
    let at : ℕ = 8 * byte + bit in
    ap (refused 28) (whole byte bit low)
    ∙ cond_cases (λ (r : Outcome Value). refused 28 (at / 8) ≡ r) (is_string ptc)
    (λ t. let h = w.string t in ap (value_at at (packet_part at (n / 8))) (string_outside p at (n / 8) (omega arith) (omega arith)))
    (λ f.
    let outside : (meant : ℕ → ℤ) → refused_with 28 ≡ field_at meant p at n = λ meant.
    field_outside meant p at n w.some (w.other f) (omega (arith, w.some)) in
    cond_cases (λ (r : Outcome Value). refused 28 (at / 8) ≡ r) (is_real_type ptc)
    (λ _. ap (value_at at (real_value pfc)) (outside pos))
    (λ _. ap (value_at at number) (cond_cases (λ s. refused_with 28 ≡ s) (eqb ptc 4) (λ _. outside (complement_of n)) (λ _. outside pos))))
  where
    whole : (a b : ℕ) → b < 8 → a ≡ (8 * a + b) / 8
    whole a b h = omega arith

-- each kind of field
module _ (p : List ℕ) (ptc pfc n at : ℕ) where
  pub field_string : is_string ptc ≡ true → value_at at (packet_part at (n / 8)) (string_at p at (n / 8)) ≡ field_raw p ptc pfc n at
  unfolding field_raw
  field_string t = rw t

  module _ (f : is_string ptc ≡ false) where
    pub field_real : ptc ≡ 5 → value_at at (real_value pfc) (unsigned_at p at n) ≡ field_raw p ptc pfc n at
    unfolding field_raw is_real_type
    field_real r = rw (f, eq-eqb ptc 5 r)

    pub field_signed : (ptc ≡ 5 → ⊥) → ptc ≡ 4 → value_at at number (signed_at p at n) ≡ field_raw p ptc pfc n at
    unfolding field_raw is_real_type
    field_signed r e = rw (f, ne_eqb ptc 5 r, eq-eqb ptc 4 e)

    pub field_unsigned : (ptc ≡ 5 → ⊥) → (ptc ≡ 4 → ⊥) → value_at at number (unsigned_at p at n) ≡ field_raw p ptc pfc n at
    unfolding field_raw is_real_type
    field_unsigned r e = rw (f, ne_eqb ptc 5 r, ne_eqb ptc 4 e)

-- a type that isn't 5 is no real
pub not_five : (ptc : ℕ) → (ptc ≡ 5 → ⊥) → is_real_type ptc ≡ false
unfolding is_real_type
not_five ptc r = ne_eqb ptc 5 r

-- what is made of the answer of a reader
pub told : {A : Type 0} (says : A → Said) (at : ℕ) (make : ℤ → Value) (s : Said) (r : A) → says r ≡ s → {a : A} → r ≡ a
    → value_at at make (says a) ≡ value_at at make s
told says at make s r e q = ap (value_at at make) (ap says (sym q) ∙ e)

-- the bits of a real
pub real_told : (p : List ℕ) (at pfc n : ℕ) (r : Result ℕ FieldError) → said_unsigned r ≡ unsigned_at p at n → (v : ℕ) → r ≡ Ok v → {b w : ℕ}
    → b ≡ real_bits pfc v → w ≡ bits_told pfc → answer (bits b w) ≡ value_at at (real_value pfc) (unsigned_at p at n)
unfolding said_unsigned value_at real_value
real_told p at pfc n r s v e q t = rw (q, t) (told said_unsigned at (real_value pfc) (unsigned_at p at n) r s e)

-- half of a field's numbers is at most half of a word's
low_half : (n : ℕ) → n ≤ 64 → 2 ^ (n - 1) ≤ 2 ^ 63
low_half n h = pow_mono {j = 63} (omega arith)

module _ (p : List ℕ) (at n : ℕ) (r : Result ℤ FieldError) (s : said_signed r ≡ signed_at p at n) where
  signed_fits : (z : ℤ) → value z ≡ signed_at p at n → mag z < 2 ^ 63
  unfolding signed_at
  signed_fits z e = omega (arith, signed_range p at n z e, low_half n (field_read (complement_of n) p at n z e).narrow)

  pub signed_number : (z : ℤ) → r ≡ Ok z → answer (number (to_z w64 (of_z w64 z))) ≡ value_at at number (signed_at p at n)
  unfolding said_signed value_at
  signed_number z e =
      ap (λ (x : ℤ). answer (number x)) (through_word z (signed_fits z (ap said_signed (sym e) ∙ s)))
      ∙ told said_signed at number (signed_at p at n) r s e

module _ (p : List ℕ) (at n : ℕ) (r : Result ℕ FieldError) (s : said_unsigned r ≡ unsigned_at p at n) where
  unsigned_below : (v : ℕ) → n ≤ 32 → r ≡ Ok v → v < 2 ^ 32
  unfolding said_unsigned
  unsigned_below v h e = lt_of_lt_of_le (unsigned_read p at n v (ap said_unsigned (sym e) ∙ s)).below (pow_mono h)

  pub unsigned_fits : (v : ℕ) → n ≤ 32 → r ≡ Ok v → SFits w64 (pos v)
  unsigned_fits v h e = record { sfits = omega (arith, unsigned_below v h e) }

  pub unsigned_number : (v : ℕ) → n ≤ 32 → r ≡ Ok v → answer (number (to_z w64 v)) ≡ value_at at number (unsigned_at p at n)
  unfolding said_unsigned value_at
  unsigned_number v h e =
      ap (λ (x : ℤ). answer (number x)) (to_z_pos w64 v (omega (arith, unsigned_below v h e)))
      ∙ told said_unsigned at number (unsigned_at p at n) r s e

-- an occurrence, by a row that locates it
module _ (p : List ℕ) (location : Location) (plf : PlfRow) (ptc pfc k n : ℕ) (d : location ≡ location_of plf) where
  pub no_occurrence : location.nbocc ≤ k → refused 27 0 ≡ raw_in p plf ptc pfc k (some n)
  unfolding raw_in location_of
  no_occurrence h = rw (le-ltb k plf.nbocc (rw d at h))

  pub occurrence_is : (at : ℕ) → k < location.nbocc → at ≡ 8 * location.offby.0 + location.offbi.0 + k * location.lgocc.0
      → field_raw p ptc pfc n at ≡ raw_in p plf ptc pfc k (some n)
  unfolding raw_in start_of location_of
  occurrence_is at h e = rw (lt-ltb k plf.nbocc (rw d at h)) (ap (field_raw p ptc pfc n) (rw d at e))

-- a raw value, by the width of its type
module _ (p : List ℕ) (plf : PlfRow) (pcf : PcfRow) (k : ℕ) where
  pub packet_too_long : 8192 < length p → refused 20 0 ≡ raw_of p plf pcf k
  unfolding raw_of
  packet_too_long h = rw (lt-ltb _ _ h)

  module _ (row : PcfRow) (w : Option ℕ) (short : length p ≤ 8192) (d : row ≡ pcf) (e : bits_of w ≡ width_of row.ptc row.pfc) where
    pub raw_in_bits : (n : ℕ) → w ≡ Some n → raw_in p plf row.ptc row.pfc k (some n) ≡ raw_of p plf pcf k
    unfolding raw_of bits_of
    raw_in_bits n b = rw (← d, le-ltb _ _ short) (ap (raw_in p plf row.ptc row.pfc k) (sym (ap bits_of b) ∙ e))

    pub raw_refused : w ≡ None → refused 26 0 ≡ raw_of p plf pcf k
    unfolding raw_of raw_in bits_of
    raw_refused b = rw (← d, le-ltb _ _ short) (ap (raw_in p plf row.ptc row.pfc k) (sym (ap bits_of b) ∙ e))
