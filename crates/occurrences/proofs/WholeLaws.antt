-- The raw value of a parameter that has checks is an integer, or is refused by 28:
-- a good ocf row names a pcf row of PTC 1-4.
use mathlib.Core.Path.{◌≡◌}
use mathlib.Core.Bool.{true, false}
use mathlib.Core.List.{List}
use Prim.Native.Nat.{ℕ, ◌/◌, ◌≤◌, ◌<◌}
use native.Mathlib.Omega.{arith}
use lib.Dec.{eqb, leb}
use lib.IntN.{ℤ, pos}
use lib.ListN.{length}
use borrow.Author.Tests.{leb-true, lt-ltb, le-ltb, ne_eqb}
use Rattle.laws.specs.Said.{Said}
use Rattle.laws.proofs.Cases.{cond_cases, and_right, or_none}
use Rattle.fields.specs.Place.{inside}
use Rattle.fields.specs.Field.{field_at, unsigned_at}
use Rattle.fields.specs.Sign.{complement_of, signed_at}
use Rattle.fields.proofs.FieldLaws.{width_yes}
use Rattle.contradictions.specs.Contradictions.{is_whole}
use Rattle.widths.specs.Width.{width_of}
use mathlib.Core.Option.{some}
use Rattle.rows.specs.declared.records.PlfRow.{PlfRow}
use Rattle.rows.specs.declared.records.PcfRow.{PcfRow}
use Rattle.outcomes.specs.Outcome.{Outcome, answer, refused}
use Rattle.outcomes.specs.Values.{Value, number}
use Rattle.wire_reals.specs.Reals.{is_real_type}
use Rattle.raw_values.specs.RawValues.{is_string, start_of, value_at, field_raw, raw_in, raw_of}
use Rattle.raw_values.proofs.RawLaws.{width_wide}

-- an integer, or 28 at a byte
pub data Whole (byte : ℕ) : Outcome Value → Type 0 where
  read : (z : ℤ) → Whole byte (answer (number z))
  leaves : Whole byte (refused 28 byte)

module _ (p : List ℕ) (at n : ℕ) (low : 1 ≤ n) (high : n ≤ 64) where
  said_whole : (meant : ℕ → ℤ) → Whole (at / 8) (value_at at number (field_at meant p at n))
  unfolding value_at field_at
  said_whole meant = rw (width_yes n low high) (cond_cases (λ (x : Said). Whole (at / 8) (value_at at number x)) (inside p at n) (λ e. read _) (λ e. leaves))

  field_whole : (ptc pfc : ℕ) → is_string ptc ≡ false → is_real_type ptc ≡ false → Whole (at / 8) (field_raw p ptc pfc n at)
  unfolding field_raw signed_at unsigned_at
  field_whole ptc pfc s r =
      rw (s, r)
      (cond_cases (λ (x : Said). Whole (at / 8) (value_at at number x)) (eqb ptc 4) (λ e. said_whole (complement_of n)) (λ e. said_whole pos))

pub no_string : (ptc : ℕ) → is_whole ptc ≡ true → is_string ptc ≡ false
unfolding is_string
no_string ptc w =
    let high : ptc ≤ 4 = leb-true ptc 4 (and_right (leb 1 ptc) (leb ptc 4) w) in
    or_none (ne_eqb ptc 7 (λ e. omega arith)) (ne_eqb ptc 8 (λ e. omega arith))

pub no_real : (ptc : ℕ) → is_whole ptc ≡ true → is_real_type ptc ≡ false
unfolding is_real_type
no_real ptc w =
    let high : ptc ≤ 4 = leb-true ptc 4 (and_right (leb 1 ptc) (leb ptc 4) w) in
    ne_eqb ptc 5 (λ e. omega arith)

-- 01: "28 … a bit of the field lies outside", at "the byte in which the first such field starts"
pub whole_raw : (p : List ℕ) (plf : PlfRow) (pcf : PcfRow) (k n : ℕ) → length p ≤ 8192 → k < plf.nbocc
    → is_whole pcf.ptc ≡ true → width_of pcf.ptc pcf.pfc ≡ some n → Whole (start_of plf k / 8) (raw_of p plf pcf k)
unfolding raw_of raw_in
whole_raw p plf pcf k n short below whole width =
    let s = no_string pcf.ptc whole in
    let w = width_wide pcf.ptc pcf.pfc n width in
    rw (le-ltb 8192 (length p) short, width, lt-ltb k plf.nbocc below)
    (field_whole p (start_of plf k) n w.some (w.other s) pcf.ptc pcf.pfc s (no_real pcf.ptc whole))
