-- Laws of a VALID chain that is read: one row more, and a block of rows.
use mathlib.Core.Path.{◌≡◌, refl, sym, ap, ◌∙◌}
use mathlib.Core.Bool.{Bool, true, false, not, cond, ◌&&◌}
use mathlib.Core.List.{List}
use Prim.Native.Nat.{ℕ, zero, suc, ◌+◌, ◌-◌, ◌≤◌, ◌<◌, min}
use native.Mathlib.Omega.{arith}
use native.Mathlib.Numerals.{add-one}
use lib.IntN.{ℤ, pos}
use lib.ListN.{length, get_or, set, length-set}
use lib.Seq.{get_or-set_same, get_or-set_other}
use mir.Syntax.{w64}
use mir.Val.{SFits}
use Rattle.std.specs.Prelude.{Option, Some, None}
use Rattle.laws.proofs.Cases.{and_false, false≢true}
use Rattle.rows.specs.declared.records.PcfRow.{PcfRow}
use Rattle.outcomes.specs.Values.{part, bits}
use Rattle.database.specs.Rows.{Rows}
use Rattle.readings.specs.Readings.{same_integer, equals, agrees, with_validity, reading_with, valid_within}
use Rattle.readings.specs.Chain.{block_rows, valid_along}
use Rattle.readings.proofs.ReadingLaws.{valid_free, valid_step}
use Rattle.located_readings.specs.Asked.{asked_agrees}
use Rattle.located_readings.specs.Blocks.{chain_end, Followed, after_block}
use Rattle.located_readings.specs.declared.Block.{Block}
use Rattle.located_readings.specs.declared.follow.Asked.{Asked}
use Rattle.located_readings.specs.declared.follow.BlockEnd.{BlockEnd}

-- one that can't be read agrees with nothing
never_agrees : (valid : PcfRow → Bool) (found : Option Asked) (valpar : ℤ) → found ≡ None → asked_agrees valid found valpar ≡ false
unfolding asked_agrees
never_agrees valid found valpar e = rw e

-- a string never agrees, nor does a real
pub string_disagrees : (valid : Bool) (start bytes : ℕ) (valpar : ℤ) → false ≡ agrees (with_validity valid (part start bytes)) valpar
unfolding agrees equals with_validity
string_disagrees valid start bytes valpar = sym (and_false valid)

pub real_disagrees : (valid : Bool) (pattern width : ℕ) (valpar : ℤ) → false ≡ agrees (with_validity valid (bits pattern width)) valpar
unfolding agrees equals with_validity
real_disagrees valid pattern width valpar = sym (and_false valid)

-- after a row that disagrees nothing is valid
along_false : (values valpars : List ℤ) (at n : ℕ) → valid_along values valpars false at n ≡ false
unfolding valid_along
along_false values valpars at zero = refl
along_false values valpars at (suc n) = rw (along_false values valpars (suc at) n)

-- the last row of a chain stands for the rows after it
along_last : (values valpars : List ℤ) (last : Bool) (at n : ℕ)
    → valid_along values valpars last at (suc n)
    ≡ valid_along values valpars (last && same_integer (get_or values (at + n) (pos 0)) (get_or valpars (at + n) (pos 0))) at n
unfolding valid_along
along_last values valpars last at zero = let e : at + 0 ≡ at = omega arith in rw e
along_last values valpars last at (suc n) =
    let e : suc at + n ≡ at + suc n = omega arith in
    rw (along_last values valpars last (suc at) n, e)

-- what is stored behind the rows doesn't count
along_set : (values valpars : List ℤ) (last : Bool) (v z : ℤ) (j at n : ℕ) → at + n ≤ j
    → valid_along (set values j v) (set valpars j z) last at n ≡ valid_along values valpars last at n
unfolding valid_along
along_set values valpars last v z j at zero h = refl
along_set values valpars last v z j at (suc n) h =
    rw (
      along_set values valpars last v z j (suc at) n (omega arith),
      get_or-set_other values j at v (pos 0) (λ e. omega arith),
      get_or-set_other valpars j at z (pos 0) (λ e. omega arith),
    )

along_more : (values valpars : List ℤ) (last : Bool) (v z : ℤ) (n : ℕ) → n < length values → n < length valpars
    → valid_along (set values n v) (set valpars n z) last 0 (n + 1) ≡ valid_along values valpars (last && same_integer v z) 0 n
along_more values valpars last v z n h k =
    let e : 0 + n ≡ n = omega arith in
    ap (valid_along (set values n v) (set valpars n z) last 0) (add-one n)
    ∙ along_last (set values n v) (set valpars n z) last 0 n
    ∙ rw (e, get_or-set_same values n v (pos 0) h, get_or-set_same valpars n z (pos 0) k)
    (along_set values valpars (last && same_integer v z) v z n 0 n (omega arith))

module _ (rows : Rows) (p : List ℕ) (spid : ℕ) where
  -- n rows from `row` on are stored: with the validity of the row `at` that comes next, they give that of `row`
  pub record Following (row : PcfRow) (values valpars : List ℤ) (at : PcfRow) (n : ℕ) : Type 0 where
    pub few : n ≤ 16
    pub room : length values ≡ 16
    pub room_valpar : length valpars ≡ 16
    pub fits : SFits w64 at.valpar
    pub whole : (left : ℕ) → 16 ≤ left → valid_along values valpars (valid_within rows p spid (left - n) at) 0 n ≡ valid_within rows p spid left row

  pub follow_start : (row : PcfRow) (values valpars : List ℤ) → length values ≡ 16 → length valpars ≡ 16 → SFits w64 row.valpar
      → Following row values valpars row 0
  unfolding valid_along
  follow_start row values valpars h k v =
      record { few = omega arith; room = h; room_valpar = k; fits = v; whole = λ left _. let e : left - 0 ≡ left = omega arith in rw e }

  module _ {row : PcfRow} {values valpars : List ℤ} {at : PcfRow} {n : ℕ} (f : Following row values valpars at n) where
    ended : (b : Bool) (left : ℕ) → 16 ≤ left → b ≡ valid_within rows p spid (left - n) at → valid_along values valpars b 0 n ≡ valid_within rows p spid left row
    ended b left h e = ap (λ (x : Bool). valid_along values valpars x 0 n) e ∙ f.whole left h

    pub follow_free : at.valid.given ≡ false → Followed rows p spid row values valpars (chain_end n true at)
    follow_free t =
        record {
          few = f.few;
          whole = λ left h. ended true left h (valid_free rows p spid (left - n) at at refl t);
          on_free = λ _. refl;
        }

    pub follow_on : (n < 16 → ⊥) → Followed rows p spid row values valpars (record { count = n; on = true; free = true; row = at })
    follow_on m =
        record {
          few = f.few;
          whole = λ left h. let e : left - 16 ≡ left - n = omega (arith, f.few, m) in rw e (f.whole left h);
          on_free = λ _. refl;
        }

    module _ (t : at.valid.given ≡ true) (m : n < 16) (found : Option Asked)
        (is : (valid : PcfRow → Bool) (valpar : ℤ) → asked_agrees valid found valpar ≡ agrees (reading_with rows p spid valid at.valid.name 0) valpar) where
      next : (left : ℕ) → 16 ≤ left → asked_agrees (valid_within rows p spid (left - (n + 1))) found at.valpar ≡ valid_within rows p spid (left - n) at
      next left h =
          let e : left - n - 1 ≡ left - (n + 1) = omega arith in
          is (valid_within rows p spid (left - (n + 1))) at.valpar
          ∙ valid_step rows p spid (left - n) at at refl t (λ z. omega arith) _ (rw e)

      pub follow_unreadable : found ≡ None → Followed rows p spid row values valpars (chain_end n false at)
      follow_unreadable q =
          record {
            few = f.few;
            whole = λ left h. ended false left h (sym (never_agrees _ found at.valpar q) ∙ next left h);
            on_free = λ e. absurd (false≢true e);
          }

      agreeing : {a : Asked} (left : ℕ) → 16 ≤ left → found ≡ Some a
          → (valid_within rows p spid (left - (n + 1)) a.row && same_integer a.value at.valpar) ≡ valid_within rows p spid (left - n) at
      unfolding asked_agrees
      agreeing left h q = let e = next left h in rw q at e

      pub follow_more : {a : Asked} → found ≡ Some a → SFits w64 a.row.valpar → (w z : ℤ) → w ≡ a.value → z ≡ at.valpar
          → Following row (set values n w) (set valpars n z) a.row (n + 1)
      follow_more {a = a} q v w z ew ez =
          record {
            few = omega arith;
            room = length-set values n w ∙ f.room;
            room_valpar = length-set valpars n z ∙ f.room_valpar;
            fits = v;
            whole = λ left h.
                rw (ew, ez)
                (along_more values valpars (valid_within rows p spid (left - (n + 1)) a.row) a.value at.valpar n
                (omega (arith, f.room)) (omega (arith, f.room_valpar)) ∙ ended _ left h (agreeing left h q));
          }

  -- a block that was asked
  module _ (row : PcfRow) (values valpars : List ℤ) (end : BlockEnd) (f : Followed rows p spid row values valpars end) (valid : Bool)
      (asked : valid ≡ valid_along values valpars end.free 0 (min end.count block_rows)) where
    valid_is : valid ≡ valid_along values valpars end.free 0 end.count
    valid_is = let e : min end.count block_rows ≡ end.count = omega (arith, f.few) in rw e at asked

    -- where the chain goes on, by whether the row that it goes on from is valid
    module _ (on : end.on ≡ true) where
      all_valid : valid ≡ valid_along values valpars true 0 end.count
      all_valid = let e = f.on_free on in rw e at valid_is

      passes : valid ≡ true → (x : Bool) → valid_along values valpars x 0 end.count ≡ x
      passes t true = sym all_valid ∙ t
      passes t false = along_false values valpars 0 end.count

      stops : valid ≡ false → (x : Bool) → valid_along values valpars x 0 end.count ≡ false
      stops t true = sym all_valid ∙ t
      stops t false = along_false values valpars 0 end.count

    pub block_agrees : valid ≡ true → (left : ℕ) → block_rows ≤ left
        → after_block rows p spid (left - block_rows) (record { on = end.on; valid = valid; row = end.row }) ≡ valid_within rows p spid left row
    unfolding after_block
    block_agrees t left h = by end.on refl (f.whole left h)
      where
        by : (on : Bool) → end.on ≡ on
            → valid_along values valpars (cond on (valid_within rows p spid (left - block_rows) end.row) end.free) 0 end.count
            ≡ valid_within rows p spid left row
            → cond on (valid_within rows p spid (left - block_rows) end.row) valid ≡ valid_within rows p spid left row
        by true e w = sym (passes e t (valid_within rows p spid (left - block_rows) end.row)) ∙ w
        by false e w = valid_is ∙ w

    pub block_ends : valid ≡ false → (left : ℕ) → block_rows ≤ left
        → after_block rows p spid (left - block_rows) (record { on = false; valid = valid; row = end.row }) ≡ valid_within rows p spid left row
    unfolding after_block
    block_ends t left h = by end.on refl (f.whole left h)
      where
        by : (on : Bool) → end.on ≡ on
            → valid_along values valpars (cond on (valid_within rows p spid (left - block_rows) end.row) end.free) 0 end.count
            ≡ valid_within rows p spid left row
            → valid ≡ valid_within rows p spid left row
        by true e w = t ∙ sym (stops e t (valid_within rows p spid (left - block_rows) end.row)) ∙ w
        by false e w = valid_is ∙ w

  -- what a block says of the row that it starts with, and the last rows that a chain may have
  module _ (b : Block) (left : ℕ) {x : Bool} (e : after_block rows p spid left b ≡ x) where
    pub block_last : b.on ≡ false → b.valid ≡ x
    unfolding after_block
    block_last o = rw o at e

    pub block_on : b.on ≡ true → valid_within rows p spid left b.row ≡ x
    unfolding after_block
    block_on o = rw o at e

  pub no_block : (row : PcfRow) {left : ℕ} {x : Bool} → left ≡ 0 → valid_within rows p spid left row ≡ x → not row.valid.given ≡ x
  unfolding valid_within
  no_block row z e = rw z at e
