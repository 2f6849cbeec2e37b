-- Bytes moved to the start of a block, and bytes read behind them.
use Prim.Native.Nat.{ℕ, zero, suc, ◌+◌, ◌-◌, min, ◌≤◌, ◌<◌}
use mathlib.Core.Path.{◌≡◌, sym, ap, ◌∙◌}
use mathlib.Core.List.{List, ◌∷◌, [], ◌++◌}
use native.Mathlib.Omega.{arith}
use native.Mathlib.Nat.{sub-zero, zero-sub, suc-sub-suc}
use native.Mathlib.Numerals.{add-one}
use lib.ListN.{length, take, drop, get_or, set, length-take, length-drop, length-append, take-append-drop}
use lib.Seq.{take-suc, drop-cons, set_at, get_or-drop, get_or-append-add, length-take-le, take_at, append_snoc, take-append_seam, take-take, take-nil, drop_at, take-append-le}
use borrow.Rule.Slice.PartMut.{put_mid, post_of, take_put}
use Rattle.lines.specs.Columns.{part_of}
use Rattle.archives.specs.Packets.{packets_in, left_in}
use Rattle.archives.specs.Blocks.{Moved, Refilled}
use Rattle.archives.proofs.PacketLaws.{packets_append, left_append}

pub part_length : (block : List ℕ) (from to : ℕ) → length (part_of block from to) ≡ min to (length block) - from
part_length block from to = simp (length-take, length-drop) (omega arith)

-- after so many bytes were moved
abbrev pub moved_so : (block : List ℕ) (from i : ℕ) → List ℕ
moved_so block from i = take i (drop from block) ++ drop i block

module _ (block : List ℕ) (from i : ℕ) (h : from + i < length block) where
  front_long : length (take i (drop from block)) ≡ i
  front_long = length-take-le i (drop from block) (simp length-drop (omega arith))

  -- the byte that is moved next was not written yet
  next_byte : get_or (moved_so block from i) (from + i) 0 ≡ get_or (drop from block) i 0
  next_byte =
      let e : from + i ≡ length (take i (drop from block)) + from = omega (arith, front_long) in
      ap (λ (k : ℕ). get_or (moved_so block from i) k 0) e
      ∙ get_or-append-add (take i (drop from block)) (drop i block) from 0
      ∙ get_or-drop i block from 0
      ∙ ap (λ (k : ℕ). get_or block k 0) (omega arith)
      ∙ sym (get_or-drop from block i 0)

  pub moved_more : set (moved_so block from i) i (get_or (moved_so block from i) (from + i) 0) ≡ moved_so block from (i + 1)
  moved_more =
      rw (
        next_byte,
        drop-cons block i 0 (omega arith),
        set_at (take i (drop from block)) _ _ _ i front_long,
        add-one i,
        take-suc (drop from block) i 0 (simp length-drop (omega arith)),
        append_snoc,
      )

-- a part is as many bytes as it has
part_front : (n : ℕ) (l : List ℕ) → take (length (take n l)) l ≡ take n l
part_front n l = ap (λ (xs : List ℕ). take (length (take n l)) xs) (sym (take-append-drop n l)) ∙ take-append_seam (take n l) (drop n l)

pub moved_all : (from to count : ℕ) (before after : List ℕ) → count ≡ min to (length before) - from → after ≡ moved_so before from count
    → Moved from to count before after
moved_all from to count before after e m =
    let l : count ≡ length (part_of before from to) = e ∙ sym (part_length before from to) in
    let front = ap (λ (k : ℕ). take k (drop from before)) l ∙ part_front (to - from) (drop from before) in
    record { number = l; front = m ∙ ap (λ (xs : List ℕ). xs ++ drop count before) front }

module _ {from to count : ℕ} {before after : List ℕ} (m : Moved from to count before after) where
  pub moved_within : count ≤ length after
  moved_within = rw m.front (simp length-append (omega (arith, m.number)))

  kept_front : take count after ≡ part_of before from to
  kept_front = ap (λ (l : List ℕ). take count l) m.front ∙ take_at (part_of before from to) (drop count before) count (sym m.number)

  -- bytes read behind those that were moved
  pub refilled : (n : ℕ) (more : List ℕ) → n ≤ length more → Refilled from to (count + n) before (put_mid count (length after - count) after more)
  refilled n more h =
      let e = length-take-le count after moved_within in
      record {
        kept = rw (← m.number) (take_put count (length after - count) after more moved_within ∙ kept_front);
        least = omega (arith, m.number);
        most = simp length-append (omega arith);
      }

  -- they alone stand there
  pub part_behind : (n k : ℕ) (more : List ℕ) → n ≤ length more
      → part_of (put_mid count k after more) (length (part_of before from to)) (count + n) ≡ take n more
  part_behind n k more h =
      let same : (count + n) - count ≡ n = omega arith in
      let rest = post_of count k after in
      ap (λ (i : ℕ). part_of (put_mid count k after more) i (count + n)) (sym m.number)
      ∙ ap (take ((count + n) - count)) (drop_at (take count after) (more ++ rest) count (length-take-le count after moved_within))
      ∙ ap (λ (i : ℕ). take i (more ++ rest)) same
      ∙ take-append-le n more rest h

part_is : (u t : ℕ) (l : List ℕ) → drop u (take t l) ≡ part_of l u t
part_is zero t l = rw (sub-zero t)
part_is (suc u) zero l = rw (zero-sub (suc u))
part_is (suc u) (suc t) [] = sym (take-nil (suc t - suc u))
part_is (suc u) (suc t) (x ∷ l) = part_is u t l ∙ rw (suc-sub-suc t u)

-- a part of the bytes up to a place
pub part_of_front : (block : List ℕ) (from to : ℕ) → drop from (part_of block 0 to) ≡ part_of block from to
part_of_front block from to =
    ap (λ (n : ℕ). drop from (take n block)) (sub-zero to) ∙ part_is from to block

-- the bytes that were read before a block and those that were read into it
module _ {from to end : ℕ} {before block : List ℕ} (r : Refilled from to end before block) (bytes : List ℕ)
    (left : left_in bytes ≡ part_of before from to) where
  pub new_bytes : List ℕ
  new_bytes = drop (length (part_of before from to)) (part_of block 0 end)

  joined : left_in bytes ++ new_bytes ≡ part_of block 0 end
  unfolding new_bytes
  joined =
      let rest : List ℕ = part_of before from to in
      let front : take (length rest) (part_of block 0 end) ≡ rest =
      ap (λ (n : ℕ). take (length rest) (take n block)) (sub-zero end) ∙ take-take (length rest) end block r.least ∙ r.kept
      in
      ap (λ (l : List ℕ). l ++ drop (length rest) (part_of block 0 end)) (left ∙ sym front) ∙ take-append-drop (length rest) (part_of block 0 end)

  -- no packet is lost or doubled where they meet
  pub packets_next : packets_in (bytes ++ new_bytes) ≡ packets_in bytes ++ packets_in (part_of block 0 end)
  packets_next = packets_append bytes new_bytes ∙ ap (λ (l : List ℕ). packets_in bytes ++ packets_in l) joined

  pub left_next : left_in (bytes ++ new_bytes) ≡ left_in (part_of block 0 end)
  left_next = left_append bytes new_bytes ∙ ap left_in joined
