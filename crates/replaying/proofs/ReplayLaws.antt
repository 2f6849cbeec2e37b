-- Blocks, one after the other.
use Prim.Native.Nat.{ℕ, ◌+◌, ◌-◌, min, ◌≤◌}
use mathlib.Core.Path.{◌≡◌, refl, sym, ap, subst, ◌∙◌}
use mathlib.Core.List.{List, [], ◌∷◌, ◌++◌}
use native.Mathlib.Omega.{arith}
use lib.ListN.{length, length-append}
use Rattle.lines.specs.Columns.{part_of}
use Rattle.archives.specs.Packets.{length_said, is_complete, packets_in, left_in}
use Rattle.archives.specs.Blocks.{Refilled}
use Rattle.archives.proofs.PacketLaws.{packets_none, left_none}
use Rattle.archives.proofs.BlockLaws.{part_length, part_of_front, new_bytes, packets_next, left_next}
use Rattle.database.specs.Rows.{Rows}
use Rattle.limit_state.specs.declared.state.LimitState.{LimitState}
use Rattle.accepting.specs.Accepted.{state_after}
use Rattle.stepping.specs.Step.{step_in, after_packets}
use Rattle.playing.specs.Plays.{fresh_state, capped_sum, Plays}
use Rattle.replaying.specs.declared.Standing.{Standing}
use Rattle.replaying.specs.Replayed.{AtStart, BlockReplayed, Replayed}

-- the bytes so far, and what is left over of them stands in the block
pub record ReplayedSo (rows : Rows) (name : List ℕ) (so : Standing) (block : List ℕ) : Type 0 where
  pub bytes : List ℕ
  pub state : so.replay.state ≡ after_packets rows name fresh_state (packets_in bytes)
  pub packets : so.replay.packets ≡ capped_sum 0 (length (packets_in bytes))
  pub left : left_in bytes ≡ part_of block so.from so.to
  pub within : so.to ≤ length block

module _ (rows : Rows) (name : List ℕ) where
  pub replayed_none : {s : Standing} {block : List ℕ} → AtStart s → ReplayedSo rows name s block
  unfolding after_packets is_complete length_said
  replayed_none {s} {block} h =
      let none : packets_in [] ≡ [] = packets_none [] refl in
      let empty : left_in [] ≡ [] = left_none [] refl in
      record {
        bytes = [];
        state = h.state ∙ ap (λ (ps : List (List ℕ)). after_packets rows name fresh_state ps) (sym none);
        packets = h.packets ∙ ap (λ (ps : List (List ℕ)). capped_sum 0 (length ps)) (sym none);
        left = empty ∙ rw (h.from, h.to);
        within = omega (arith, h.to);
      }

  more : (s : LimitState) (ps qs : List (List ℕ)) → after_packets rows name s (ps ++ qs) ≡ after_packets rows name (after_packets rows name s ps) qs
  unfolding after_packets
  more s [] qs = refl
  more s (p ∷ ps) qs = more (state_after s (step_in rows p name s)) ps qs

  counts : (a b c n m : ℕ) → n ≡ capped_sum 0 a → m ≡ capped_sum n b → c ≡ a + b → m ≡ capped_sum 0 c
  counts a b c n m e f g = omega arith

  pub replayed_more : {s t : Standing} {before block : List ℕ} → ReplayedSo rows name s before → BlockReplayed rows name s t before block
      → ReplayedSo rows name t block
  replayed_more {s} {t} {before} {block} so turned =
      let r = turned.refilled in
      let p = turned.plays in
      let new = new_bytes r so.bytes so.left in
      let all : List ℕ = part_of block 0 t.to in
      let packets = packets_next r so.bytes so.left in
      let number = ap length packets ∙ length-append (packets_in so.bytes) (packets_in all) in
      record {
        bytes = so.bytes ++ new;
        state =
            p.state
            ∙ ap (λ (u : LimitState). after_packets rows name u (packets_in all)) so.state
            ∙ sym (more fresh_state (packets_in so.bytes) (packets_in all))
            ∙ ap (λ (ps : List (List ℕ)). after_packets rows name fresh_state ps) (sym packets);
        packets = counts _ _ _ _ _ so.packets p.packets number;
        left = left_next r so.bytes so.left ∙ sym p.left ∙ part_of_front block t.from t.to;
        within = r.most;
      }

  pub replayed_end : {s : Standing} {block : List ℕ} → ReplayedSo rows name s block → Replayed rows name s
  replayed_end {s} {block} so =
      let size = ap length so.left ∙ part_length block s.from s.to in
      record { bytes = so.bytes; state = so.state; packets = so.packets; left = size ∙ ends s.to (length block) s.from so.within }
    where
      ends : (to n from : ℕ) → to ≤ n → min to n - from ≡ to - from
      ends to n from h = omega arith

  -- nothing read leads nowhere
  pub replayed_start : {s : Standing} → AtStart s → Replayed rows name s
  replayed_start {s} h = replayed_end (replayed_none {block = []} h)

  -- the packets of a block are those of the bytes that stand in it
  pub turned : {s t : Standing} {before block bytes : List ℕ} → Refilled s.from s.to t.to before block → bytes ≡ part_of block 0 t.to
      → Plays rows name s.replay bytes t.replay t.from → BlockReplayed rows name s t before block
  turned {s} {t} r q p = record { refilled = r; plays = subst (λ (l : List ℕ). Plays rows name s.replay l t.replay t.from) q p }
