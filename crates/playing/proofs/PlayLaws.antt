-- The packets of bytes, one after the other.
use Prim.Native.Nat.{ℕ, suc, ◌≤◌}
use mathlib.Core.Path.{◌≡◌, refl, sym, ap, ◌∙◌}
use mathlib.Core.List.{List, [], ◌∷◌}
use native.Mathlib.Omega.{arith}
use lib.ListN.{length, drop}
use Rattle.std.specs.Prelude.{Some, None}
use Rattle.lines.specs.Columns.{part_of}
use Rattle.archives.specs.Packets.{packets_in, left_in}
use Rattle.archives.specs.Framing.{framed_at}
use Rattle.archives.proofs.PacketLaws.{packets_none, left_none}
use Rattle.archives.proofs.FrameLaws.{cut_says, next_packets, next_left, next_within}
use Rattle.database.specs.Rows.{Rows}
use Rattle.limit_state.specs.declared.state.LimitState.{LimitState}
use Rattle.accepting.specs.Accepted.{state_after}
use Rattle.stepping.specs.Step.{step_in, after_packets}
use Rattle.playing.specs.declared.Replay.{Replay}
use Rattle.playing.specs.Plays.{capped_sum, Plays}

-- what is still to be offered leads to where all of it leads
pub record PlaysSo (rows : Rows) (name : List ℕ) (begun : Replay) (bytes : List ℕ) (replay : Replay) (at : ℕ) : Type 0 where
  pub state : after_packets rows name replay.state (packets_in (drop at bytes)) ≡ after_packets rows name begun.state (packets_in bytes)
  pub packets : capped_sum replay.packets (length (packets_in (drop at bytes))) ≡ capped_sum begun.packets (length (packets_in bytes))
  pub left : left_in (drop at bytes) ≡ left_in bytes
  pub within : at ≤ length bytes
  pub fits : replay.packets ≤ 18446744073709551615

module _ (rows : Rows) (name : List ℕ) where
  pub plays_none : {begun : Replay} {bytes : List ℕ} → begun.packets ≤ 18446744073709551615 → PlaysSo rows name begun bytes begun 0
  plays_none h = record { state = refl; packets = refl; left = refl; within = omega arith; fits = h }

  offered : (s t : LimitState) (p : List ℕ) (ps : List (List ℕ)) → t ≡ state_after s (step_in rows p name s)
      → after_packets rows name t ps ≡ after_packets rows name s (p ∷ ps)
  unfolding after_packets
  offered s t p ps e = ap (λ (u : LimitState). after_packets rows name u ps) e

  module _ {begun replay : Replay} {bytes : List ℕ} {at : ℕ} (so : PlaysSo rows name begun bytes replay at) where
    pub plays_more : {after : Replay} {end : ℕ} {packet : List ℕ} → framed_at bytes at ≡ Some end → packet ≡ part_of bytes at end
        → after.state ≡ state_after replay.state (step_in rows packet name replay.state)
        → after.packets ≡ capped_sum replay.packets 1
        → PlaysSo rows name begun bytes after end
    plays_more {after} {end} {packet} w q s k =
        let all = next_packets bytes at w q in
        record {
          state =
              offered replay.state after.state packet (packets_in (drop end bytes)) s
              ∙ ap (λ (ps : List (List ℕ)). after_packets rows name replay.state ps) (sym all)
              ∙ so.state;
          packets =
              counts replay.packets after.packets (length (packets_in (drop end bytes))) (length (packets_in (drop at bytes))) k (ap length all)
              ∙ so.packets;
          left = next_left bytes at w ∙ so.left;
          within = next_within bytes at w;
          fits = omega arith;
        }
      where
        counts : (n m k j : ℕ) → m ≡ capped_sum n 1 → j ≡ suc k → capped_sum m k ≡ capped_sum n j
        counts n m k j e f = omega arith

    pub plays_end : framed_at bytes at ≡ None → Plays rows name begun bytes replay at
    unfolding after_packets
    plays_end c =
        let f = cut_says bytes at c in
        let none : packets_in (drop at bytes) ≡ [] = packets_none (drop at bytes) f in
        record {
          state = ap (λ (ps : List (List ℕ)). after_packets rows name replay.state ps) (sym none) ∙ so.state;
          packets = last replay.packets so.fits ∙ ap (λ (ps : List (List ℕ)). capped_sum replay.packets (length ps)) (sym none) ∙ so.packets;
          left = sym (left_none (drop at bytes) f) ∙ so.left;
          within = so.within;
        }
      where
        last : (n : ℕ) → n ≤ 18446744073709551615 → n ≡ capped_sum n 0
        last n h = omega arith
