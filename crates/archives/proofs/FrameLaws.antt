-- Where a packet ends, by the two bytes of its length field.
use Prim.Native.Nat.{ℕ, ◌+◌, ◌-◌, ◌*◌, ◌≤◌, ◌<◌}
use mathlib.Core.Path.{◌≡◌, refl, sym, ap, ap₂, ◌∙◌}
use mathlib.Core.Bool.{Bool, true, false, cond}
use mathlib.Core.List.{List, ◌∷◌}
use native.Mathlib.Omega.{arith}
use lib.ListN.{length, take, drop, get_or, length-drop}
use lib.Seq.{get_or-drop, drop-drop}
use borrow.Author.Tests.{le-leb, lt-leb}
use Rattle.std.specs.Prelude.{Some, None}
use Rattle.lines.specs.Columns.{part_of}
use Rattle.archives.specs.Packets.{length_said, is_complete, packets_in, left_in}
use Rattle.archives.specs.Framing.{framed_at}
use Rattle.archives.proofs.PacketLaws.{said_least, whole_long, packets_whole, left_whole}

module _ (bytes : List ℕ) (at : ℕ) where
  beyond : (n : ℕ) → length_said (drop at bytes) ≡ n → length bytes - at < n → None ≡ framed_at bytes at
  unfolding framed_at is_complete
  beyond n e h = rw (lt-leb (length_said (drop at bytes)) (length (drop at bytes)) (simp length-drop (omega arith)))

  -- fewer bytes than the shortest packet has
  pub framed_short : length bytes - at < 7 → None ≡ framed_at bytes at
  framed_short h = beyond (length_said (drop at bytes)) refl (omega (arith, said_least (drop at bytes)))

  module _ {a b : ℕ} (high : a ≡ get_or bytes (at + 4) 0) (low : b ≡ get_or bytes (at + 5) 0) where
    said_here : length_said (drop at bytes) ≡ a * 256 + b + 7
    unfolding length_said
    said_here = rw (get_or-drop at bytes 4 0, get_or-drop at bytes 5 0, ← high, ← low)

    pub framed_cut : length bytes - at < a * 256 + b + 7 → None ≡ framed_at bytes at
    framed_cut h = beyond (a * 256 + b + 7) said_here h

    pub framed_whole : a * 256 + b + 7 ≤ length bytes - at → Some (at + (a * 256 + b + 7)) ≡ framed_at bytes at
    unfolding framed_at is_complete
    framed_whole h =
        rw (le-leb (length_said (drop at bytes)) (length (drop at bytes)) (simp length-drop (omega (arith, said_here))), said_here)

-- What the answer says of the bytes

said_whole : (b : Bool) (n m : ℕ) → cond b (Some n) None ≡ Some m → (b ≡ true) × (m ≡ n)
said_whole true n m e = (refl, cc)
said_whole false n m e = absurd (let z : ◌≡◌ {A = ℕ} 0 1 = cc in omega arith)

said_cut : (b : Bool) (n : ℕ) → cond b (Some n) None ≡ None → b ≡ false
said_cut true n e = absurd (let z : ◌≡◌ {A = ℕ} 0 1 = cc in omega arith)
said_cut false n e = refl

module _ (bytes : List ℕ) (at : ℕ) where
  pub whole_says : {end : ℕ} → framed_at bytes at ≡ Some end → (is_complete (drop at bytes) ≡ true) × (end ≡ at + length_said (drop at bytes))
  unfolding framed_at
  whole_says {end} e = said_whole (is_complete (drop at bytes)) (at + length_said (drop at bytes)) end e

  pub cut_says : framed_at bytes at ≡ None → is_complete (drop at bytes) ≡ false
  unfolding framed_at
  cut_says e = said_cut (is_complete (drop at bytes)) (at + length_said (drop at bytes)) e

-- a whole packet is the next of the packets, and those behind it are the others
module _ (bytes : List ℕ) (at : ℕ) {end : ℕ} (w : framed_at bytes at ≡ Some end) where
  ends : end ≡ at + length_said (drop at bytes)
  ends = (whole_says bytes at w).1

  rest_is : drop end bytes ≡ drop (length_said (drop at bytes)) (drop at bytes)
  rest_is = ap (λ (i : ℕ). drop i bytes) ends ∙ sym (drop-drop (length_said (drop at bytes)) at bytes)

  long : length_said (drop at bytes) ≤ length bytes - at
  long = rw (← (length-drop at bytes)) (whole_long (drop at bytes) (whole_says bytes at w).0)

  pub next_packets : {packet : List ℕ} → packet ≡ part_of bytes at end → packets_in (drop at bytes) ≡ packet ∷ packets_in (drop end bytes)
  next_packets {packet} q =
      let size : end - at ≡ length_said (drop at bytes) = omega (arith, ends) in
      packets_whole (drop at bytes) (whole_says bytes at w).0
      ∙ ap₂ (λ (i : ℕ) (l : List ℕ). take i (drop at bytes) ∷ packets_in l) (sym size) (sym rest_is)
      ∙ ap (λ (p : List ℕ). p ∷ packets_in (drop end bytes)) (sym q)

  pub next_left : left_in (drop end bytes) ≡ left_in (drop at bytes)
  next_left = ap left_in rest_is ∙ sym (left_whole (drop at bytes) (whole_says bytes at w).0)

  pub next_within : end ≤ length bytes
  next_within = omega (arith, ends, long, said_least (drop at bytes))

  pub next_less : length bytes - end < length bytes - at
  next_less = omega (arith, ends, long, said_least (drop at bytes))
