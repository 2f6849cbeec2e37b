-- A packet is accepted once: offered again it is refused, at once or after the next,
-- and packets played again change nothing.
use mathlib.Core.Path.{◌≡◌, refl, sym, ◌∙◌}
use mathlib.Core.Bool.{true, false}
use mathlib.Core.List.{List, [], ◌∷◌, Memᴰ}
use Prim.Native.Nat.{ℕ, ◌+◌, ◌%◌, ◌≤◌}
use Rattle.laws.specs.Lists.{any}
use Rattle.laws.proofs.Cases.{false≢true, false_of, or_left, or_right}
use Rattle.laws.proofs.Tests.{any_witness}
use Rattle.headers.specs.Header.{apid, sequence_count}
use Rattle.headers.proofs.HeaderLaws.{head_tells}
use Rattle.outcomes.specs.Outcome.{Outcome, refused, answer}
use Rattle.database.specs.Rows.{Rows}
use Rattle.limit_state.specs.State.{is_a_state, is_newer}
use Rattle.limit_state.specs.declared.state.LimitState.{LimitState}
use Rattle.limit_state.proofs.StateLaws.{never_newer, one_way, behind_old}
use Rattle.stepping.specs.Step.{step_in, after_packets}
use Rattle.accepting.specs.Accepted.{state_after}
use Rattle.accepting.proofs.TimeLaws.{time_old}
use Rattle.stepping.proofs.AcceptedLaws.{Accepted, accepted_by, offered_again, left_fresh, left_apid, left_count, left_state}

-- a packet that was accepted is refused by any state of its APID to which it isn't newer
refused_old : {rows : Rows} {p name : List ℕ} {s t : LimitState} → Accepted rows p name s t → (u : LimitState) → is_a_state u ≡ true
    → u.fresh ≡ false → apid p ≡ u.apid → is_newer (sequence_count p) u.count ≡ false → step_in rows p name u ≡ refused 35 0
refused_old {p = p} a u st f i o =
    let tells = head_tells p a.headed in
    offered_again a u st (sym (time_old u a.head f (tells.id ∙ i) (rw tells.last o)))

module _ (rows : Rows) (p name : List ℕ) (s : LimitState) {t : LimitState} where
  -- 01: "Same count again: 35": a packet that was accepted is refused by the state that it left
  pub once : step_in rows p name s ≡ answer t → step_in rows p name t ≡ refused 35 0
  once e =
      let a = accepted_by rows p name s e in
      let same : is_newer (sequence_count p) t.count ≡ false = rw (left_count a) (never_newer (sequence_count p)) in
      refused_old a t (left_state a) (left_fresh a) (sym (left_apid a)) same

  -- the packet before isn't taken again either: p, then q, then p again is refused
  pub never_back : (q : List ℕ) {u : LimitState} → step_in rows p name s ≡ answer t → step_in rows q name t ≡ answer u → step_in rows p name u ≡ refused 35 0
  never_back q {u} e k =
      let a = accepted_by rows p name s e in
      let b = accepted_by rows q name t k in
      let tells = head_tells q b.headed in
      let newer = b.newer (left_fresh a) in
      let ahead : is_newer (sequence_count q) (sequence_count p) ≡ true = rw (tells.last, left_count a) at newer.1 in
      let older : is_newer (sequence_count p) u.count ≡ false = rw (left_count b) (one_way (sequence_count q) (sequence_count p) ahead) in
      refused_old a u (left_state b) (left_fresh b) (sym (left_apid a) ∙ sym newer.0 ∙ tells.id ∙ sym (left_apid b)) older

-- a packet played twice leaves what it leaves once, accepted or not
module _ (rows : Rows) (p name : List ℕ) where
  abbrev pub played : LimitState → LimitState
  played s = state_after s (step_in rows p name s)

  pub played_twice : (s : LimitState) → played (played s) ≡ played s
  unfolding state_after
  played_twice s = go (step_in rows p name s) refl
    where
      go : (o : Outcome LimitState) → step_in rows p name s ≡ o → state_after (state_after s o) (step_in rows p name (state_after s o)) ≡ state_after s o
      go (refused n place) e = rw e
      go (answer t) e = rw (once rows p name s e)

-- packets that aren't newer, whatever their APID, leave a state that isn't fresh as it was
module _ (rows : Rows) (name : List ℕ) (s : LimitState) (used : s.fresh ≡ false) where
  pub old_ignored : (p : List ℕ) → is_newer (sequence_count p) s.count ≡ false → state_after s (step_in rows p name s) ≡ s
  unfolding state_after
  old_ignored p old = go (step_in rows p name s) refl
    where
      go : (o : Outcome LimitState) → step_in rows p name s ≡ o → state_after s o ≡ s
      go (refused n place) e = refl
      go (answer t) e =
          let a = accepted_by rows p name s e in
          absurd (false≢true (sym old ∙ (rw (head_tells p a.headed).last at (a.newer used).1)))

  -- so an hour of packets played again changes nothing, as long as none of them is newer
  pub played_again : (packets : List (List ℕ)) → any (λ p. is_newer (sequence_count p) s.count) packets ≡ false → after_packets rows name s packets ≡ s
  unfolding after_packets
  played_again [] none_newer = refl
  played_again (p ∷ later) none_newer =
      let newer = is_newer (sequence_count p) s.count in
      let others = any (λ q. is_newer (sequence_count q) s.count) later in
      let old = false_of newer (λ t. false≢true (sym none_newer ∙ or_left others t)) in
      let old-others = false_of others (λ t. false≢true (sym none_newer ∙ or_right newer t)) in
      rw (old_ignored p old) (played_again later old-others)

  -- a packet whose count is behind the state's by 0 to 8,192, modulo 16,384
  pub record Behind (p : List ℕ) : Type 0 where
    pub by : ℕ
    pub near : by ≤ 8192
    pub last : (sequence_count p + by) % 16384 ≡ s.count % 16384

  none_newer : (packets : List (List ℕ)) → ((p : List ℕ) → Memᴰ p packets → Behind p) → any (λ p. is_newer (sequence_count p) s.count) packets ≡ false
  none_newer packets behind = false_of _ (λ t. newer_behind (any_witness (λ p. is_newer (sequence_count p) s.count) packets t))
    where
      newer_behind : (p : List ℕ) × Memᴰ p packets × (is_newer (sequence_count p) s.count ≡ true) → ⊥
      newer_behind w =
          let b = behind w.0 w.1 in
          false≢true (sym (behind_old (sequence_count w.0) s.count b.by b.near b.last) ∙ w.2)

  -- the same by distance: packets that are behind change nothing, however many and in whatever order
  pub played_behind : (packets : List (List ℕ)) → ((p : List ℕ) → Memᴰ p packets → Behind p) → after_packets rows name s packets ≡ s
  played_behind packets behind = played_again packets (none_newer packets behind)
