-- What passes the refusals of a step, and what an accepted packet leaves.
use mathlib.Core.Path.{◌≡◌, refl, sym, ap, subst, ◌∙◌}
use mathlib.Core.Bool.{Bool, true, false, cond}
use mathlib.Core.List.{List, map}
use Prim.Native.Nat.{ℕ, ◌≤◌}
use native.Mathlib.Omega.{arith}
use lib.Dec.{eqb}
use lib.IntN.{ℤ}
use borrow.Author.Tests.{eqb-true}
use Rattle.laws.proofs.Cases.{false≢true}
use Rattle.name_bytes.specs.Names.{name_of}
use Rattle.rows.specs.declared.records.OcfRow.{OcfRow}
use Rattle.fields.proofs.BitLaws.{number_lt}
use Rattle.headers.specs.Header.{apid, sequence_count, head_of}
use Rattle.headers.specs.declared.Head.{Head}
use Rattle.headers.proofs.HeaderLaws.{head_tells}
use Rattle.outcomes.specs.Outcome.{Outcome, refused, answer, and_then}
use Rattle.database.specs.Rows.{Rows}
use Rattle.parameters.specs.Located.{Located, located}
use Rattle.identification.specs.Identification.{Identity, identify_headed}
use Rattle.limit_state.specs.State.{is_a_state, is_newer}
use Rattle.severity.specs.Checks.{severity_in}
use Rattle.limit_state.specs.declared.state.LimitState.{LimitState}
use Rattle.limit_state.proofs.StateLaws.{state_small, makes_state}
use Rattle.announced.proofs.SmallLaws.{readings_small}
use Rattle.applying.specs.Checks.{applying}
use Rattle.occurrences.specs.Values.{values_of}
use Rattle.accepting.specs.Time.{state_in, in_time}
use Rattle.occurrences.specs.Progress.{progress_by}
use Rattle.stepping.specs.Step.{limits_of, step_by, step_at, step_of, step_headed, step_in}
use Rattle.accepting.specs.Accepted.{progress_of, accepted}

-- what is answered in the end was answered at each step
module _ {A B : Type 0} (f : A → Outcome B) {b : B} where
  pub then_was : (o : Outcome A) → and_then o f ≡ answer b → (a : A) × (o ≡ answer a) × (f a ≡ answer b)
  unfolding and_then
  then_was (refused n place) e = absurd (false≢true cc)
  then_was (answer a) e = (a, refl, e)

-- an APID has 11 bits, and a count 14
apid_small : (p : List ℕ) → apid p ≤ 2047
unfolding apid
apid_small p = omega (arith, number_lt p 5 11)

count_small : (p : List ℕ) → sequence_count p ≤ 16383
unfolding sequence_count
count_small p = omega (arith, number_lt p 18 14)

-- a state that takes a packet is answered as it is
state_told : {s t : LimitState} → state_in s ≡ answer t → (is_a_state s ≡ true) × (t ≡ s)
unfolding state_in
state_told {s} {t} e = go (is_a_state s) e
  where
    go : (b : Bool) → cond b (answer s) (refused 34 0) ≡ answer t → (b ≡ true) × (t ≡ s)
    go true e = (refl, cc)
    go false e = absurd (false≢true cc)

module _ (s : LimitState) (head : Head) {t : LimitState} where
  tests : (x y z : Bool) → cond x (answer s) (cond y (cond z (answer s) (refused 35 0)) (refused 36 0)) ≡ answer t
      → (t ≡ s) × (x ≡ false → (y ≡ true) × (z ≡ true))
  tests true y z e = (cc, λ f. absurd (false≢true (sym f)))
  tests false true true e = (cc, λ f. (refl, refl))
  tests false true false e = absurd (false≢true cc)
  tests false false z e = absurd (false≢true cc)

  time_told : in_time s head ≡ answer t → (t ≡ s) × (s.fresh ≡ false → (head.apid ≡ s.apid) × (is_newer head.count s.count ≡ true))
  unfolding in_time
  time_told e =
      let k = tests s.fresh (eqb head.apid s.apid) (is_newer head.count s.count) e in
      (k.0, λ f. (eqb-true head.apid s.apid (k.1 f).0, (k.1 f).1))

-- What an accepted packet passed, and the state that it left

pub record Accepted (rows : Rows) (p name : List ℕ) (s t : LimitState) : Type 0 where
  pub head : Head
  pub identity : Identity
  pub ocf : OcfRow
  pub at : Located
  pub values : List ℤ
  pub state : is_a_state s ≡ true
  pub headed : head_of p ≡ answer head
  pub identified : identify_headed rows head p ≡ answer identity
  pub limited : limits_of rows (name_of name) ≡ answer ocf
  pub placed : located rows identity.spid (name_of name) ≡ answer at
  pub newer : s.fresh ≡ false → (head.apid ≡ s.apid) × (is_newer head.count s.count ≡ true)
  pub valued : values_of rows p identity.spid ocf at ≡ answer values
  pub left : t ≡ step_by (applying rows p identity.spid (name_of name)) ocf.nbchck head s values

module _ (rows : Rows) (p name : List ℕ) (s : LimitState) {t : LimitState} where
  pub accepted_by : step_in rows p name s ≡ answer t → Accepted rows p name s t
  unfolding step_in step_headed step_of step_at
  accepted_by e =
      let a = then_was _ (state_in s) e in
      let st = state_told a.1 in
      let b = then_was _ (head_of p) a.2 in
      let c = then_was _ (identify_headed rows b.0 p) b.2 in
      let d = then_was _ (limits_of rows (name_of name)) c.2 in
      let f = then_was _ (located rows c.0.spid (name_of name)) d.2 in
      let g = then_was _ (in_time a.0 b.0) f.2 in
      let tm = time_told a.0 b.0 g.1 in
      let h = then_was _ (values_of rows p c.0.spid d.0 f.0) g.2 in
      let same : g.0 ≡ s = tm.0 ∙ st.1 in
      record {
        head = b.0;
        identity = c.0;
        ocf = d.0;
        at = f.0;
        values = h.0;
        state = st.0;
        headed = b.1;
        identified = c.1;
        limited = d.1;
        placed = f.1;
        newer =
            subst (λ (x : LimitState). x.fresh ≡ false → (b.0.apid ≡ x.apid) × (is_newer b.0.count x.count ≡ true)) st.1 tm.1;
        valued = h.1;
        left = cc;
      }

-- The same packet in another state

module _ {rows : Rows} {p name : List ℕ} {s t : LimitState} (a : Accepted rows p name s t) where
  -- what it would answer is what the time of the state answers
  pub offered_again : (u : LimitState) {n : ℕ} → is_a_state u ≡ true → in_time u a.head ≡ refused n 0 → step_in rows p name u ≡ refused n 0
  unfolding step_in state_in step_headed step_of step_at and_then
  offered_again u st e = rw (st, a.headed, a.identified, a.limited, a.placed, e)

  -- what it left
  pub left_fresh : t.fresh ≡ false
  unfolding step_by accepted
  left_fresh = ap (λ (x : LimitState). x.fresh) a.left

  pub left_apid : t.apid ≡ apid p
  unfolding step_by accepted
  left_apid = ap (λ (x : LimitState). x.apid) a.left ∙ (head_tells p a.headed).id

  pub left_count : t.count ≡ sequence_count p
  unfolding step_by accepted
  left_count = ap (λ (x : LimitState). x.count) a.left ∙ (head_tells p a.headed).last

  left_small : (t.run ≤ 99) × (t.announced ≤ 2)
  unfolding step_by accepted progress_by progress_of
  left_small =
      let small = state_small s a.state in
      let checks = applying rows p a.identity.spid (name_of name) in
      let h = readings_small a.ocf.nbchck (map (severity_in checks) a.values) (record { run = s.run; announced = s.announced })
      (record { run = small.0; announced = small.1 }) in
      (rw a.left h.run, rw a.left h.announced)

  -- every state answered is one that the next step takes
  pub left_state : is_a_state t ≡ true
  left_state =
      let ha : t.apid ≤ 2047 = omega (arith, left_apid, apid_small p) in
      let hc : t.count ≤ 16383 = omega (arith, left_count, count_small p) in
      subst (λ (f : Bool). is_a_state record { fresh = f; apid = t.apid; count = t.count; run = t.run; announced = t.announced } ≡ true) (sym left_fresh)
      (makes_state t.apid t.count t.run t.announced ha hc left_small.0 left_small.1)

-- what holds of every state that a step answers
pub record Bounded (p : List ℕ) (t : LimitState) : Type 0 where
  -- 01: "An accepted packet always sets the APID and count and ends fresh"
  pub ended_fresh : t.fresh ≡ false
  pub sets_apid : t.apid ≡ apid p
  pub sets_count : t.count ≡ sequence_count p
  pub run_in : t.run ≤ 99
  pub announced_in : t.announced ≤ 2
  pub is_state : is_a_state t ≡ true

pub bounded : (rows : Rows) (p name : List ℕ) (s : LimitState) {t : LimitState} → step_in rows p name s ≡ answer t → Bounded p t
bounded rows p name s e =
    let a = accepted_by rows p name s e in
    record {
      ended_fresh = left_fresh a;
      sets_apid = left_apid a;
      sets_count = left_count a;
      run_in = (left_small a).0;
      announced_in = (left_small a).1;
      is_state = left_state a;
    }
