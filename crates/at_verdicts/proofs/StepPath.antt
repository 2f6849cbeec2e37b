-- What a limit step checks before its rows, 34 and 20 to 25: any other refusal comes later,
-- of a packet that is identified.
use mathlib.Core.Path.{◌≡◌, refl, ap, ◌∙◌}
use mathlib.Core.Bool.{Bool, true, false, cond}
use mathlib.Core.List.{List, [], ◌∷◌}
use Prim.Native.Nat.{ℕ}
use native.Mathlib.Omega.{arith}
use lib.Dec.{eqb}
use Rattle.laws.specs.Lists.{any}
use Rattle.name_bytes.specs.Names.{name_of}
use Rattle.outcomes.specs.Outcome.{Outcome, answer, refused, and_then}
use Rattle.database.specs.Rows.{Rows}
use Rattle.headers.specs.Header.{head_of}
use Rattle.identification.specs.Identification.{Identity, identify_headed, identify_by}
use Rattle.headers.specs.declared.Head.{Head}
use Rattle.limit_state.specs.State.{is_a_state}
use Rattle.limit_state.specs.declared.state.LimitState.{LimitState}
use Rattle.accepting.specs.Time.{state_in}
use Rattle.stepping.specs.Step.{step_of, step_headed, step_in}
use Rattle.at_verdicts.proofs.NumberLaws.{never_one, then_is, later, earlier}
use Rattle.at_verdicts.proofs.PacketNumbers.{identifying, head_numbers, headed_numbers}
use Rattle.at_verdicts.proofs.StepNumbers.{state_numbers}

state_is : (s old : LimitState) → state_in s ≡ answer old → (is_a_state s ≡ true) × (s ≡ old)
unfolding state_in
state_is s old e = go (is_a_state s) refl e
  where
    go : (b : Bool) → is_a_state s ≡ b → cond b (answer s) (refused 34 0) ≡ answer old → (is_a_state s ≡ true) × (s ≡ old)
    go true t e = (t, cc)
    go false t e = absurd (let z : ◌≡◌ {A = ℕ} 0 1 = cc in omega arith)

-- the state is one, the packet is identified, and what then comes is refused so
pub record At (rows : Rows) (p name : List ℕ) (s : LimitState) (number place : ℕ) : Type 0 where
  pub state : is_a_state s ≡ true
  pub head : Head
  pub headed : head_of p ≡ answer head
  pub identity : Identity
  pub identified : identify_by rows p ≡ answer identity
  pub on : step_of rows p (name_of name) s head identity.spid ≡ refused number place

module _ (rows : Rows) (p name : List ℕ) (s : LimitState) (number place : ℕ) where
  abbrev from : LimitState → Head → Outcome LimitState
  from old head = step_headed rows p (name_of name) old head

  abbrev on : LimitState → Head → Identity → Outcome LimitState
  on old head identity = step_of rows p (name_of name) old head identity.spid

  -- a refusal that is none of 34 and 20 to 25 comes after them
  pub step_at_lem : any (eqb number) (0 ∷ 34 ∷ []) ≡ false → any (eqb number) (0 ∷ identifying) ≡ false → step_in rows p name s ≡ refused number place
      → At rows p name s number place
  unfolding step_in step_headed identify_by
  step_at_lem x y e =
      let a = later number place (state_in s) (λ old. and_then (head_of p) (from old)) (never_one number (34 ∷ []) (state_in s) x (state_numbers s)) e in
      let b = later number place (head_of p) (from a.0) (never_one number identifying (head_of p) y (head_numbers p)) a.2 in
      let c = later number place (identify_headed rows b.0 p) (on a.0 b.0)
      (never_one number identifying (identify_headed rows b.0 p) y (headed_numbers rows b.0 p)) b.2 in
      let t = state_is s a.0 a.1 in
      record {
        state = t.0;
        head = b.0;
        headed = b.1;
        identity = c.0;
        identified = then_is (head_of p) (λ head. identify_headed rows head p) b.0 b.1 ∙ c.1;
        on = ap (λ (old : LimitState). step_of rows p (name_of name) old b.0 c.0.spid) t.1 ∙ c.2;
      }

  -- and the other way round
  pub step_on : (identity : Identity) → is_a_state s ≡ true → identify_by rows p ≡ answer identity
      → ((head : Head) → head_of p ≡ answer head → step_of rows p (name_of name) s head identity.spid ≡ refused number place)
      → step_in rows p name s ≡ refused number place
  unfolding step_in step_headed identify_by state_in
  step_on identity t i h =
      let w = earlier (head_of p) (λ head. identify_headed rows head p) identity i in
      then_is (state_in s) (λ old. and_then (head_of p) (from old)) s (rw t)
      ∙ then_is (head_of p) (from s) w.0 w.1
      ∙ then_is (identify_headed rows w.0 p) (on s w.0) identity w.2
      ∙ h w.0 w.1
