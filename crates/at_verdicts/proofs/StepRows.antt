-- The rows of a limit step and its time: what is found where they answer, and with which numbers they refuse.
use mathlib.Core.Path.{◌≡◌, refl}
use mathlib.Core.Bool.{Bool, true, false, cond}
use mathlib.Core.List.{[], ◌∷◌}
use mathlib.Core.Option.{Option, none, some}
use Prim.Native.Nat.{ℕ}
use native.Mathlib.Omega.{arith}
use lib.Dec.{eqb}
use Rattle.name_bytes.specs.declared.Name.{Name}
use Rattle.decoding.specs.Records.{ocf_row}
use Rattle.rows.specs.declared.records.OcfRow.{OcfRow}
use Rattle.verdicts.specs.Key.{location, parameter, limits}
use Rattle.outcomes.specs.Outcome.{Outcome, answer, refused, and_then}
use Rattle.database.specs.Rows.{Row, Rows}
use Rattle.headers.specs.declared.Head.{Head}
use Rattle.parameters.specs.Located.{Located, by_lines, needed, located}
use Rattle.limit_state.specs.State.{is_newer}
use Rattle.limit_state.specs.declared.state.LimitState.{LimitState}
use Rattle.accepting.specs.Time.{in_time}
use Rattle.stepping.specs.Step.{limits_from, limits_of}
use Rattle.at_verdicts.proofs.NumberLaws.{Numbered}

module _ (rows : Rows) (name : Name) where
  pub limits_none : rows.holder (limits name) ≡ none → limits_of rows name ≡ refused 33 0
  unfolding limits_of limits_from
  limits_none e = rw e

  pub limits_are : (ocf : Row) → rows.holder (limits name) ≡ some ocf → limits_of rows name ≡ answer (ocf_row ocf.bytes)
  unfolding limits_of limits_from
  limits_are ocf e = rw e

  pub limits_found : (o : OcfRow) → limits_of rows name ≡ answer o → (ocf : Row) × (rows.holder (limits name) ≡ some ocf) × (ocf_row ocf.bytes ≡ o)
  unfolding limits_of limits_from
  limits_found o e = go (rows.holder (limits name)) refl e
    where
      go : (h : Option Row) → rows.holder (limits name) ≡ h → limits_from h ≡ answer o
          → (ocf : Row) × (rows.holder (limits name) ≡ some ocf) × (ocf_row ocf.bytes ≡ o)
      go none q e = absurd (let z : ◌≡◌ {A = ℕ} 0 1 = cc in omega arith)
      go (some ocf) q e = (ocf, q, cc)

  pub limits_numbers : Numbered (33 ∷ []) (limits_of rows name)
  unfolding limits_of limits_from
  limits_numbers = go (rows.holder (limits name))
    where
      go : (h : Option Row) → Numbered (33 ∷ []) (limits_from h)
      go none = refl
      go (some ocf) = refl

  module _ (spid : ℕ) where
    abbrev by : (plf pcf : Option Row) → Outcome Located
    by plf pcf = and_then (needed plf) (λ plf. and_then (needed pcf) (λ pcf. answer (by_lines plf.bytes pcf.bytes)))

    -- both rows of a parameter
    pub record Both (at : Located) : Type 0 where
      pub plf : Row
      pub has_place : rows.holder (location name spid) ≡ some plf
      pub pcf : Row
      pub described : rows.holder (parameter name) ≡ some pcf
      pub are : by_lines plf.bytes pcf.bytes ≡ at

    pub located_found : (at : Located) → located rows spid name ≡ answer at → Both at
    unfolding located needed and_then
    located_found at e = go (rows.holder (location name spid)) (rows.holder (parameter name)) refl refl e
      where
        go : (a b : Option Row) → rows.holder (location name spid) ≡ a → rows.holder (parameter name) ≡ b → by a b ≡ answer at → Both at
        go none b q r e = absurd (let z : ◌≡◌ {A = ℕ} 0 1 = cc in omega arith)
        go (some plf) none q r e = absurd (let z : ◌≡◌ {A = ℕ} 0 1 = cc in omega arith)
        go (some plf) (some pcf) q r e = record { plf = plf; has_place = q; pcf = pcf; described = r; are = cc }

    pub located_numbers : Numbered (26 ∷ []) (located rows spid name)
    unfolding located needed and_then
    located_numbers = go (rows.holder (location name spid)) (rows.holder (parameter name))
      where
        go : (a b : Option Row) → Numbered (26 ∷ []) (by a b)
        go none b = refl
        go (some plf) none = refl
        go (some plf) (some pcf) = refl

-- a packet in time leaves the state
pub time_is : (s : LimitState) (head : Head) (old : LimitState) → in_time s head ≡ answer old → old ≡ s
unfolding in_time
time_is s head old e = go s.fresh (eqb head.apid s.apid) (is_newer head.count s.count) e
  where
    go : (a b c : Bool) → cond a (answer s) (cond b (cond c (answer s) (refused 35 0)) (refused 36 0)) ≡ answer old → old ≡ s
    go true b c e = cc
    go false true true e = cc
    go false true false e = absurd (let z : ◌≡◌ {A = ℕ} 0 1 = cc in omega arith)
    go false false c e = absurd (let z : ◌≡◌ {A = ℕ} 0 1 = cc in omega arith)
