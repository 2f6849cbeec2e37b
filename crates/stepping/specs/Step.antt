-- A limit step: the state after a packet.
use Rattle.std.specs.Prelude.{ℕ, ◌≡◌, refl, List, [], ◌∷◌, ℤ}
use Rattle.std.proofs.Math.Option.{Option, none, some}
use Rattle.name_bytes.specs.Names.{name_of}
use Rattle.name_bytes.specs.declared.Name.{Name}
use Rattle.decoding.specs.Records.{ocf_row}
use Rattle.rows.specs.declared.records.OcfRow.{OcfRow}
use Rattle.outcomes.specs.Outcome.{Outcome, refused, answer, and_then}
use Rattle.verdicts.specs.Key.{limits}
use Rattle.database.specs.Rows.{Row, Rows}
use Rattle.parameters.specs.Located.{Located, located}
use Rattle.headers.specs.Header.{head_of}
use Rattle.identification.specs.Identification.{Identity, identify_headed}
use Rattle.headers.specs.declared.Head.{Head}
use Rattle.severity.specs.Checks.{Check}
use Rattle.limit_state.specs.declared.state.LimitState.{LimitState}
use Rattle.applying.specs.Checks.{applying}
use Rattle.occurrences.specs.Values.{values_of}
use Rattle.occurrences.specs.Progress.{progress_by}
use Rattle.accepting.specs.Time.{state_in, in_time}
use Rattle.accepting.specs.Accepted.{progress_of, accepted, state_after}

-- 01: "33 … no good ocf row"
unfoldable pub limits_from : Option Row → Outcome OcfRow
limits_from none = refused 33 0
limits_from (some row) = answer (ocf_row row.bytes)

unfoldable pub limits_of : Rows → Name → Outcome OcfRow
limits_of rows name = limits_from (rows.holder (limits name))

-- the state after values that are checked by these checks, wherever they came from
unfoldable pub step_by : (checks : List Check) → (nbchck : ℕ) → Head → LimitState → (values : List ℤ) → LimitState
step_by checks nbchck head s values = accepted head (progress_by checks nbchck (progress_of s) values)

module _ (rows : Rows) (p : List ℕ) (name : Name) (s : LimitState) (head : Head) where
  -- 36, 35, 28, 30, 31
  unfoldable pub step_at : (spid : ℕ) → OcfRow → Located → Outcome LimitState
  step_at spid ocf at =
      and_then (in_time s head) (λ old.
      and_then (values_of rows p spid ocf at) (λ values.
      answer (step_by (applying rows p spid name) ocf.nbchck head old values)))

  -- 33, 26
  unfoldable pub step_of : (spid : ℕ) → Outcome LimitState
  step_of spid = and_then (limits_of rows name) (λ ocf. and_then (located rows spid name) (step_at spid ocf))

  -- 24, 25
  unfoldable pub step_headed : Outcome LimitState
  step_headed = and_then (identify_headed rows head p) (λ (identity : Identity). step_of identity.spid)

-- 01: "a limit step checks 34, 20–25, 33, 26, 36, 35, 28, 30, 31"
unfoldable pub step_in : Rows → List ℕ → (name : List ℕ) → LimitState → Outcome LimitState
step_in rows p name s = and_then (state_in s) (λ old. and_then (head_of p) (step_headed rows p (name_of name) old))

-- the state after packets that are offered one after the other
unfoldable pub after_packets : Rows → (name : List ℕ) → LimitState → (packets : List (List ℕ)) → LimitState
after_packets rows name s [] = s
after_packets rows name s (p ∷ later) = after_packets rows name (state_after s (step_in rows p name s)) later

-- no packets leave the state
pub example : (rows : Rows) (name : List ℕ) (s : LimitState) → after_packets rows name s [] ≡ s
unfolding after_packets
example rows name s = refl
