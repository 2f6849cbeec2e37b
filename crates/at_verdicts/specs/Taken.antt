-- A packet that a limit step takes as far as its values. 01: "a limit step checks 34, 20–25, 33, 26, 36, 35, 28,
-- 30, 31"
use Rattle.std.specs.Prelude.{◌≡◌, true, List, ℕ}
use Rattle.std.proofs.Math.Option.{some}
use Rattle.name_bytes.specs.Names.{name_of}
use Rattle.verdicts.specs.Key.{limits}
use Rattle.outcomes.specs.Outcome.{answer}
use Rattle.database.specs.Rows.{Row, Rows}
use Rattle.headers.specs.Header.{head_of}
use Rattle.headers.specs.declared.Head.{Head}
use Rattle.limit_state.specs.State.{is_a_state}
use Rattle.limit_state.specs.declared.state.LimitState.{LimitState}
use Rattle.accepting.specs.Time.{in_time}
use Rattle.at_verdicts.specs.Placed.{Placed}

-- what passes before 28 is sought, and the rows by which the packet is then read
pub record Taken (rows : Rows) (p name : List ℕ) (s : LimitState) : Type 0 where
  pub state : is_a_state s ≡ true
  pub head : Head
  pub headed : head_of p ≡ answer head
  pub ocf : Row
  pub has_limits : rows.holder (limits (name_of name)) ≡ some ocf
  pub at : Placed rows p name
  pub newer : in_time s head ≡ answer s
