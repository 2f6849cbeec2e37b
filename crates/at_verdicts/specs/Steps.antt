-- Packets that a limit step refuses for want of a row. 01: "a limit step checks 34, 20–25, 33, 26, …"
use Rattle.std.specs.Prelude.{◌≡◌, true, List, ℕ}
use Rattle.std.proofs.Math.Option.{none, some}
use Rattle.name_bytes.specs.Names.{name_of}
use Rattle.verdicts.specs.Key.{limits}
use Rattle.outcomes.specs.Outcome.{answer}
use Rattle.database.specs.Rows.{Row, Rows}
use Rattle.identification.specs.Identification.{Identity, identify_by}
use Rattle.limit_state.specs.State.{is_a_state}
use Rattle.limit_state.specs.declared.state.LimitState.{LimitState}
use Rattle.at_verdicts.specs.Unlocated.{Unlocated}

-- 01: "33 … no good ocf row", in an identified packet
pub record Unlimited (rows : Rows) (p name : List ℕ) (s : LimitState) : Type 0 where
  pub state : is_a_state s ≡ true
  pub identity : Identity
  pub identified : identify_by rows p ≡ answer identity
  pub no_ocf_row : rows.holder (limits (name_of name)) ≡ none

-- 01: "26 … no good plf row for name and SPID", where there is a good ocf row
pub record StepUnlocated (rows : Rows) (p name : List ℕ) (s : LimitState) : Type 0 where
  pub state : is_a_state s ≡ true
  pub ocf : Row
  pub has_limits : rows.holder (limits (name_of name)) ≡ some ocf
  pub unlocated : Unlocated rows p name
