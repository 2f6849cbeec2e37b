-- A packet that is identified, in which a parameter has no place.
use Rattle.std.specs.Prelude.{◌≡◌, List, ℕ}
use Rattle.std.proofs.Math.Option.{none}
use Rattle.name_bytes.specs.Names.{name_of}
use Rattle.verdicts.specs.Key.{location}
use Rattle.outcomes.specs.Outcome.{answer}
use Rattle.database.specs.Rows.{Rows}
use Rattle.identification.specs.Identification.{Identity, identify_by}

-- 01: "26 … no good plf row for name and SPID"
pub record Unlocated (rows : Rows) (p name : List ℕ) : Type 0 where
  pub identity : Identity
  pub identified : identify_by rows p ≡ answer identity
  pub no_plf_row : rows.holder (location (name_of name) identity.spid) ≡ none
