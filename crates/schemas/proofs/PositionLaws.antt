-- Positions in columns.
use mathlib.Core.Path.{◌≡◌, sym, ap}
use mathlib.Core.Logic.{◌⊎◌, inl, inr, ⊎_elim}
use mathlib.Core.List.{List}
use mathlib.Core.Bool.{true, false}
use Prim.Native.Nat.{ℕ, ◌+◌, ◌≤◌, ◌<◌}
use native.Mathlib.Omega.{arith}
use lib.ListN.{length, get_or, get_or-eq_default}
use borrow.Author.Tests.{ne_eqb}
use Rattle.laws.specs.Walks.{wrong_at}
use Rattle.number_positions.proofs.WrongLaws.{number_longest}
use Rattle.notation.proofs.Beginnings.{coefficient_longest}
use Rattle.schemas.specs.declared.Table.{Table}
use Rattle.column_checks.specs.Schema.{ColumnKind, any_text, a_number, a_letter, a_coefficient, Column, text}
use Rattle.schemas.specs.Tables.{schema}
use Rattle.schemas.specs.Constants.{schema_from, Alike}
use Rattle.column_checks.specs.ColumnKinds.{column_from}
use Rattle.schemas.specs.Positions.{position_in, tells_position, kind_of}
use Rattle.schemas.proofs.ShapeLaws.{schema_few, schema_at, schema_length}

-- a position is at most one past the end
pub position_most : (k : ColumnKind) (t : List ℕ) → position_in k t ≤ length t + 1
unfolding position_in wrong_at
position_most any_text t = omega arith
position_most (a_number lowest highest) t = omega (arith, (number_longest t).within)
position_most (a_letter letters) t = omega arith
position_most a_coefficient t = omega (arith, (coefficient_longest t).within)

-- reasons 6 and 13 tell one, and no other
pub tells : {r s : ℕ} → r ≡ s → (r ≡ 6) ⊎ (r ≡ 13) → tells_position s ≡ true
tells e h = rw (← e) (⊎_elim (λ q. rw q) (λ q. rw q) h)

pub tells_not : {r s : ℕ} → r ≡ s → ((r ≡ 6) ⊎ (r ≡ 13) → ⊥) → tells_position s ≡ false
tells_not {r} e n = rw (← e, ne_eqb r 6 (λ q. n (inl q)), ne_eqb r 13 (λ q. n (inr q)))

-- past the last column there is no number
pub no_kind : (table : Table) (k : ℕ) (t : List ℕ) → 24 ≤ k → position_in (kind_of table k) t ≡ 0
unfolding position_in
no_kind table k t h =
    let l : length (schema table) ≤ k = omega (arith, schema_few table) in
    ap (λ (c : Column). position_in c.kind t) (get_or-eq_default (schema table) (text 0) l)

-- ---- a column by its constants

module _ (ws ms ks : List ℕ) (alike : Alike ws ms ks) (k : ℕ) where
  pub code_here : k < length ws → column_from (get_or ws k 0) (get_or ms k 0) (get_or ks k 0) ≡ get_or (schema_from ws ms ks) k (text 0)
  code_here h = sym (schema_at ws ms ks alike.marked alike.kinded k h)

  pub code_past : length ws ≤ k → text 0 ≡ get_or (schema_from ws ms ks) k (text 0)
  code_past h =
      let l : length (schema_from ws ms ks) ≤ k = omega (arith, schema_length ws ms ks alike.marked alike.kinded) in
      sym (get_or-eq_default (schema_from ws ms ks) (text 0) l)
