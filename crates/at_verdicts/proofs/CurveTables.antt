-- A row that holds a curve's key is of caf, or a polynomial. 02, P1: "IDENT shares its keys with caf NUMBR"
use mathlib.Core.Path.{◌≡◌, sym, ap, ◌∙◌}
use mathlib.Core.Bool.{true, false}
use mathlib.Core.List.Memᴰ
use mathlib.Core.List.{[], ◌∷◌, Memᴰ}
use Prim.Native.Nat.{ℕ}
use native.Mathlib.Omega.{arith}
use borrow.Author.Tests.{eq-eqb, eqb-true}
use Rattle.laws.proofs.Cases.{false≢true}
use Rattle.name_bytes.specs.declared.CurveName.{CurveName}
use Rattle.schemas.specs.declared.Table.TheVariants.{Caf, Mcf}
use Rattle.verdicts.specs.Key.{curve}
use Rattle.verdicts.specs.Entries.{carried_at}
use Rattle.verdicts.proofs.OwnerLaws.{table_index, owners_of}
use Rattle.database.specs.Rows.{Row}
use Rattle.database.specs.GoodRows.{table_of, holds_key}
use Rattle.database.specs.Kinds.{is_polynomial}
use Rattle.database.proofs.OwnerLaws.{holds_owner, table_number_lem}

pub polynomial_table_lem : (row : Row) → is_polynomial row ≡ true → table_of row ≡ Mcf
unfolding is_polynomial
polynomial_table_lem row t = ap (λ (u : ℕ). carried_at u) (eqb-true row.table 10 t)

table_polynomial : (row : Row) → table_of row ≡ Mcf → is_polynomial row ≡ true
unfolding is_polynomial table_index
table_polynomial row e = eq-eqb row.table 10 (table_number_lem row.table Mcf (λ q. omega (arith, ap table_index q)) e)

pub caf_table : (name : CurveName) (row : Row) → holds_key (curve name) row ≡ true → is_polynomial row ≡ false → table_of row ≡ Caf
unfolding owners_of
caf_table name row h f = go (holds_owner (curve name) row h)
  where
    go : Memᴰ (table_of row) (Caf ∷ Mcf ∷ []) → table_of row ≡ Caf
    go (Memᴰ.head q) = q
    go (Memᴰ.tail m) = absurd (false≢true (sym f ∙ table_polynomial row (Memᴰ.eq_of_singleton m)))
