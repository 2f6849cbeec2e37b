-- Curves of two kinds: a row of caf, or a polynomial.
use Rattle.std.specs.Prelude.{ℕ, ◌≡◌, refl, Bool, true, false, [], eqb}
use Rattle.schemas.specs.declared.Table.TheVariants.{Mcf}
use Rattle.verdicts.specs.Entries.{carried_at}
use Rattle.database.specs.Rows.{Row}

-- the number of mcf, from 0. 02, P1: "eleven tables, mcf last"
abbrev pub polynomial_table : ℕ
polynomial_table = 10

-- 02, P1: "the mcf table"
unfoldable pub is_polynomial : Row → Bool
is_polynomial row = eqb row.table polynomial_table

pub record Examples : Type 0 where
  pub its_table : carried_at polynomial_table ≡ Mcf
  pub in_mcf : is_polynomial (record { table = 10; number = 1; start = 0; bytes = [] }) ≡ true
  pub in_caf : is_polynomial (record { table = 4; number = 10; start = 0; bytes = [] }) ≡ false

pub examples : Examples
unfolding is_polynomial
examples = record { its_table = refl; in_mcf = refl; in_caf = refl }
