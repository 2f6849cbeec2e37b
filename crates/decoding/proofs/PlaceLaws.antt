-- A row decoded by where the columns of its line end is that of the definitions.
use mathlib.Core.Path.{◌≡◌, ap, ap₂, ◌∙◌}
use mathlib.Core.List.{List, []}
use mathlib.Core.Bool.{cond}
use Prim.Native.Nat.{ℕ, ◌-◌}
use native.Mathlib.Omega.{arith}
use lib.Dec.{ltb, lit<}
use lib.ListN.{length, get_or}
use borrow.Author.Tests.{ltb-true}
use Rattle.lines.specs.Columns.{divided, column_in}
use Rattle.lines.proofs.ColumnLaws.{column_is, end_is, place_length}
use Rattle.laws.proofs.Cases.{bool_cases}
use Rattle.decoding.specs.Records.{
  column,
  place_at,
  pid_row_by,
  pid_row,
  pic_row_by,
  pic_row,
  plf_row_by,
  plf_row,
  pcf_row_by,
  pcf_row,
  caf_row_by,
  caf_row,
  cap_row_by,
  cap_row,
  txf_row_by,
  txf_row,
  txp_row_by,
  txp_row,
  ocf_row_by,
  ocf_row,
  ocp_row_by,
  ocp_row,
  mcf_row_by,
  mcf_row,
}

-- the texts of the first 24 columns: of no table are others asked for
abbrev few : (ℕ → List ℕ) → ℕ → List ℕ
few at k = cond (ltb k 24) (at k) []

module _ (line : List ℕ) {ends : List ℕ} (e : ends ≡ divided line) where
  same_at : (k : ℕ) → few (column_in line ends) k ≡ few (column line) k
  unfolding column
  same_at k = bool_cases (ltb k 24) (λ t. ap (λ (l : List ℕ). cond (ltb k 24) l []) (column_is line ends k e (ltb-true k 24 t))) (λ f. rw f)

  same : few (column_in line ends) ≡ few (column line)
  same = λ i k. same_at k i

  pub pid_divided : pid_row_by (column_in line ends) ≡ pid_row line
  unfolding pid_row
  pid_divided = ap pid_row_by same

  pub pic_divided : pic_row_by (column_in line ends) ≡ pic_row line
  unfolding pic_row
  pic_divided = ap pic_row_by same

  pub plf_divided : plf_row_by (column_in line ends) ≡ plf_row line
  unfolding plf_row
  plf_divided = ap plf_row_by same

  pub pcf_divided : pcf_row_by (column_in line ends) ≡ pcf_row line
  unfolding pcf_row
  pcf_divided = ap pcf_row_by same

  pub caf_divided : caf_row_by (column_in line ends) ≡ caf_row line
  unfolding caf_row
  caf_divided = ap caf_row_by same

  pub cap_divided : cap_row_by (column_in line ends) ≡ cap_row line
  unfolding cap_row
  cap_divided = ap cap_row_by same

  pub txf_divided : txf_row_by (column_in line ends) ≡ txf_row line
  unfolding txf_row
  txf_divided = ap txf_row_by same

  pub ocf_divided : ocf_row_by (column_in line ends) ≡ ocf_row line
  unfolding ocf_row
  ocf_divided = ap ocf_row_by same

  pub ocp_divided : ocp_row_by (column_in line ends) ≡ ocp_row line
  unfolding ocp_row
  ocp_divided = ap ocp_row_by same

  pub mcf_divided : mcf_row_by (column_in line ends) ≡ mcf_row line
  unfolding mcf_row
  mcf_divided = ap mcf_row_by same

  end : get_or ends 3 0 ≡ (place_at line 3).end
  end = end_is line ends 3 e (lit< tt)

  start : get_or ends 3 0 - length (column_in line ends 3) ≡ (place_at line 3).start
  start = omega (arith, end, place_length line 3, ap length (column_is line ends 3 e (lit< tt)))

  pub txp_divided : txp_row_by (column_in line ends) (get_or ends 3 0 - length (column_in line ends 3)) (get_or ends 3 0) ≡ txp_row line
  unfolding txp_row
  txp_divided = ap (λ at. txp_row_by at (get_or ends 3 0 - length (column_in line ends 3)) (get_or ends 3 0)) same ∙ ap₂ (txp_row_by (column line)) start end
