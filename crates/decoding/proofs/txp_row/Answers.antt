-- Each field is its column's.
use mathlib.Core.Path.{◌≡◌, ap, ap₂}
use Prim.Native.Nat.{ℕ, ◌-◌, ◌≤◌}
use native.Mathlib.Omega.{arith}
use lib.IntN.{ℤ}
use lib.ListN.{length, get_or}
use Rattle.laws.proofs.Words.{kept}
use Rattle.lines.specs.Columns.{start_in, column_in}
use Rattle.name_bytes.specs.declared.CurveName.{CurveName}
use Rattle.lines.proofs.ColumnLaws.{part_short}
use Rattle.rows.specs.declared.records.TxpRow.{TxpRow}
use Rattle.decoding.proofs.txp_row.Goals as goal

made : {n m : CurveName} {f g t u : ℤ} {a b d e : ℕ} → n ≡ m → f ≡ g → t ≡ u → a ≡ b → d ≡ e
    → ◌≡◌ {A = TxpRow} (record { numbr = n; from = f; to = t; start = a; end = d }) (record { numbr = m; from = g; to = u; start = b; end = e })
made p q r s z = λ i. record { numbr = p i; from = q i; to = r i; start = s i; end = z i }

pub overflow_sub-result : goal.overflow_sub-result
overflow_sub-result c = let short : length (column_in c.args.line.now c.args.ends.now 3) ≤ get_or c.args.ends.now 3 0 = part_short c.args.line.now (start_in c.args.ends.now 3)
    (get_or c.args.ends.now 3 0) in
    omega (arith, short, c.end_at-end.ensures, ap length c.column-text.ensures)

pub returns : goal.returns
returns c = made c.curve_at.ensures (kept c.integer_at.type_inv c.integer_at.ensures)
    (kept c.integer_at-2.type_inv c.integer_at-2.ensures)
    (ap₂ ◌-◌ c.end_at-end.ensures (ap length c.column-text.ensures))
    c.end_at-end.ensures
