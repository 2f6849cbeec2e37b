-- The row that CURTX names, case by case.
use mathlib.Core.Path.{◌≡◌, ap, sym, ◌∙◌}
use mathlib.Core.Bool.{Bool, true, false}
use mathlib.Core.List.{List, []}
use mathlib.Core.Option.{some}
use Rattle.std.specs.Prelude.{Option, Some, None}
use Prim.Native.Nat.{ℕ, ◌-◌}
use Rattle.polynomials.specs.declared.Polynomial.{Polynomial}
use Rattle.name_bytes.specs.declared.CurveName.{CurveName}
use Rattle.decoding.specs.Records.{mcf_row}
use Rattle.rows.specs.declared.records.McfRow.{McfRow}
use Rattle.rows.specs.declared.records.OptionalCurve.{OptionalCurve}
use Rattle.symbols.specs.declared.Symbol.{Symbol}
use Rattle.verdicts.specs.Key.{curve}
use Rattle.key_symbols.specs.Keyed.{symbol_of}
use Rattle.key_symbols.specs.Bounded.{key_fits}
use Rattle.database.specs.Rows.{Row, Rows}
use Rattle.database.specs.Kinds.{is_polynomial}
use Rattle.database.specs.Arrays.{database, holder_column, row_at, keyed, answers}
use Rattle.database.proofs.FindLaws.{holder_none, holder_some}
use Rattle.database.proofs.KindLaws.{kind_is}
use Rattle.polynomial_curves.specs.Polynomials.{polynomial_in, polynomial_for}

-- the row that holds the curve's key
module _ (texts : List (List ℕ)) (words links columns : List ℕ) (name : CurveName) {s : Symbol}
    (k : (s ≡ symbol_of (curve name)) × (key_fits (curve name) ≡ true))
    {at : ℕ} (e : at ≡ keyed words links columns holder_column s) where
  pub found_none : at ≡ 0 → None ≡ polynomial_in ((answers (database texts words links columns)).holder (curve name))
  unfolding polynomial_in
  found_none z = sym (ap polynomial_in (holder_none texts words links columns (curve name) s k.0 k.1 at e z))

  module _ (z : at ≡ 0 → ⊥) {kind : Bool} (is : kind ≡ is_polynomial (row_at [] columns (at - 1))) where
    abbrev row : Row
    row = row_at texts columns (at - 1)

    holder : (answers (database texts words links columns)).holder (curve name) ≡ some row
    holder = holder_some texts words links columns (curve name) s k.0 k.1 at e z

    pub found_other : kind ≡ false → None ≡ polynomial_in ((answers (database texts words links columns)).holder (curve name))
    unfolding polynomial_in
    found_other f = sym (ap polynomial_in holder ∙ rw (kind_is texts columns (at - 1) is f))

    pub found_polynomial : kind ≡ true → {read : McfRow} → read ≡ mcf_row row.bytes
        → Some read.polynomial ≡ polynomial_in ((answers (database texts words links columns)).holder (curve name))
    unfolding polynomial_in
    found_polynomial t r =
        ap (λ (read : McfRow). Some read.polynomial) r ∙ sym (ap polynomial_in holder ∙ rw (kind_is texts columns (at - 1) is t))

-- by CURTX
module _ (rows : Rows) (curtx : OptionalCurve) where
  pub found_free : curtx.given ≡ false → None ≡ polynomial_for rows curtx
  unfolding polynomial_for
  found_free f = rw f

  pub found_named : curtx.given ≡ true → {r : Option Polynomial} → r ≡ polynomial_in (rows.holder (curve curtx.name)) → r ≡ polynomial_for rows curtx
  unfolding polynomial_for
  found_named t e = rw t e
