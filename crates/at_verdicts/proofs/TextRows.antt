-- The good txp rows of a name: no two of them have one FROM. 01: "Key NUMBR, FROM's value"
use mathlib.Core.Path.{◌≡◌, ap, ◌∙◌}
use mathlib.Core.Bool.{true, false}
use mathlib.Core.List.Memᴰ
use mathlib.Core.List.{List, Memᴰ}
use Prim.Native.Nat.{ℕ}
use lib.IntN.{ℤ}
use Rattle.laws.proofs.Cases.{or_left}
use Rattle.laws.proofs.Tests.{keep_mem}
use Rattle.name_bytes.specs.declared.CurveName.{CurveName}
use Rattle.schemas.specs.declared.Table.TheVariants.{Txp}
use Rattle.decoding.specs.Records.{txp_row}
use Rattle.verdicts.specs.Key.{Key, texts, range}
use Rattle.verdicts.specs.Facts.{facts_of, txp_facts}
use Rattle.verdicts.proofs.KeyLaws.{same_key_self}
use Rattle.verdicts.proofs.OwnerLaws.{group_table}
use Rattle.database.specs.Rows.{Row}
use Rattle.database.specs.GoodRows.{good_rows, table_of, holds_key, is_in_group, among, of_tables}
use Rattle.texts.specs.Texts.{from_of}
use Rattle.at_verdicts.proofs.GoodRows.{same_line}
use Rattle.at_verdicts.proofs.Groups.{in_group, one_good}

txp_name : (line : List ℕ) (name : CurveName) → Memᴰ (texts name) (facts_of Txp line).groups → (txp_row line).numbr ≡ name
unfolding facts_of txp_facts
txp_name line name m = let e = Memᴰ.eq_of_singleton m in cc

range_held : (name : CurveName) (row : Row) → table_of row ≡ Txp → (txp_row row.bytes).numbr ≡ name → holds_key (range name (from_of row)) row ≡ true
unfolding holds_key facts_of txp_facts from_of
range_held name row t n =
    let key : Key = range name (txp_row row.bytes).from in
    rw (t, n) (or_left false (same_key_self key))

module _ (tables : List (List ℕ)) (name : CurveName) where
  member : (row : Row) → Memᴰ row ((of_tables tables).members (texts name))
      → Memᴰ row (good_rows tables) × (holds_key (range name (from_of row)) row ≡ true)
  unfolding of_tables among is_in_group group_table
  member row m =
      let k = keep_mem (is_in_group (texts name)) (good_rows tables) m in
      let t = in_group (table_of row) row.bytes (texts name) k.1 in
      (k.0, range_held name row t.0 (txp_name row.bytes name t.1))

  -- so that rows with one FROM have one line
  pub one_range : (a b : Row) → Memᴰ a ((of_tables tables).members (texts name)) → Memᴰ b ((of_tables tables).members (texts name))
      → from_of a ≡ from_of b → a.bytes ≡ b.bytes
  one_range a b m i e =
      let x = member a m in
      let y = member b i in
      let s = one_good tables (range name (from_of a)) a b x.0 y.0 x.1 (ap (λ (z : ℤ). holds_key (range name z) b) e ∙ y.1) in
      same_line tables a b x.0 y.0 s.0 s.1
