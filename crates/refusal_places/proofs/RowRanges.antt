-- The numbers of good plf and pic rows are in the ranges that 01 prints.
use mathlib.Core.Path.{◌≡◌, refl, sym, ap, subst, ◌∙◌}
use mathlib.Core.Logic.{⊎_elim}
use mathlib.Core.Bool.{true}
use mathlib.Core.List.{List, []}
use mathlib.Core.Option.{some}
use Rattle.std.specs.Prelude.{Option}
use Prim.Native.Nat.{ℕ, ◌^◌, ◌≤◌, ◌<◌}
use native.Mathlib.Omega.{arith}
use lib.IntN.{ℤ, pos, negsuc, neg_ℤ, nat_abs}
use lib.Signed.{le_z}
use borrow.Author.Tests.{leb-true}
use Rattle.laws.proofs.Cases.{false≢true}
use Rattle.numbers.specs.Number.{number_of, meaning, spelt, after}
use Rattle.lines.specs.Lines.{Line}
use Rattle.schemas.specs.declared.Table.TheVariants.{Pic, Plf}
use Rattle.column_checks.specs.Schema.{Column, ColumnKind, a_number, natural, natural!, integer! }
use Rattle.schemas.specs.Tables.{schema, pic, plf}
use Rattle.column_checks.specs.ColumnReasons.{kind_reason, column_reason}
use Rattle.schemas.proofs.Meaning.{Absent, Given, column_fine, number_fine}
use Rattle.rows.specs.Values.{natural_from, natural_or, integer_or, identification_field}
use Rattle.decoding.specs.Records.{column, pic_row, plf_row}
use Rattle.name_bytes.specs.declared.Name.{Name}
use Rattle.formed.specs.Formed.{formed}
use Rattle.rows.specs.declared.records.IdentificationField.{IdentificationField}
use Rattle.rows.specs.declared.records.IdentificationField.TheVariants.{Unused, At}
use Rattle.rows.specs.declared.records.PicRow.{PicRow}
use Rattle.rows.specs.declared.records.PlfRow.{PlfRow}
use Rattle.formed.proofs.Meaning.{column_passes, natural_column, integer_column}
use Rattle.verdicts.specs.Key.{identification, location}
use Rattle.verdicts.proofs.OwnerLaws.{owners_of}
use Rattle.database.specs.Rows.{Row, Rows}
use Rattle.database.specs.GoodRows.{of_tables}
use Rattle.refusal_places.proofs.GoodRows.{owner_line}

-- A column

no_number : (default : ℕ) → natural_or default [] ≡ default
unfolding natural_or natural_from number_of meaning spelt after
no_number default = refl

-- a natural number, or its default, is at most the highest of its column
natural_most : (c : Column) (t : List ℕ) (lowest highest default : ℕ) → c.kind ≡ a_number (pos lowest) (pos highest) → highest < 2 ^ 32 → default ≤ highest
    → column_reason c t ≡ 0 → natural_or default t ≤ highest
natural_most c t lowest highest default q h d e = ⊎_elim absent given (column_fine c t e)
  where
    absent : Absent c t → natural_or default t ≤ highest
    absent a = rw (a.empty, no_number) d

    given : Given c t → natural_or default t ≤ highest
    given g =
        let n = natural_column lowest highest default t h (ap (λ (k : ColumnKind). kind_reason k t) (sym q) ∙ g.kind_fits) in
        omega (arith, n.high, n.says)

-- and so is a mandatory integer
integer_most : (c : Column) (t : List ℕ) (lowest highest default : ℤ) → c.kind ≡ a_number lowest highest → c.mandatory ≡ true → nat_abs lowest < 2 ^ 60
    → nat_abs highest < 2 ^ 60 → column_reason c t ≡ 0 → le_z (integer_or default t) highest ≡ true
integer_most c t lowest highest default q m l h e = ⊎_elim absent given (column_fine c t e)
  where
    absent : Absent c t → le_z (integer_or default t) highest ≡ true
    absent a = absurd (false≢true (sym a.optional ∙ m))

    given : Given c t → le_z (integer_or default t) highest ≡ true
    given g =
        let k : kind_reason (a_number lowest highest) t ≡ 0 = ap (λ (k : ColumnKind). kind_reason k t) (sym q) ∙ g.kind_fits in
        ap (λ (v : ℤ). le_z v highest) (integer_column lowest highest default t l h k) ∙ (number_fine lowest highest t k).high

-- A row

pub record PlfRanges (row : PlfRow) : Type 0 where
  pub offby : row.offby.0 ≤ 8191
  pub offbi : row.offbi.0 ≤ 7
  pub nbocc : row.nbocc ≤ 9999
  pub lgocc : row.lgocc.0 ≤ 32767

plf_formed : (line : Line) → formed Plf line ≡ 0 → PlfRanges (plf_row line.bytes)
unfolding plf_row schema plf
plf_formed line e =
    record {
      offby = natural_most (natural! 5 0 8191) _ 0 8191 0 refl (omega arith) (omega arith) (column_passes Plf line e 2 (omega arith));
      offbi = natural_most (natural! 1 0 7) _ 0 7 0 refl (omega arith) (omega arith) (column_passes Plf line e 3 (omega arith));
      nbocc = natural_most (natural 4 1 9999) _ 1 9999 1 refl (omega arith) (omega arith) (column_passes Plf line e 4 (omega arith));
      lgocc = natural_most (natural 5 0 32767) _ 0 32767 0 refl (omega arith) (omega arith) (column_passes Plf line e 5 (omega arith));
    }

-- the byte of an identification field, 0 where it is unused
abbrev pub byte_of : IdentificationField → ℕ
byte_of Unused = 0
byte_of (At byte width) = byte.0

pub record PicRanges (row : PicRow) : Type 0 where
  pub first : byte_of row.pi1 ≤ 8191
  pub second : byte_of row.pi2 ≤ 8191

field_most : (z : ℤ) (width : ℕ) → le_z z (pos 8191) ≡ true → byte_of (identification_field z width) ≤ 8191
unfolding identification_field
field_most (pos n) width h = leb-true n 8191 h
field_most (negsuc n) width h = omega arith

pic_formed : (line : Line) → formed Pic line ≡ 0 → PicRanges (pic_row line.bytes)
unfolding pic_row schema pic
pic_formed line e =
    record {
      first = field_most _ (natural_or 0 (column line.bytes 3))
          (integer_most (integer! 5 (neg_ℤ (pos 1)) (pos 8191)) _ (neg_ℤ (pos 1)) (pos 8191) (pos 0) refl refl (omega arith) (omega arith)
          (column_passes Pic line e 2 (omega arith)));
      second = field_most _ (natural_or 0 (column line.bytes 5))
          (integer_most (integer! 5 (neg_ℤ (pos 1)) (pos 8191)) _ (neg_ℤ (pos 1)) (pos 8191) (pos 0) refl refl (omega arith) (omega arith)
          (column_passes Pic line e 4 (omega arith)));
    }

-- The rows that hold keys

pub record InRanges (rows : Rows) : Type 0 where
  pub plf : (name : Name) (spid : ℕ) (row : Row) → rows.holder (location name spid) ≡ some row → PlfRanges (plf_row row.bytes)
  pub pic : (ptype stype : ℕ) (apid : Option ℕ) (row : Row) → rows.holder (identification ptype stype apid) ≡ some row → PicRanges (pic_row row.bytes)

pub tables_in_ranges : (texts : List (List ℕ)) → InRanges (of_tables texts)
unfolding owners_of
tables_in_ranges texts =
    record {
      plf = λ name spid row e.
          let l = owner_line texts (location name spid) Plf row refl e in
          subst (λ (bytes : List ℕ). PlfRanges (plf_row bytes)) (sym l.bytes) (plf_formed l.line l.passes);
      pic = λ ptype stype apid row e.
          let l = owner_line texts (identification ptype stype apid) Pic row refl e in
          subst (λ (bytes : List ℕ). PicRanges (pic_row bytes)) (sym l.bytes) (pic_formed l.line l.passes);
    }
