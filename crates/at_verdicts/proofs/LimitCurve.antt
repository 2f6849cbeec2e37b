-- Under INTER C of a good ocf row the parameter has a curve through points.
-- 01: "C needs CURTX in that pcf row (reason 11, column 4)"
use mathlib.Core.Path.{◌≡◌, refl, sym, ap, subst, ◌∙◌}
use mathlib.Core.Bool.{Bool, true, false, ◌&&◌, ◌||◌}
use mathlib.Core.List.{List, [], ◌∷◌, ◌++◌, Memᴰ}
use mathlib.Core.Option.{some}
use Rattle.std.specs.Prelude.{None}
use Prim.Native.Nat.{ℕ}
use lib.Dec.{eqb}
use Rattle.laws.specs.Lists.{any}
use Rattle.laws.proofs.Cases.{bool_cases, cond_cases, false≢true, false_of, and_left, and_right}
use Rattle.laws.proofs.Tests.{any_witness, any_keep}
use Rattle.name_bytes.specs.declared.Name.{Name}
use Rattle.schemas.specs.declared.Table.{Table}
use Rattle.schemas.specs.declared.Table.TheVariants.{Pcf, Ocf, Mcf}
use Rattle.decoding.specs.Records.{pcf_row, ocf_row}
use Rattle.rows.specs.declared.letters.Category.TheVariants.{Numeric}
use Rattle.rows.specs.declared.letters.LimitValue.TheVariants.{Engineering}
use Rattle.rows.specs.declared.records.OcfRow.{OcfRow}
use Rattle.rows.specs.declared.records.PcfRow.{PcfRow}
use Rattle.verdicts.specs.Key.{Key, parameter, curve, limits}
use Rattle.verdicts.specs.Facts.{any_row, points, itself, through, Naming, Facts, facts_of, pcf_facts, ocf_facts, mcf_facts}
use Rattle.verdicts.specs.Entries.{Entry, facts, all_rows}
use Rattle.verdicts.specs.Steps.{holds, names_at}
use Rattle.verdicts.specs.Verdicts.{of_kind}
use Rattle.verdicts.proofs.SoundLaws.{one_holder}
use Rattle.verdicts.proofs.OwnerLaws.{owners_of}
use Rattle.database.specs.Rows.{Row}
use Rattle.database.specs.GoodRows.{table_of, of_tables}
use Rattle.database.specs.Kinds.{is_polynomial}
use Rattle.polynomial_curves.specs.Polynomials.{polynomial_for}
use Rattle.at_verdicts.proofs.GoodRows.{entry_of}
use Rattle.at_verdicts.proofs.NamedRows.{Named, found_good, found_holds, entry_holds, named_row}
use Rattle.at_verdicts.proofs.ParameterRows.{held_by, ocf_name, ocf_numeric}
use Rattle.at_verdicts.proofs.CurveTables.{polynomial_table_lem}
use Rattle.at_verdicts.proofs.ByCategory.{no_polynomial_lem, curtx_curve}

-- a pcf row without CURTX names nothing at column 12
names_none : (r : PcfRow) (o : Entry) → r.curtx.given ≡ false → any (λ n. eqb n.column 12 && holds o n.key) (pcf_facts r).names ≡ false
unfolding pcf_facts
names_none r o g =
    rw g (cond_cases (λ (names : List Naming). any (λ n. eqb n.column 12 && holds o n.key) (names ++ []) ≡ false) r.valid.given
    (λ _. refl) (λ _. refl))

-- of a parameter of CATEG N one with it names a curve
names_curve : (r : PcfRow) (o : Entry) → r.categ ≡ Numeric → r.curtx.given ≡ true
    → any (λ n. eqb n.column 12 && holds o n.key) (pcf_facts r).names ≡ (holds o (curve r.curtx.name) || false)
unfolding pcf_facts
names_curve r o c g =
    let naming : Naming = record { column = 12; key = curve r.curtx.name; kind = itself any_row; chained = false } in
    rw (c, g) (cond_cases (λ (names : List Naming). any (λ n. eqb n.column 12 && holds o n.key) (names ++ naming ∷ [])
    ≡ (holds o (curve r.curtx.name) || false)) r.valid.given (λ _. refl) (λ _. refl))

only_left_lem : (b : Bool) → (b || false) ≡ true → b ≡ true
only_left_lem true e = refl
only_left_lem false e = e

-- a polynomial has no points
mcf_points : (line : List ℕ) → (facts_of Mcf line).meets points ≡ false
unfolding facts_of mcf_facts
mcf_points line = refl

abbrev c_naming : Name → Naming
c_naming name = record { column = 4; key = parameter name; kind = through 12 points; chained = false }

c_names : (r : OcfRow) → r.inter ≡ Engineering → Memᴰ (c_naming r.name) (ocf_facts r).names
unfolding ocf_facts
c_names r c = rw c (mathlib.Core.List.Memᴰ.tail (mathlib.Core.List.Memᴰ.head refl))

module _ (texts : List (List ℕ)) (name : Name) (ocf row : Row) (e : (of_tables texts).holder (limits name) ≡ some ocf)
    (f : (of_tables texts).holder (parameter name) ≡ some row) where
  c_named : (ocf_row ocf.bytes).inter ≡ Engineering → Named texts (c_naming name)
  unfolding owners_of facts_of
  c_named c =
      let h = held_by (limits name) ocf Ocf refl (found_holds texts (limits name) ocf e) in
      let n = ocf_name name ocf.bytes h.1 in
      let m : Memᴰ (c_naming name) (facts_of Ocf ocf.bytes).names =
      subst (λ (x : Name). Memᴰ (c_naming x) (ocf_facts (ocf_row ocf.bytes)).names) n (c_names (ocf_row ocf.bytes) c) in
      named_row texts ocf (found_good texts (limits name) ocf e) (c_naming name)
      (subst (λ (t : Table). Memᴰ (c_naming name) (facts_of t ocf.bytes).names) (sym h.0) m)

  -- a row that the pcf row names at column 12, and that has points
  record Second (r : PcfRow) : Type 0 where
    entry : Entry
    there : Memᴰ entry (all_rows texts)
    named : any (λ n. eqb n.column 12 && holds entry n.key) (pcf_facts r).names ≡ true
    has : (facts entry).meets points ≡ true

  names_12 : (w : Named texts (c_naming name)) → Second (pcf_row w.row.bytes)
  unfolding of_kind names_at owners_of facts_of
  names_12 w =
      let g = found_good texts (parameter name) w.row w.found in
      let t = held_by (parameter name) w.row Pcf refl (found_holds texts (parameter name) w.row w.found) in
      let x : Entry = entry_of texts w.row in
      let a = any_witness (λ q. names_at 12 x q && (facts q).meets points) (all_rows texts)
      (sym (any_keep (names_at 12 x) (λ q. (facts q).meets points) (all_rows texts)) ∙ w.kind) in
      let s : facts x ≡ pcf_facts (pcf_row w.row.bytes) = g.says ∙ ap (λ (t : Table). facts_of t w.row.bytes) t.0 in
      record {
        entry = a.0;
        there = a.1;
        named =
            ap (λ (y : Facts). any (λ n. eqb n.column 12 && holds a.0 n.key) y.names) (sym s)
            ∙ and_left (names_at 12 x a.0) ((facts a.0).meets points) a.2;
        has = and_right (names_at 12 x a.0) ((facts a.0).meets points) a.2;
      }

  second : (ocf_row ocf.bytes).inter ≡ Engineering → Second (pcf_row row.bytes)
  second c =
      let w = c_named c in
      let q : w.row ≡ row = cc (w.found, f) in
      subst (λ (r : Row). Second (pcf_row r.bytes)) q (names_12 w)

  pub c_has_curve : (ocf_row ocf.bytes).inter ≡ Engineering → (pcf_row row.bytes).curtx.given ≡ true
  c_has_curve c =
      let n = second c in
      bool_cases (pcf_row row.bytes).curtx.given (λ t. t)
      (λ g. absurd (false≢true (sym (names_none (pcf_row row.bytes) n.entry g) ∙ n.named)))

  -- 02, P1: "a limit with INTER C on a polynomial is reason 11 at column 4"
  pub c_no_polynomial : (ocf_row ocf.bytes).inter ≡ Engineering → polynomial_for (of_tables texts) (pcf_row row.bytes).curtx ≡ None
  c_no_polynomial c =
      let r : PcfRow = pcf_row row.bytes in
      let key : Key = curve r.curtx.name in
      let n = second c in
      let numeric = ocf_numeric texts name ocf row e f in
      let k = curtx_curve texts name row f numeric (c_has_curve c) in
      let g = found_good texts key k.row k.found in
      let h = only_left_lem (holds n.entry key) (sym (names_curve r n.entry numeric (c_has_curve c)) ∙ n.named) in
      let same : entry_of texts k.row ≡ n.entry = one_holder texts (entry_of texts k.row) n.entry key g.there n.there g.good.is_sound
      (entry_holds texts k.row g key ∙ found_holds texts key k.row k.found) h in
      let meets : (facts_of (table_of k.row) k.row.bytes).meets points ≡ true =
      ap (λ (x : Facts). x.meets points) (sym g.says) ∙ ap (λ (x : Entry). (facts x).meets points) same ∙ n.has in
      no_polynomial_lem (of_tables texts) r.curtx k.row k.found
      (false_of (is_polynomial k.row) (λ t. false≢true (sym (mcf_points k.row.bytes)
      ∙ ap (λ (x : Table). (facts_of x k.row.bytes).meets points) (sym (polynomial_table_lem k.row t)) ∙ meets)))
