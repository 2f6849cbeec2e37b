-- A good curve through points has at least two good points. 01: "NCURVE 3! 2–100", which "counts cap rows".
use mathlib.Core.Path.{◌≡◌, refl, sym, ap, subst, ◌∙◌}
use mathlib.Core.Logic.{⊎_elim}
use mathlib.Core.Bool.{true, false, ◌&&◌, ◌||◌}
use mathlib.Core.List.{List, Memᴰ}
use mathlib.Core.Option.{some}
use Prim.Native.Nat.{ℕ, zero, suc, ◌^◌, ◌≤◌, ◌<◌}
use native.Mathlib.Omega.{arith}
use lib.ListN.{length}
use lib.IntN.{pos}
use Rattle.laws.specs.Lists.{any}
use Rattle.laws.proofs.Cases.{false≢true, and_left, and_right, and_both, and_false, or_left, or_none}
use Rattle.laws.proofs.Tests.{any_keep, any_never}
use Rattle.lines.specs.Lines.{Line}
use Rattle.name_bytes.specs.declared.CurveName.{CurveName}
use Rattle.schemas.specs.declared.Table.{Table}
use Rattle.schemas.specs.declared.Table.TheVariants.{Caf, Cap}
use Rattle.column_checks.specs.Schema.{Column, ColumnKind, a_number, natural! }
use Rattle.schemas.specs.Tables.{schema, caf}
use Rattle.column_checks.specs.ColumnReasons.{kind_reason, column_reason}
use Rattle.schemas.proofs.Meaning.{Absent, Given, column_fine}
use Rattle.decoding.specs.Records.{caf_row, cap_row}
use Rattle.rows.specs.Values.{natural_or}
use Rattle.rows.specs.declared.records.CapRow.{CapRow}
use Rattle.formed.specs.Formed.{formed}
use Rattle.formed.proofs.Meaning.{column_passes, natural_column}
use Rattle.verdicts.specs.Key.{curve, same_key}
use Rattle.verdicts.specs.Facts.{points, itself, Naming, Count, Facts, caf_facts, cap_facts, facts_of}
use Rattle.verdicts.specs.Entries.{Entry, facts, all_rows}
use Rattle.verdicts.specs.Steps.{twin, holds, belongs}
use Rattle.verdicts.specs.Verdicts.{sound, tally, follows, next, leads, circle, of_kind}
use Rattle.verdicts.specs.Good.{Meets, Good}
use Rattle.verdicts.specs.Places.{entry_at}
use Rattle.verdicts.proofs.EntryLaws.{row_of}
use Rattle.verdicts.proofs.GoodLaw.{good_law}
use Rattle.verdicts.proofs.KeyLaws.{same_key_self}
use Rattle.verdicts.proofs.OwnerLaws.{group_table}
use Rattle.database.specs.Rows.{Row}
use Rattle.database.specs.Kinds.{is_polynomial}
use Rattle.database.specs.GoodRows.{rows_in, is_good, good_rows, table_of, is_in_group, among, of_tables}
use Rattle.refusal_places.proofs.GoodRows.{HasLine, holder_line}
use Rattle.at_verdicts.proofs.GoodRows.{entry_of, GoodRow, sound_says, is_good_lem}
use Rattle.at_verdicts.proofs.NamedRows.{found_good, found_holds}
use Rattle.at_verdicts.proofs.ParameterRows.{held_in}
use Rattle.at_verdicts.proofs.CurveTables.{caf_table}
use Rattle.at_verdicts.proofs.Groups.{in_group}
use Rattle.at_verdicts.proofs.CountLaws.{keep_twice, rows_kept}

-- A point's row

cap_name : (line : List ℕ) (name : CurveName) → Memᴰ (curve name) (facts_of Cap line).groups → (cap_row line).numbr ≡ name
unfolding facts_of cap_facts
cap_name line name m = let e = mathlib.Core.List.Memᴰ.eq_of_singleton m in cc

-- only cap rows are counted by a curve
pub in_curve : (t : Table) (line : List ℕ) (name : CurveName) → any (same_key (curve name)) (facts_of t line).groups ≡ true
    → (t ≡ Cap) × ((cap_row line).numbr ≡ name)
unfolding group_table
in_curve t line name h = let w = in_group t line (curve name) h in (w.0, cap_name line name w.1)

-- A row whose names aren't of a VALID chain is on no circle

no_circle : (rows : List Entry) (e : Entry) → ((o : Entry) → follows e o ≡ false) → circle rows e ≡ false
unfolding circle leads next
no_circle rows e h = go (length rows)
  where
    go : (n : ℕ) → leads n rows e e ≡ false
    go zero = refl
    go (suc n) =
        any_keep (λ o. follows e o && sound rows o) (λ o. twin o e || leads n rows o e) rows
        ∙ any_never (λ o. (follows e o && sound rows o) && (twin o e || leads n rows o e)) rows (λ o. rw (h o))

cap_follows : (e o : Entry) (r : CapRow) → facts e ≡ cap_facts r → follows e o ≡ false
unfolding follows cap_facts
cap_follows e o r q = rw q (or_none (and_false (holds o (curve r.numbr))) refl)

-- NCURVE

natural_least : (c : Column) (t : List ℕ) (lowest highest default : ℕ) → c.kind ≡ a_number (pos lowest) (pos highest) → c.mandatory ≡ true → highest < 2 ^ 32
    → column_reason c t ≡ 0 → lowest ≤ natural_or default t
natural_least c t lowest highest default q m h e = ⊎_elim absent given (column_fine c t e)
  where
    absent : Absent c t → lowest ≤ natural_or default t
    absent a = absurd (false≢true (sym a.optional ∙ m))

    given : Given c t → lowest ≤ natural_or default t
    given g =
        let n = natural_column lowest highest default t h (ap (λ (k : ColumnKind). kind_reason k t) (sym q) ∙ g.kind_fits) in
        omega (arith, n.low, n.says)

ncurve_two : (line : Line) → formed Caf line ≡ 0 → 2 ≤ (caf_row line.bytes).ncurve
unfolding caf_row schema caf
ncurve_two line e = natural_least (natural! 3 2 100) _ 2 100 0 refl refl (omega arith) (column_passes Caf line e 6 (omega arith))

-- A good curve

module _ (texts : List (List ℕ)) (name : CurveName) (row : Row) (found : (of_tables texts).holder (curve name) ≡ some row)
    (caf : is_polynomial row ≡ false) where
  abbrev rows : List Entry
  rows = all_rows texts

  its : GoodRow texts row
  its = found_good texts (curve name) row found

  held : (table_of row ≡ Caf) × Memᴰ (curve name) (facts_of Caf row.bytes).keys
  held = let h = found_holds texts (curve name) row found in held_in (curve name) row Caf (caf_table name row h caf) h

  says : facts (entry_of texts row) ≡ caf_facts (caf_row row.bytes)
  unfolding facts_of
  says = its.says ∙ ap (λ (t : Table). facts_of t row.bytes) held.0

  caf_name : (caf_row row.bytes).numbr ≡ name
  unfolding facts_of caf_facts
  caf_name = let e = mathlib.Core.List.Memᴰ.eq_of_singleton held.1 in cc

  -- the points' rows without reasons 1 to 9 are as many as NCURVE says
  counted : tally rows (curve name) ≡ (caf_row row.bytes).ncurve
  unfolding caf_facts
  counted =
      let c : Count = record { column = 7; number = (caf_row row.bytes).ncurve; group = curve (caf_row row.bytes).numbr } in
      let m : Memᴰ c (facts (entry_of texts row)).counts = subst (λ (f : Facts). Memᴰ c f.counts) (sym says) (mathlib.Core.List.Memᴰ.head refl) in
      ap (λ (n : CurveName). tally rows (curve n)) (sym caf_name) ∙ its.good.counted c m

  two_rows : 2 ≤ (caf_row row.bytes).ncurve
  two_rows =
      let l = subst (λ (t : Table). HasLine t row) held.0 (holder_line texts (curve name) row found) in
      subst (λ (bytes : List ℕ). 2 ≤ (caf_row bytes).ncurve) (sym l.bytes) (ncurve_two l.line l.passes)

  -- each of them is good, since the curve that it names is
  abbrev point_naming : CapRow → Naming
  point_naming r = record { column = 1; key = curve r.numbr; kind = itself points; chained = false }

  curve_met : (r : CapRow) → r.numbr ≡ name → Meets rows (point_naming r) (entry_of texts row)
  unfolding of_kind holds caf_facts
  curve_met r n =
      record {
        there = its.there;
        held =
            ap (λ (f : Facts). any (same_key (curve r.numbr)) f.keys) says
            ∙ or_left false
            (ap (λ (m : CurveName). same_key (curve r.numbr) (curve m)) (caf_name ∙ sym n) ∙ same_key_self (curve r.numbr));
        kind = ap (λ (f : Facts). f.meets points) says;
        good = (good_law rows (entry_of texts row)).1 its.good;
      }

  sound_good : (e : Entry) (r : CapRow) → facts e ≡ cap_facts r → r.numbr ≡ name → sound rows e ≡ true → Good rows e
  unfolding cap_facts
  sound_good e r q n s =
      record {
        is_sound = s;
        counted = λ c m. absurd (mathlib.Core.List.Memᴰ.not-nil (subst (λ (f : Facts). Memᴰ c f.counts) q m));
        on_no_circle = no_circle rows e (λ o. cap_follows e o r q);
        named = λ x m.
            let k : x ≡ point_naming r = mathlib.Core.List.Memᴰ.eq_of_singleton (subst (λ (f : Facts). Memᴰ x f.names) q m) in
            (entry_of texts row, subst (λ (y : Naming). Meets rows y (entry_of texts row)) (sym k) (curve_met r n));
      }

  point_good : (e : Entry) (p : Row) → Memᴰ p (rows_in texts) → entry_of texts p ≡ e → (belongs e (curve name) && sound rows e) ≡ true
      → (is_good texts p && is_in_group (curve name) p) ≡ true
  unfolding belongs is_in_group facts_of
  point_good e p m q h =
      let s : sound rows e ≡ true = and_right (belongs e (curve name)) (sound rows e) h in
      let f : facts e ≡ facts_of (table_of p) p.bytes =
      ap (λ (x : Entry). facts x) (sym q) ∙ sound_says texts p m (ap (sound rows) q ∙ s) in
      let b : any (same_key (curve name)) (facts_of (table_of p) p.bytes).groups ≡ true =
      ap (λ (x : Facts). any (same_key (curve name)) x.groups) (sym f) ∙ and_left (belongs e (curve name)) (sound rows e) h in
      let c = in_curve (table_of p) p.bytes name b in
      let g = sound_good e (cap_row p.bytes) (f ∙ ap (λ (t : Table). facts_of t p.bytes) c.0) c.1 s in
      and_both (is_good_lem texts p e q ((good_law rows e).1 g)) b

  -- 01: "NCURVE 3! 2–100"
  pub two_points : 2 ≤ length ((of_tables texts).members (curve name))
  unfolding of_tables among good_rows tally entry_at
  two_points =
      let k = rows_kept (λ e. belongs e (curve name) && sound rows e) (λ p. is_good texts p && is_in_group (curve name) p) texts
      (λ e p m i t n h. point_good e p i (rw (← t, ← n) (sym (row_of texts e m).1)) h) in
      omega (arith, k, counted, two_rows, ap length (keep_twice (is_good texts) (is_in_group (curve name)) (rows_in texts)))
