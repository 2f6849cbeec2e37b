-- A parameter that a good plf or ocf row names has its good pcf row.
use mathlib.Core.Path.{◌≡◌, refl, sym, ap, subst, ◌∙◌}
use mathlib.Core.Bool.{true, false, cond}
use mathlib.Core.List.{List, [], ◌∷◌, Memᴰ}
use mathlib.Core.Option.{Option, none, some}
use Prim.Native.Nat.{ℕ}
use native.Mathlib.Omega.{arith}
use Rattle.laws.proofs.Cases.{false≢true, and_left, and_right}
use Rattle.laws.proofs.Tests.{any_witness}
use Rattle.lines.specs.Lines.{Line}
use Rattle.name_bytes.specs.declared.Name.{Name}
use Rattle.schemas.specs.declared.Table.{Table}
use Rattle.schemas.specs.declared.Table.TheVariants.{Plf, Pcf, Ocf}
use Rattle.decoding.specs.Records.{plf_row, pcf_row, ocf_row}
use Rattle.rows.specs.declared.letters.Category.{Category}
use Rattle.rows.specs.declared.letters.Category.TheVariants.{Numeric, Status, Text}
use Rattle.rows.specs.declared.records.PcfRow.{PcfRow}
use Rattle.widths.specs.Width.{width_of}
use Rattle.contradictions.specs.Contradictions.{is_whole, is_refused, pcf_contradiction, contradiction}
use Rattle.formed.specs.Formed.{formed}
use Rattle.formed.proofs.Meaning.{formed_well}
use Rattle.verdicts.specs.Key.{Key, location, parameter, limits, same_key}
use Rattle.verdicts.specs.Facts.{locatable, numeric, itself, Naming, facts_of, plf_facts, pcf_facts, ocf_facts}
use Rattle.verdicts.proofs.KeyLaws.{same_key_is}
use Rattle.verdicts.proofs.OwnerLaws.{owners_of}
use Rattle.database.specs.Rows.{Row}
use Rattle.database.specs.GoodRows.{table_of, holds_key, of_tables}
use Rattle.database.proofs.OwnerLaws.{only_owner}
use Rattle.refusal_places.proofs.GoodRows.{owner_line}
use Rattle.at_verdicts.proofs.NamedRows.{found_good, found_holds, named_row, named_meets}

-- A row's table and key

-- the line of a row that holds a key says it
pub held_in : (key : Key) (row : Row) (table : Table) → table_of row ≡ table → holds_key key row ≡ true
    → (table_of row ≡ table) × Memᴰ key (facts_of table row.bytes).keys
unfolding holds_key
held_in key row table t h =
    let w = any_witness (same_key key) (facts_of (table_of row) row.bytes).keys h in
    let m : Memᴰ key (facts_of (table_of row) row.bytes).keys =
    subst (λ (k : Key). Memᴰ k (facts_of (table_of row) row.bytes).keys) (sym (same_key_is key w.0 w.2)) w.1 in
    (t, subst (λ (x : Table). Memᴰ key (facts_of x row.bytes).keys) t m)

-- it is of the table that has such keys, where there is one
pub held_by : (key : Key) (row : Row) (table : Table) → owners_of key ≡ table ∷ [] → holds_key key row ≡ true
    → (table_of row ≡ table) × Memᴰ key (facts_of table row.bytes).keys
held_by key row table o h = held_in key row table (only_owner key table row o h) h

plf_name : (name : Name) (spid : ℕ) (line : List ℕ) → Memᴰ (location name spid) (facts_of Plf line).keys → (plf_row line).name ≡ name
unfolding facts_of plf_facts
plf_name name spid line m = let e = mathlib.Core.List.Memᴰ.eq_of_singleton m in cc

pub ocf_name : (name : Name) (line : List ℕ) → Memᴰ (limits name) (facts_of Ocf line).keys → (ocf_row line).name ≡ name
unfolding facts_of ocf_facts
ocf_name name line m = let e = mathlib.Core.List.Memᴰ.eq_of_singleton m in cc

-- The parameter's row

-- 01: "Any other pair is reason 8 at column 6": a good pcf row's PTC and PFC have a width
bits_of : (w : Option ℕ) (m : ℕ) → cond (is_refused w) 6 m ≡ 0 → (n : ℕ) × (w ≡ some n)
unfolding is_refused
bits_of (some n) m e = (n, refl)
bits_of none m e = absurd (omega arith)

formed_width : (line : Line) → formed Pcf line ≡ 0 → (n : ℕ) × (width_of (pcf_row line.bytes).ptc (pcf_row line.bytes).pfc ≡ some n)
unfolding contradiction pcf_contradiction
formed_width line e = bits_of (width_of (pcf_row line.bytes).ptc (pcf_row line.bytes).pfc) _ (formed_well Pcf line e).agreeing

-- the good pcf row of a parameter, whose PTC and PFC have a width
pub record Described (texts : List (List ℕ)) (name : Name) : Type 0 where
  pub row : Row
  pub found : (of_tables texts).holder (parameter name) ≡ some row
  pub width : ℕ
  pub wide : width_of (pcf_row row.bytes).ptc (pcf_row row.bytes).pfc ≡ some width

module _ (texts : List (List ℕ)) (name : Name) where
  pub parameter_width : (row : Row) → (of_tables texts).holder (parameter name) ≡ some row
      → (n : ℕ) × (width_of (pcf_row row.bytes).ptc (pcf_row row.bytes).pfc ≡ some n)
  unfolding owners_of
  parameter_width row e =
      let l = owner_line texts (parameter name) Pcf row refl e in
      let w = formed_width l.line l.passes in
      (w.0, ap (λ (bytes : List ℕ). width_of (pcf_row bytes).ptc (pcf_row bytes).pfc) l.bytes ∙ w.1)

  described : (row : Row) → (of_tables texts).holder (parameter name) ≡ some row → Described texts name
  described row e = let w = parameter_width row e in record { row = row; found = e; width = w.0; wide = w.1 }

  -- 02, P5: "plf NAME may name a pcf row of NATUR R or C"
  abbrev plf_naming : Naming
  plf_naming = record { column = 1; key = parameter name; kind = itself locatable; chained = false }

  plf_names : (row : Row) → table_of row ≡ Plf → (plf_row row.bytes).name ≡ name → Memᴰ plf_naming (facts_of (table_of row) row.bytes).names
  unfolding facts_of plf_facts
  plf_names row t n = rw (t, ← n) (mathlib.Core.List.Memᴰ.head refl)

  -- the parameter of a good plf row
  pub plf_parameter : (spid : ℕ) (row : Row) → (of_tables texts).holder (location name spid) ≡ some row → Described texts name
  unfolding owners_of
  plf_parameter spid row e =
      let h = held_by (location name spid) row Plf refl (found_holds texts (location name spid) row e) in
      let w = named_row texts row (found_good texts (location name spid) row e) plf_naming (plf_names row h.0 (plf_name name spid row.bytes h.1)) in
      described w.row w.found

  -- 01: "NAME 8! (a pcf row of PTC 1–4, CATEG N)"
  abbrev ocf_naming : Naming
  ocf_naming = record { column = 1; key = parameter name; kind = itself numeric; chained = false }

  ocf_names : (row : Row) → table_of row ≡ Ocf → (ocf_row row.bytes).name ≡ name → Memᴰ ocf_naming (facts_of (table_of row) row.bytes).names
  unfolding facts_of ocf_facts
  ocf_names row t n = rw (t, ← n) (mathlib.Core.List.Memᴰ.head refl)

  pcf_whole : (r : PcfRow) → (pcf_facts r).meets numeric ≡ true → is_whole r.ptc ≡ true
  unfolding pcf_facts
  pcf_whole r m = and_left (is_whole r.ptc) _ m

  pcf_numeric : (r : PcfRow) → (pcf_facts r).meets numeric ≡ true → r.categ ≡ Numeric
  unfolding pcf_facts
  pcf_numeric r m = go r.categ refl
    where
      go : (c : Category) → r.categ ≡ c → c ≡ Numeric
      go Numeric q = refl
      go Status q = absurd (false≢true (and_right (is_whole r.ptc) false (rw q at m)))
      go Text q = absurd (false≢true (and_right (is_whole r.ptc) false (rw q at m)))

  -- the parameter of a good ocf row
  module _ (ocf row : Row) (e : (of_tables texts).holder (limits name) ≡ some ocf) (f : (of_tables texts).holder (parameter name) ≡ some row) where
    ocf_meets : (pcf_facts (pcf_row row.bytes)).meets numeric ≡ true
    unfolding owners_of facts_of
    ocf_meets =
        let h = held_by (limits name) ocf Ocf refl (found_holds texts (limits name) ocf e) in
        let w = named_row texts ocf (found_good texts (limits name) ocf e) ocf_naming (ocf_names ocf h.0 (ocf_name name ocf.bytes h.1)) in
        let t = held_by (parameter name) w.row Pcf refl (found_holds texts (parameter name) w.row w.found) in
        let q : w.row ≡ row = cc (w.found, f) in
        ap (λ (r : Row). (facts_of Pcf r.bytes).meets numeric) (sym q) ∙ ap (λ (t : Table). (facts_of t w.row.bytes).meets numeric) (sym t.0)
        ∙ named_meets texts ocf_naming numeric refl w

    -- is of PTC 1-4
    pub ocf_parameter : is_whole (pcf_row row.bytes).ptc ≡ true
    ocf_parameter = pcf_whole (pcf_row row.bytes) ocf_meets

    -- and of CATEG N
    pub ocf_numeric : (pcf_row row.bytes).categ ≡ Numeric
    ocf_numeric = pcf_numeric (pcf_row row.bytes) ocf_meets
