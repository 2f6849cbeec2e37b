-- Refusal 32 of an engineering value means exactly what 01 says, "no text".
use mathlib.Core.Path.{◌≡◌, refl, sym, ap, ◌∙◌}
use mathlib.Core.Logic.{◌↔◌}
use mathlib.Core.Bool.{Bool, true, false, cond}
use mathlib.Core.List.{List, [], ◌∷◌, map, Memᴰ}
use mathlib.Core.Option.{Option, some}
use Rattle.std.specs.Prelude.{Some, None}
use Rattle.std.specs.Prelude as rust
use Prim.Native.Nat.{ℕ, zero, suc, ◌<◌}
use native.Mathlib.Nat.{le_of_suc-le-suc, not-suc-le-zero}
use native.Mathlib.Omega.{arith}
use lib.IntN.{ℤ, pos}
use lib.ListN.{length, get_or, get_elem?, length-map}
use lib.Signed.{le_z, lt_z}
use Rattle.laws.proofs.Lists.{map_at, at_mem}
use Rattle.name_bytes.specs.declared.CurveName.{CurveName}
use Rattle.decoding.specs.Records.{txp_row}
use Rattle.rows.specs.declared.letters.Category.{Category}
use Rattle.rows.specs.declared.letters.Category.TheVariants.{Numeric, Status, Text}
use Rattle.rows.specs.declared.records.PcfRow.{PcfRow}
use Rattle.verdicts.specs.Key.{texts}
use Rattle.calibration.specs.Nearest.{passes, nearer, not_above}
use Rattle.calibration.specs.declared.nearest.Side.TheVariants.{NotAbove}
use Rattle.calibration.proofs.OrderLaws.{le_not_lt}
use Rattle.calibration.proofs.NearestOf.{Nearest, not_above_nearest}
use Rattle.outcomes.specs.Outcome.{Outcome, answer, refused}
use Rattle.outcomes.specs.Values.{number}
use Rattle.database.specs.Rows.{Row}
use Rattle.database.specs.GoodRows.{of_tables}
use Rattle.texts.specs.Texts.{from_of, to_of, altxt_of, found_in, text_in, text_for}
use Rattle.engineering.specs.Engineering.{Engineered, value, text, as_value, as_text, engineered}
use Rattle.curve_values.proofs.OrderLaws.{not_lt}
use Rattle.at_verdicts.specs.NoText.{GreatestFrom, Textless}
use Rattle.at_verdicts.proofs.NumberLaws.{number_in, Numbered, never_one, then_refused, first_only}
use Rattle.at_verdicts.proofs.ByCategory.{numeric_numbers, by_text, as_string}
use Rattle.at_verdicts.proofs.TextRows.{one_range}

-- Places of a list

mem_at : {A : Type 0} (d : A) {a : A} {l : List A} → Memᴰ a l → (i : ℕ) × (i < length l) × (get_or l i d ≡ a)
mem_at d (Memᴰ.head e) = (0, omega arith, sym e)
mem_at d (Memᴰ.tail m) = let w = mem_at d m in (suc w.0, omega (arith, w.1), w.2)

there_is : {A : Type 0} (l : List A) (i : ℕ) (d : A) → i < length l → get_elem? l i ≡ some (get_or l i d)
there_is [] i d h = absurd (not-suc-le-zero h)
there_is (a ∷ l) zero d h = refl
there_is (a ∷ l) (suc i) d h = there_is l i d (le_of_suc-le-suc h)

-- no row
abbrev no_row : Row
no_row = record { table = 0; number = 0; start = 0; bytes = [] }

-- the row that is found has the greatest FROM not above the raw value
module _ (ranges : List Row) (raw : ℤ) where
  from_at : (i : ℕ) → i < length ranges → get_or (map from_of ranges) i (pos 0) ≡ from_of (get_or ranges i no_row)
  from_at i h = map_at from_of ranges i no_row (pos 0) h

  abbrev IsNearest : rust.Option ℕ → Type 0
  IsNearest f = Nearest NotAbove (map from_of ranges) raw (length (map from_of ranges)) f

  inside : (i : ℕ) → i < length (map from_of ranges) → i < length ranges
  inside i h = omega (arith, length-map ranges from_of)

  within : (i : ℕ) → i < length ranges → i < length (map from_of ranges)
  within i h = omega (arith, length-map ranges from_of)

  found_greatest : (i : ℕ) → IsNearest (Some i) → GreatestFrom ranges raw (get_or ranges i no_row)
  unfolding passes nearer
  found_greatest i n =
      let h = inside i n.0 in
      record {
        among = at_mem ranges i no_row h;
        not_above = ap (λ (x : ℤ). le_z x raw) (sym (from_at i h)) ∙ n.1;
        greatest = λ other m t.
            let w = mem_at no_row m in
            let x : get_or (map from_of ranges) w.0 (pos 0) ≡ from_of other = from_at w.0 w.1 ∙ ap from_of w.2 in
            let c = n.2 w.0 (within w.0 w.1) (ap (λ (x : ℤ). le_z x raw) x ∙ t) in
            ap (λ (y : ℤ). lt_z y (from_of other)) (sym (from_at i h)) ∙ ap (lt_z (get_or (map from_of ranges) i (pos 0))) (sym x) ∙ c;
      }

  found_none : IsNearest None → (range : Row) → GreatestFrom ranges raw range → ⊥
  unfolding passes
  found_none n range g =
      let w = mem_at no_row g.among in
      n w.0 (within w.0 w.1) (ap (λ (x : ℤ). le_z x raw) (from_at w.0 w.1 ∙ ap from_of w.2) ∙ g.not_above)

  -- two rows of the greatest FROM have one FROM
  one_from : (a b : Row) → GreatestFrom ranges raw a → GreatestFrom ranges raw b → from_of a ≡ from_of b
  one_from a b g h =
      le_not_lt (from_of a) (from_of b) (not_lt (from_of b) (from_of a) (h.greatest a g.among g.not_above)) (g.greatest b h.among h.not_above)

-- 01: "if TO isn't below it"
to_below : (row : Row) (raw : ℤ) → text_in (some row) raw ≡ refused 32 0 → lt_z (to_of row) raw ≡ true
unfolding text_in
to_below row raw e = go (lt_z (to_of row) raw) e
  where
    go : (b : Bool) → cond b (refused 32 0) (answer (altxt_of row)) ≡ refused 32 0 → b ≡ true
    go true e = refl
    go false e = absurd (let z : ◌≡◌ {A = ℕ} 0 1 = cc in omega arith)

below_to : (row : Row) (raw : ℤ) → lt_z (to_of row) raw ≡ true → text_in (some row) raw ≡ refused 32 0
unfolding text_in
below_to row raw t = rw t

module _ (tables : List (List ℕ)) (name : CurveName) (raw : ℤ) where
  abbrev ranges : List Row
  ranges = (of_tables tables).members (texts name)

  abbrev Below : Type 0
  Below = (range : Row) → GreatestFrom ranges raw range → lt_z (to_of range) raw ≡ true

  no_text : (f : rust.Option ℕ) → IsNearest ranges raw f → text_in (found_in ranges f) raw ≡ refused 32 0 → Below
  unfolding found_in to_of
  no_text None n e range g = absurd (found_none ranges raw n range g)
  no_text (Some i) n e range g =
      let h = inside ranges raw i n.0 in
      let row : Row = get_or ranges i no_row in
      let f = found_greatest ranges raw i n in
      let same : row.bytes ≡ range.bytes = one_range tables name row range f.among g.among (one_from ranges raw row range f g) in
      ap (λ (bytes : List ℕ). lt_z (txp_row bytes).to raw) (sym same)
      ∙ to_below row raw (ap (λ (o : Option Row). text_in o raw) (sym (there_is ranges i no_row h)) ∙ e)

  text_none : (f : rust.Option ℕ) → IsNearest ranges raw f → Below → text_in (found_in ranges f) raw ≡ refused 32 0
  unfolding found_in text_in
  text_none None n b = refl
  text_none (Some i) n b =
      let h = inside ranges raw i n.0 in
      ap (λ (o : Option Row). text_in o raw) (there_is ranges i no_row h)
      ∙ below_to (get_or ranges i no_row) raw (b (get_or ranges i no_row) (found_greatest ranges raw i n))

  text_32 : (text_for (of_tables tables) name raw ≡ refused 32 0) ↔ Below
  unfolding text_for
  text_32 =
      let f : rust.Option ℕ = not_above (map from_of ranges) raw in
      let n = not_above_nearest (map from_of ranges) raw in
      (no_text f n, text_none f n)

-- 32 of an engineering value, by any pcf row
pub engineered_32 : (tables : List (List ℕ)) (r : PcfRow) (raw : ℤ) → (engineered (of_tables tables) r raw ≡ refused 32 0) ↔ Textless (of_tables tables) r raw
unfolding as_value as_text
engineered_32 tables r raw = (λ e. go r.categ refl e, back)
  where
    never : (o : Outcome Engineered) → Numbered (30 ∷ 31 ∷ []) o → engineered (of_tables tables) r raw ≡ o
        → engineered (of_tables tables) r raw ≡ refused 32 0 → ⊥
    never o h q e = never_one 32 (30 ∷ 31 ∷ []) o refl h (ap (λ (o : Outcome Engineered). number_in o) (sym q ∙ e))

    go : (c : Category) → r.categ ≡ c → engineered (of_tables tables) r raw ≡ refused 32 0 → Textless (of_tables tables) r raw
    go Numeric c e = absurd (never (engineered (of_tables tables) r raw) (numeric_numbers (of_tables tables) r raw (30 ∷ 31 ∷ []) refl refl c) refl e)
    go Text c e = absurd (never (answer (value (number raw))) refl (as_string (of_tables tables) r raw c) e)
    go Status c e =
        record {
          status = c;
          below =
              (text_32 tables r.curtx.name raw).0
              (first_only 32 0 (text_for (of_tables tables) r.curtx.name raw) as_text (λ t. (text t, refl)) (sym (by_text (of_tables tables) r raw c) ∙ e));
        }

    back : Textless (of_tables tables) r raw → engineered (of_tables tables) r raw ≡ refused 32 0
    back u =
        by_text (of_tables tables) r raw u.status
        ∙ then_refused (text_for (of_tables tables) r.curtx.name raw) as_text 32 0 ((text_32 tables r.curtx.name raw).1 u.below)
