-- The tables kept one after the other: all rows are stored.
use mathlib.Core.Path.{◌≡◌, refl, ap, sym, subst, ◌∙◌}
use mathlib.Core.List.{List, []}
use Prim.Native.Nat.{ℕ, suc, ◌+◌, ◌*◌, ◌-◌, ◌≤◌, ◌<◌}
use native.Mathlib.Omega.{arith}
use native.Mathlib.Nat.{mul-le-mul_right, mul-add}
use native.Mathlib.Numerals.{add-one}
use lib.Dec.{ltb}
use lib.ListN.{length, get_or, drop}
use borrow.Author.Tests.{ltb-true, ltb-false}
use Rattle.laws.proofs.Cases.{bool_cases}
use Rattle.laws.proofs.Lists.{split}
use Rattle.arrays.specs.Room.{most_places}
use Rattle.symbols.specs.Arrays.{most_symbols}
use Rattle.lines.specs.Lines.{lines_of}
use Rattle.schemas.specs.declared.Table.{Table}
use Rattle.schemas.specs.declared.Table.TheVariants.{Ocp}
use Rattle.verdicts.specs.Entries.{bad, Entry, own, facts, carried, all_rows, table_count, carried_at}
use Rattle.verdicts.specs.Answer.{too_long, too_many_rows, most_rows}
use Rattle.verdicts.specs.Places.{text_at, entry_at, rows_before, place}
use Rattle.verdicts.proofs.EntryLaws.{rows_before_next, length_rows, row_at}
use Rattle.row_keys.specs.declared.records.RowKeys.{RowKeys}
use Rattle.keys.specs.Held.{keys_of, row_keys_of}
use Rattle.tables.proofs.SizeLaws.{short, few}
use Rattle.kept.proofs.RoomLaws.{roomy}
use Rattle.kept.specs.Stored.{at, kept_start_column, kept_table_column, keys_at, Stored}
use Rattle.kept.specs.Asked.{asks, asks_of}
use Rattle.kept.specs.FirstPass.{Arrays, Ready, Onward, RowAt, table_line, StartsAt, TableKept, Situated, Situations, SameSizes}
use Rattle.kept.proofs.FirstPassLaws.{row_stays, ready_on}

abbrev no_entry : Entry
no_entry = record { table = 0; row = 0; reading = bad 1 }

-- ---- rows by their tables and lines

-- the keys of row j of table t
pub keys_at_lem : (texts : List (List ℕ)) (t j : ℕ) → t < table_count → j < length (lines_of (text_at texts t))
    → keys_at (all_rows texts) (rows_before texts t + j) ≡ row_keys_of (carried_at t) (table_line (text_at texts t) j)
unfolding row_keys_of entry_at place
keys_at_lem texts t j h l =
    let s : suc j - 1 ≡ j = omega arith in
    let e = row_at texts t (suc j) (record { table = h; above = omega arith; below = l }) no_entry in
    ap (λ (e : Entry). keys_of (own e.reading) (facts e)) (rw s at e)

-- ---- what the columns tell of a row's place

situated_new : (texts : List (List ℕ)) (t j start i : ℕ) → t < table_count → j < length (lines_of (text_at texts t)) → i ≡ rows_before texts t + j
    → StartsAt (text_at texts t) j start → Situated texts t start i
situated_new texts t j start i h l e w =
    let z : i - rows_before texts t ≡ j = omega arith in
    record {
      below = h;
      low = omega arith;
      high = omega (arith, rows_before_next texts t);
      start = rw z w;
    }

situated_stays : {s₀ s₁ : Arrays} {from more : ℕ} (texts : List (List ℕ)) (i : ℕ) → Onward s₀ s₁ from more → i < from
    → Situated texts (at s₀.bytes kept_table_column i) (at s₀.halves kept_start_column i) i
    → Situated texts (at s₁.bytes kept_table_column i) (at s₁.halves kept_start_column i) i
situated_stays texts i o h w = rw (o.bytes kept_table_column i h, o.halves kept_start_column i h) w

-- ---- the pass over the tables

-- the rows of the tables before t are stored, and there is room for the symbols of the others
pub record Passed (texts : List (List ℕ)) (s₀ s : Arrays) (rows t : ℕ) : Type 0 where
  pub within : t ≤ table_count
  pub count : rows ≡ rows_before texts t
  pub most : rows ≤ most_rows * t
  pub room : s.count + most_rows * asks_of (drop t carried) ≤ most_symbols
  pub ready : Ready s
  pub sizes : SameSizes s₀ s
  pub row : (i : ℕ) → i < rows → RowAt s (keys_at (all_rows texts) i) i
  pub situated : Situations texts s.halves s.bytes rows
  pub below : (u i : ℕ) → u < t → get_or (text_at texts u) i 0 < 256

asks_next : (t : ℕ) → t < table_count → asks_of (drop t carried) ≡ asks (carried_at t) + asks_of (drop (t + 1) carried)
unfolding asks_of
asks_next t h = rw (split carried t Ocp h)

module _ (texts : List (List ℕ)) (all : length texts ≡ table_count) (s₀ : Arrays) where
  pub pass_start : Ready s₀ → s₀.count ≡ 0 → Passed texts s₀ s₀ 0 0
  unfolding rows_before
  pass_start z e =
      record {
        within = omega arith;
        count = refl;
        most = omega arith;
        room = omega (arith, roomy.symbols);
        ready = z;
        sizes = record { words = refl; links = refl; halves = refl; bytes = refl };
        row = λ i h. absurd (omega arith);
        situated = λ i h. absurd (omega arith);
        below = λ u i l. absurd (omega arith);
      }

  module _ (s : Arrays) (rows t : ℕ) (p : Passed texts s₀ s rows t) (m : too_many_rows texts ≡ 0) (h : t < table_count) where
    abbrev table : Table
    table = carried_at t

    abbrev text : List ℕ
    text = get_or texts t []

    lines : length (lines_of text) ≤ most_rows
    lines = few texts t (omega arith) m

    -- there is a place for each row of the next table, and for its symbols
    pass_places : rows + length (lines_of text) ≤ most_places
    pass_places = omega (arith, p.most, lines, roomy.rows)

    fewer : length (lines_of text) * asks table ≤ most_rows * asks table
    fewer = mul-le-mul_right (asks table) lines

    pass_room : s.count + length (lines_of text) * asks table ≤ most_symbols
    pass_room = omega (arith, p.room, asks_next t h, fewer, mul-add most_rows (asks table) (asks_of (drop (t + 1) carried)))

    module _ (s' : Arrays) (k : TableKept s s' table t text rows (length (lines_of text))) where
      -- a row of the tables before, or of the next
      pass_row : (i : ℕ) → i < rows + length (lines_of text) → RowAt s' (keys_at (all_rows texts) i) i
      pass_row i l =
          bool_cases (ltb i rows)
          (λ q. let b = ltb-true i rows q in row_stays k.onward _ i b (p.row i b))
          (λ q. let b = ltb-false i rows q in
          let j : ℕ = i - rows in
          let e : rows + j ≡ i = omega arith in
          let z : i ≡ rows_before texts t + j = omega (arith, p.count) in
          let c = (k.line j (omega arith)).row in
          subst (λ (n : ℕ). RowAt s' (keys_at (all_rows texts) i) n) e
          (subst (λ (r : RowKeys). RowAt s' r (rows + j)) (sym (ap (keys_at (all_rows texts)) z ∙ keys_at_lem texts t j h (omega arith))) c))

      pass_situated : Situations texts s'.halves s'.bytes (rows + length (lines_of text))
      pass_situated i l =
          bool_cases (ltb i rows)
          (λ q. let b = ltb-true i rows q in situated_stays texts i k.onward b (p.situated i b))
          (λ q. let b = ltb-false i rows q in
          let j : ℕ = i - rows in
          let e : rows + j ≡ i = omega arith in
          let c = k.line j (omega arith) in
          let n : at s'.bytes kept_table_column i ≡ t = ap (at s'.bytes kept_table_column) (sym e) ∙ c.number in
          let w : StartsAt text j (at s'.halves kept_start_column i) = subst (λ (y : ℕ). StartsAt text j (at s'.halves kept_start_column y)) e c.start in
          subst (λ (u : ℕ). Situated texts u (at s'.halves kept_start_column i) i) (sym n)
          (situated_new texts t j _ i h (omega arith) (omega (arith, p.count)) w))

      pass_more : (rows' : ℕ) → rows' ≡ rows + length (lines_of text) → ((i : ℕ) → get_or text i 0 < 256) → Passed texts s₀ s' rows' (t + 1)
      pass_more rows' e b =
          let o = k.onward in
          record {
            within = omega arith;
            count = e ∙ rw (add-one t, rows_before_next texts t, p.count);
            most = omega (arith, p.most, lines);
            room = omega (arith, p.room, asks_next t h, fewer, mul-add most_rows (asks table) (asks_of (drop (t + 1) carried)), o.grown.few);
            ready = ready_on o p.ready;
            sizes = record {
              words = o.grown.words ∙ p.sizes.words;
              links = o.grown.links ∙ p.sizes.links;
              halves = o.halves_long ∙ p.sizes.halves;
              bytes = o.bytes_long ∙ p.sizes.bytes;
            };
            row = λ i l. pass_row i (omega arith);
            situated = λ i l. pass_situated i (omega arith);
            below = λ u i l. bool_cases (ltb u t) (λ q. p.below u i (ltb-true u t q))
                (λ q. let z : u ≡ t = omega (arith, ltb-false u t q) in subst (λ (y : ℕ). get_or (text_at texts y) i 0 < 256) (sym z) (b i));
          }

    -- the table's bytes, as they are read
    module _ (u : List ℕ) (is : u ≡ text) where
      pub next_short : too_long texts ≡ 0 → length u ≤ 65536
      next_short l = rw is (short texts t (omega arith) l)

      pub next_places : rows + length (lines_of u) ≤ most_places
      next_places = rw is pass_places

      pub next_room : s.count + length (lines_of u) * asks table ≤ most_symbols
      next_room = rw is pass_room

      pub pass_next : (s' : Arrays) (rows' : ℕ) → TableKept s s' table t u rows (length (lines_of u)) → rows' ≡ rows + length (lines_of u)
          → ((i : ℕ) → get_or u i 0 < 256) → Passed texts s₀ s' rows' (t + 1)
      pass_next s' rows' k e b = pass_more s' (rw is at k) rows' (rw is at e) (λ i. rw is at (b i))

  module _ (s : Arrays) (rows t : ℕ) (p : Passed texts s₀ s rows t) (h : table_count ≤ t) where
    pub pass_count : rows ≡ length (all_rows texts)
    pass_count = let z : t ≡ table_count = omega (arith, p.within) in p.count ∙ rw z (sym (length_rows texts))

    pub pass_stored : Stored (all_rows texts) s.words s.links s.count s.halves s.bytes
    pass_stored =
        let n = pass_count in
        record {
          few = omega (arith, p.most, p.within, roomy.rows);
          small = omega (arith, p.room);
          table = p.ready.table;
          row = λ i l. (p.row i (omega arith)).row;
          known = λ i l. (p.row i (omega arith)).known;
        }
