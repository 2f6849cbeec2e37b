-- Rows stored one after the other.
use mathlib.Core.Path.{◌≡◌, refl, ap, sym, subst, ◌∙◌}
use mathlib.Core.List.{List, [], ◌∷◌}
use Prim.Native.Nat.{ℕ, ◌+◌, ◌*◌, ◌-◌, ◌≤◌, ◌<◌}
use native.Mathlib.Omega.{arith}
use native.Mathlib.Decide.{ℕ_discrete}
use native.Mathlib.Nat.{add-mul, mul-le-mul_right}
use native.Mathlib.Numerals.{add-one}
use lib.ListN.{length, get_or, drop, length-drop}
use Rattle.arrays.specs.Room.{most_places}
use Rattle.symbols.specs.Arrays.{most_symbols}
use Rattle.kept.proofs.PlaceLaws.{at_below, at_is, at_next}
use Rattle.lines.specs.Lines.{lines_of, line_length, next_line, line_from}
use Rattle.lines.proofs.LineLaws.{lines_next, lines_none, next_bounds}
use Rattle.schemas.specs.declared.Table.{Table}
use Rattle.verdicts.specs.Places.{no_line}
use Rattle.symbols.specs.declared.Symbol.{Symbol}
use Rattle.row_keys.specs.declared.records.RowKeys.{RowKeys}
use Rattle.row_keys.specs.Parts.{key_in}
use Rattle.kept.specs.declared.interning.RowIds.{RowIds}
use Rattle.keys.specs.Held.{row_keys_of}
use Rattle.kept.specs.Stored.{at, kept_start_column, kept_table_column, KnownRow}
use Rattle.kept.specs.Ids.{KeepsIds, wanted, RowEntered}
use Rattle.kept.specs.Puts.{put_columns, halves_of, bytes_of, AllPlaces}
use Rattle.kept.specs.Asked.{asks}
use Rattle.kept.specs.FirstPass.{Arrays, arrays, Ready, Onward, RowAt, RowKept, table_line, StartsAt, LineKept, TableKept}
use Rattle.kept.proofs.IdLaws.{known_on, grown_on, grown_most, spacious_on, slot_on, named_on, named_code}
use Rattle.kept.proofs.PutLaws.{put_length, put_there, put_here}
use Rattle.kept.proofs.RoomLaws.{row_asks}

-- ---- what is stored stays

module _ {ls ms : List Symbol} (w : KeepsIds ls ms) (r : RowKeys) where
  pub known_stays : KnownRow ls r → KnownRow ms r
  known_stays k =
      record {
        first = λ g. known_on w (key_in r.first) (k.first g);
        second = λ g. known_on w (key_in r.second) (k.second g);
        one = λ g. known_on w r.one.key (k.one g);
        two = λ g. known_on w r.two.key (k.two g);
        group = λ g. known_on w (key_in r.group) (k.group g);
      }

-- THE LAW OF ROWS KEPT: a row stays as it is stored while symbols grow and other rows are stored
module _ {s₀ s₁ : Arrays} {from more : ℕ} (o : Onward s₀ s₁ from more) where
  pub row_stays : (r : RowKeys) (i : ℕ) → i < from → RowAt s₀ r i → RowAt s₁ r i
  row_stays r i h x =
      let w = o.grown.keeps in
      let k = x.known in
      let p = x.row in
      record {
        row = record {
          own = o.halves 0 i h ∙ p.own;
          key1 = o.halves 1 i h ∙ p.key1 ∙ sym (slot_on w r.first k.first);
          key2 = o.halves 2 i h ∙ p.key2 ∙ sym (slot_on w r.second k.second);
          name1 = o.halves 3 i h ∙ p.name1 ∙ sym (named_on w r.one (λ e. k.one (named_code r.one e)));
          name2 = o.halves 4 i h ∙ p.name2 ∙ sym (named_on w r.two (λ e. k.two (named_code r.two e)));
          group = o.halves 5 i h ∙ p.group ∙ sym (slot_on w r.group k.group);
          number = o.halves 6 i h ∙ p.number;
          code1 = o.bytes 0 i h ∙ p.code1;
          code2 = o.bytes 1 i h ∙ p.code2;
          marks = o.bytes 2 i h ∙ p.marks;
          column = o.bytes 3 i h ∙ p.column;
        };
        known = known_stays w r k;
      }

  pub ready_on : Ready s₀ → Ready s₁
  ready_on z =
      record {
        table = o.grown.table;
        spacious = spacious_on z.spacious o.grown;
        wide = record { halves = omega (arith, z.wide.halves, o.halves_long); bytes = omega (arith, z.wide.bytes, o.bytes_long) };
      }

pub onward_on : {s₀ s₁ s₂ : Arrays} {from to more less : ℕ} → Onward s₀ s₁ from more → Onward s₁ s₂ to less → from ≤ to → Onward s₀ s₂ from (more + less)
onward_on v w h =
    record {
      grown = grown_on v.grown w.grown;
      halves = λ c i l. w.halves c i (omega arith) ∙ v.halves c i l;
      bytes = λ c i l. w.bytes c i (omega arith) ∙ v.bytes c i l;
      halves_long = w.halves_long ∙ v.halves_long;
      bytes_long = w.bytes_long ∙ v.bytes_long;
    }

-- ---- one row more

module _ (w₀ l₀ w₁ l₁ : List ℕ) (n : ℕ) (h₀ b₀ h₁ b₁ : List ℕ) (r : RowKeys) (ids : RowIds) (i start table : ℕ) where
  pub row_kept : i < most_places → AllPlaces h₀ b₀ → RowEntered w₀ l₀ w₁ l₁ n r ids → h₁ ≡ put_columns 0 h₀ i (halves_of r ids start)
      → b₁ ≡ put_columns 0 b₀ i (bytes_of r table)
      → RowKept (arrays w₀ l₀ n h₀ b₀) (arrays w₁ l₁ ids.count h₁ b₁) r i start table
  row_kept h z e p q =
      record {
        onward = record {
          grown = e.grown;
          halves = λ c j l. half_stays c j l;
          bytes = λ c j l. byte_stays c j l;
          halves_long = ap length p ∙ put_length (halves_of r ids start) 0 h₀ i;
          bytes_long = ap length q ∙ put_length (bytes_of r table) 0 b₀ i;
        };
        row = record {
          row = record {
            own = half 0 (omega arith);
            key1 = half 1 (omega arith) ∙ e.key1;
            key2 = half 2 (omega arith) ∙ e.key2;
            name1 = half 3 (omega arith) ∙ e.name1;
            name2 = half 4 (omega arith) ∙ e.name2;
            group = half 5 (omega arith) ∙ e.group;
            number = half 6 (omega arith);
            code1 = byte 0 (omega arith);
            code2 = byte 1 (omega arith);
            marks = byte 2 (omega arith);
            column = byte 3 (omega arith);
          };
          known = e.known;
        };
        start = half 7 (omega arith);
        table = byte 4 (omega arith);
      }
    where
      half : (c : ℕ) → c < 8 → at h₁ (0 + c) i ≡ get_or (halves_of r ids start) c 0
      half c l = ap (λ (xs : List ℕ). at xs (0 + c) i) p ∙ put_here i h (halves_of r ids start) 0 h₀ c l z.halves

      byte : (c : ℕ) → c < 5 → at b₁ (0 + c) i ≡ get_or (bytes_of r table) c 0
      byte c l = ap (λ (xs : List ℕ). at xs (0 + c) i) q ∙ put_here i h (bytes_of r table) 0 b₀ c l z.bytes

      half_stays : (c j : ℕ) → j < i → at h₁ c j ≡ at h₀ c j
      half_stays c j l = ap (λ (xs : List ℕ). at xs c j) p ∙ put_there i h (halves_of r ids start) 0 h₀ c j (omega arith) (λ y. omega (arith, y))

      byte_stays : (c j : ℕ) → j < i → at b₁ c j ≡ at b₀ c j
      byte_stays c j l = ap (λ (xs : List ℕ). at xs c j) q ∙ put_there i h (bytes_of r table) 0 b₀ c j (omega arith) (λ y. omega (arith, y))

-- ---- the lines of a table

pub onward_self : {s : Arrays} (from : ℕ) → Ready s → Onward s s from 0
onward_self {s} from z =
    record {
      grown = record { keeps = record { same = λ k h. refl }; table = z.table; few = omega arith; words = refl; links = refl };
      halves = λ c i h. refl;
      bytes = λ c i h. refl;
      halves_long = refl;
      bytes_long = refl;
    }

pub onward_most : {s₀ s₁ : Arrays} {from more : ℕ} (most : ℕ) → Onward s₀ s₁ from more → more ≤ most → Onward s₀ s₁ from most
onward_most most o h =
    record {
      grown = grown_most most o.grown h;
      halves = o.halves;
      bytes = o.bytes;
      halves_long = o.halves_long;
      bytes_long = o.bytes_long;
    }

pub line_stays : {s₀ s₁ : Arrays} {from more : ℕ} {table : Table} {t : ℕ} {text : List ℕ} {j i : ℕ} → Onward s₀ s₁ from more → i < from
    → LineKept s₀ table t text j i → LineKept s₁ table t text j i
line_stays {text = text} {j = j} {i = i} o h w =
    record {
      row = row_stays o _ i h w.row;
      start = subst (StartsAt text j) (sym (o.halves kept_start_column i h)) w.start;
      number = o.bytes kept_table_column i h ∙ w.number;
    }

-- the walk: the lines before place a are stored, and line j starts there
pub record Walk (s₀ s : Arrays) (table : Table) (t : ℕ) (text : List ℕ) (from j a : ℕ) : Type 0 where
  pub within : a ≤ length text
  pub few : j ≤ length (lines_of text)
  pub left : StartsAt text j a
  pub kept : TableKept s₀ s table t text from j

module _ (s₀ : Arrays) (table : Table) (t : ℕ) (text : List ℕ) (from : ℕ) where
  pub walk_start : Ready s₀ → Walk s₀ s₀ table t text from 0 0
  walk_start z =
      record {
        within = omega arith;
        few = omega arith;
        left = refl;
        kept = record { onward = onward_most (0 * asks table) (onward_self from z) (omega arith); line = λ j h. absurd (omega arith) };
      }

  module _ (s : Arrays) (j a : ℕ) (w : Walk s₀ s table t text from j a) (h : a < length text) where
    next : drop j (lines_of text) ≡ line_from text a ∷ lines_of (drop (next_line text a).next text)
    unfolding line_from next_line
    next =
        let n : a + line_length (drop a text) - a ≡ line_length (drop a text) = omega arith in
        sym w.left ∙ (rw n at (lines_next text a (next_line text a) refl h))

    pub walk_below : j < length (lines_of text)
    walk_below = at_below (lines_of text) j next

    module _ (kind : Table) (keys : RowKeys) (same : kind ≡ table) (is : keys ≡ row_keys_of kind (line_from text a)) where
      walk_keys : keys ≡ row_keys_of table (table_line text j)
      walk_keys = is ∙ rw (same, at_is (lines_of text) j no_line next)

      walk_asks : wanted keys ≤ asks table
      walk_asks = rw walk_keys (row_asks table (table_line text j))

      -- there is room for the line's keys
      pub walk_room : s₀.count + length (lines_of text) * asks table ≤ most_symbols → s.count + wanted keys ≤ most_symbols
      walk_room r =
          let q = asks table in
          let m : (j + 1) * q ≤ length (lines_of text) * q = mul-le-mul_right q (omega (arith, walk_below)) in
          omega (arith, w.kept.onward.grown.few, walk_asks, add-mul j 1 q)

      pub walk_more : (s' : Arrays) (b : ℕ) → b ≡ (next_line text a).next → RowKept s s' keys (from + j) a t → Walk s₀ s' table t text from (j + 1) b
      walk_more s' b z k =
          rw z
          (record {
            within = (next_bounds text a (next_line text a) refl h).within;
            few = omega (arith, walk_below);
            left = sym (rw (add-one j) (at_next (lines_of text) j next));
            kept = record {
              onward =
                  onward_most ((j + 1) * asks table) (onward_on w.kept.onward k.onward (omega arith))
                  (omega (arith, walk_asks, add-mul j 1 (asks table)));
              line = λ i l. line i l (ℕ_discrete i j);
            };
          })
        where
          line : (i : ℕ) → i < j + 1 → Dec (i ≡ j) → LineKept s' table t text i (from + i)
          line i l (yes z) =
              rw z
              (record {
                row = subst (λ (r : RowKeys). RowAt s' r (from + j)) walk_keys k.row;
                start = subst (StartsAt text j) (sym k.start) w.left;
                number = k.table;
              })
          line i l (no z) = line_stays k.onward (omega (arith, z)) (w.kept.line i (omega (arith, z)))

  module _ (s : Arrays) (j a : ℕ) (w : Walk s₀ s table t text from j a) (h : length text ≤ a) where
    walk_all : j ≡ length (lines_of text)
    walk_all =
        let e : drop j (lines_of text) ≡ [] = sym w.left ∙ lines_none text a h in
        omega (arith, w.few, length-drop j (lines_of text), ap length e)

    pub walk_rows : from + j ≡ from + length (lines_of text)
    walk_rows = ap (λ (m : ℕ). from + m) walk_all

    pub walk_end : TableKept s₀ s table t text from (length (lines_of text))
    walk_end = subst (TableKept s₀ s table t text from) walk_all w.kept
