-- Laws of the lines that set something, one for each case.
use mathlib.Core.Path.{◌≡◌, sym, ap, ◌∙◌}
use mathlib.Core.Bool.{Bool, true, false}
use mathlib.Core.List.{List, [], ◌∷◌, ◌++◌}
use mathlib.Core.Option.{Option, some, none}
use Prim.Native.Nat.{ℕ, ◌<◌, ◌≤◌}
use native.Mathlib.Omega.{arith}
use lib.Dec.{eqb, ltb}
use lib.ListN.{length, get_or}
use borrow.Author.Tests.{eq-eqb, ne_eqb, lt-ltb, le-ltb}
use Rattle.laws.proofs.Cases.{bool_cases}
use Rattle.lines.specs.Columns.{columns_of, column_at}
use Rattle.limit_state.specs.declared.state.LimitState.{LimitState}
use Rattle.std.specs.Prelude as rust
use Rattle.escapes.specs.Escapes.{byte_of, where_room, row_bytes, hex_bytes, unescaped}
use Rattle.scripts.specs.Words.{setting_of}
use Rattle.scripts.specs.Numerals.{natural_in, at_most}
use Rattle.areas.specs.Memory.{Memory, KeptMemory, added, cleared, all_cleared, packet_area, area_count}
use Rattle.areas.specs.Memory.{unread}
use Rattle.settings.specs.declared.SetLine.{SetLine}
use Rattle.settings.specs.Settings.{setting_bytes, byte_in, run_bytes, add_run, add_fill, clear_named, packet_more, filling, clearing}
use Rattle.settings.specs.Settings.{set_area, state_setting, state_text, settled, state_set, memory_set, set_text, set_bytes, set_line}

-- the bytes of a line, as they are read into a buffer of this length
module _ (room k : ℕ) (raw : List ℕ) {o : Option (List ℕ)} where
  pub bytes_row : o ≡ where_room room (raw ++ 10 ∷ []) (row_bytes raw) → room ≡ 65537 → k < packet_area → o ≡ setting_bytes k raw
  unfolding setting_bytes
  bytes_row p e h = rw (lt-ltb k packet_area h) (rw e at p)

  pub bytes_digits : o ≡ where_room room raw (hex_bytes raw) → room ≡ 65537 → packet_area ≤ k → k < filling → o ≡ setting_bytes k raw
  unfolding setting_bytes
  bytes_digits p e h l = rw (le-ltb k packet_area h, lt-ltb k filling l) (rw e at p)

  pub bytes_text : o ≡ where_room room raw (unescaped raw) → room ≡ 65537 → filling ≤ k → o ≡ setting_bytes k raw
  unfolding setting_bytes
  bytes_text p e h = let l : packet_area ≤ k = omega arith in rw (le-ltb k packet_area l, le-ltb k filling h) (rw e at p)

pub byte_two : (text : List ℕ) → length text ≡ 2 → byte_of (get_or text 0 0) (get_or text 1 0) ≡ byte_in text
unfolding byte_in
byte_two text h = rw (eq-eqb (length text) 2 h)

pub byte_other : (text : List ℕ) → (length text ≡ 2 → ⊥) → 256 ≡ byte_in text
unfolding byte_in
byte_other text h = rw (ne_eqb (length text) 2 h)

module _ (m : Memory) (text : List ℕ) (n : ℕ) (e : n ≡ length (columns_of text)) where
  pub fill_count : (n ≡ 3 → ⊥) → unread m ≡ add_fill m text
  unfolding add_fill
  fill_count h = rw (ne_eqb (length (columns_of text)) 3 (λ p. h (e ∙ p)))

  pub fill_byte : n ≡ 3 → 255 < byte_in (column_at (columns_of text) 2) → unread m ≡ add_fill m text
  unfolding add_fill
  fill_byte h l = rw (eq-eqb (length (columns_of text)) 3 (sym e ∙ h), lt-ltb 255 (byte_in (column_at (columns_of text) 2)) l)

  pub fill_run : n ≡ 3 → byte_in (column_at (columns_of text) 2) ≤ 255
      → add_run m (setting_of (column_at (columns_of text) 0)) (byte_in (column_at (columns_of text) 2))
      (at_most 65537 (natural_in (column_at (columns_of text) 1))) ≡ add_fill m text
  unfolding add_fill
  fill_run h l = rw (eq-eqb (length (columns_of text)) 3 (sym e ∙ h), le-ltb 255 (byte_in (column_at (columns_of text) 2)) l)

pub run_is : (m : Memory) (t byte count : ℕ) (o : rust.Option ℕ) → o ≡ rust.Some count → added m t (run_bytes byte count) ≡ add_run m t byte o
unfolding add_run
run_is m t byte count o e = rw e

pub run_unread : (m : Memory) (t byte : ℕ) (o : rust.Option ℕ) → o ≡ rust.None → unread m ≡ add_run m t byte o
unfolding add_run
run_unread m t byte o e = rw e

module _ (m : Memory) (name : List ℕ) where
  pub clear_every : length name ≡ 0 → record { readable = true; space = m.space; ends = all_cleared m.ends } ≡ clear_named m name
  unfolding clear_named
  clear_every h = rw (eq-eqb (length name) 0 h)

  pub clear_one : (length name ≡ 0 → ⊥) → setting_of name < area_count
      → record { readable = true; space = m.space; ends = cleared m.ends (setting_of name) } ≡ clear_named m name
  unfolding clear_named
  clear_one h l = rw (ne_eqb (length name) 0 h, lt-ltb (setting_of name) area_count l)

  pub clear_none : (length name ≡ 0 → ⊥) → area_count ≤ setting_of name → unread m ≡ clear_named m name
  unfolding clear_named
  clear_none h l = rw (ne_eqb (length name) 0 h, le-ltb (setting_of name) area_count l)

module _ (k : ℕ) (m : Memory) (bytes : List ℕ) where
  pub area_packet : k ≡ packet_area
      → added (record { space = m.space; ends = cleared m.ends packet_area }) packet_area bytes ≡ set_area k m bytes
  unfolding set_area
  area_packet e = rw e

  pub area_more : k ≡ packet_more → added m packet_area bytes ≡ set_area k m bytes
  unfolding set_area
  area_more e = rw e

  pub area_fill : k ≡ filling → add_fill m bytes ≡ set_area k m bytes
  unfolding set_area
  area_fill e = rw e

  pub area_row : (k ≡ packet_area → ⊥) → (k ≡ packet_more → ⊥) → (k ≡ filling → ⊥) → added m k bytes ≡ set_area k m bytes
  unfolding set_area
  area_row a b c = rw (ne_eqb k packet_area a, ne_eqb k packet_more b, ne_eqb k filling c)

module _ (k : ℕ) (m : Memory) (s : LimitState) where
  pub text_state : (text : List ℕ) {l : SetLine} → k ≡ state_setting → l ≡ state_text s text → state_set m l ≡ set_text k m s text
  unfolding set_text
  text_state text e p = rw (eq-eqb k state_setting e, p)

  pub text_memory : (text : List ℕ) {n : KeptMemory} → (k ≡ state_setting → ⊥) → n ≡ set_area k m text → memory_set s n ≡ set_text k m s text
  unfolding set_text
  text_memory text e p = rw (ne_eqb k state_setting e, p)

  pub bytes_some : (o : Option (List ℕ)) (w : List ℕ) → o ≡ some w → set_text k m s w ≡ set_bytes k m s o
  unfolding set_bytes
  bytes_some o w e = rw e

  pub bytes_none : (o : Option (List ℕ)) → o ≡ none → settled false m.space m.ends s ≡ set_bytes k m s o
  unfolding set_bytes
  bytes_none o e = rw e

  pub line_clear : (raw : List ℕ) {n : KeptMemory} → k ≡ clearing → n ≡ clear_named m raw → memory_set s n ≡ set_line k m s raw
  unfolding set_line
  line_clear raw e p = rw (eq-eqb k clearing e, p)

  pub line_read : (raw : List ℕ) → (k ≡ clearing → ⊥) → set_bytes k m s (setting_bytes k raw) ≡ set_line k m s raw
  unfolding set_line
  line_read raw e = rw (ne_eqb k clearing e)

-- clearing leaves the space as it is
pub clear_any : (space ends ends' name : List ℕ) (r : Bool)
    → record { readable = r; space = []; ends = ends' } ≡ clear_named (record { space = []; ends = ends }) name
    → record { readable = r; space = space; ends = ends' } ≡ clear_named (record { space = space; ends = ends }) name
unfolding clear_named unread
clear_any space ends ends' name r e =
    ap (λ (k : KeptMemory). record { readable = k.readable; space = space; ends = k.ends }) e
    ∙ bool_cases (eqb (length name) 0) (λ t. rw t) (λ t. bool_cases (ltb (setting_of name) area_count) (λ u. rw (t, u)) (λ u. rw (t, u)))
