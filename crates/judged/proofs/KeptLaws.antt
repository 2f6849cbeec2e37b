-- The ids that are kept of a row are those of its keys and of its group.
use mathlib.Core.Path.{◌≡◌, refl, ◌∙◌}
use mathlib.Core.Bool.{true}
use mathlib.Core.List.{List, [], ◌∷◌}
use Prim.Native.Nat.{ℕ, ◌<◌}
use native.Mathlib.Omega.{arith}
use lib.Dec.{eqb}
use lib.ListN.{length, get_or, drop}
use Rattle.std.specs.Prelude.{is_some}
use Rattle.laws.specs.Prefix.{flag}
use Rattle.arrays.specs.Room.{most_places}
use Rattle.symbols.specs.declared.Symbol.{Symbol}
use Rattle.symbols.specs.Symbols.{no_id, id_of}
use Rattle.symbols.specs.Arrays.{symbols}
use Rattle.verdicts.specs.Key.{Key}
use Rattle.verdicts.specs.Entries.{Entry, own, facts}
use Rattle.row_keys.specs.Parts.{key_in}
use Rattle.keys.specs.Held.{slot_of, keys_of}
use Rattle.keys.proofs.Fitting.{KeysFit, GroupsFit}
use Rattle.meaning.specs.Kept.{first_id, AllKnown, none, more, kept_entry, KeptRow, Kept}
use Rattle.kept.specs.Stored.{own_column, key1_column, key2_column, group_column, slot_id}
use Rattle.judged.specs.Passes.{column_of}
use Rattle.judged.proofs.Held.{coding, Held, column_at_lem}

module _ (ls : List Symbol) where
  pub slot_first : (ks : List Key) → slot_id ls (slot_of ks) ≡ first_id coding ls ks
  unfolding slot_id slot_of
  slot_first [] = refl
  slot_first (k ∷ ks) = refl

  -- at most two keys, each with an id
  keys_known : (ks : List Key) → KeysFit ks → (is_some (slot_of ks) ≡ true → id_of (key_in (slot_of ks)) ls < no_id)
      → (is_some (slot_of (drop 1 ks)) ≡ true → id_of (key_in (slot_of (drop 1 ks))) ls < no_id) → AllKnown coding ls ks
  unfolding slot_of
  keys_known [] f a b = none
  keys_known (k ∷ []) f a b = more (record { fits = f; numbered = a refl }) none
  keys_known (k ∷ l ∷ []) f a b = more (record { fits = f.0; numbered = a refl }) (more (record { fits = f.1; numbered = b refl }) none)
  keys_known (k ∷ l ∷ m ∷ ms) f a b = absurd f

  groups_known : (gs : List Key) → GroupsFit gs → (is_some (slot_of gs) ≡ true → id_of (key_in (slot_of gs)) ls < no_id) → AllKnown coding ls gs
  unfolding slot_of
  groups_known [] f a = none
  groups_known (g ∷ []) f a = more (record { fits = f; numbered = a refl }) none
  groups_known (g ∷ h ∷ hs) f a = absurd f

module _ (rows : List Entry) (words links : List ℕ) (count : ℕ) (halves bytes : List ℕ) (h : Held rows words links count halves bytes) where
  abbrev ls : List Symbol
  ls = symbols words count

  -- the verdict of reasons 1 to 8
  pub own_kept : (i : ℕ) → i < length rows → get_or (column_of halves own_column) i 0 ≡ own (kept_entry rows i).reading
  unfolding keys_of
  own_kept i p = column_at_lem halves own_column i (omega (arith, h.stored.few)) ∙ (h.stored.row i p).own

  abbrev Formed : List ℕ → Type 0
  Formed formed = (i : ℕ) → i < length rows → get_or formed i 0 ≡ flag (eqb (own (kept_entry rows i).reading) 0)

  kept_row : (formed : List ℕ) → Formed formed → (i : ℕ) → i < length rows
      → KeptRow coding ls (kept_entry rows i) (get_or formed i 0)
      (get_or (column_of halves key1_column) i 0) (get_or (column_of halves key2_column) i 0) (get_or (column_of halves group_column) i 0)
  unfolding keys_of
  kept_row formed are i p =
      let s = h.stored.row i p in
      let k = h.stored.known i p in
      let f = h.fits i p in
      let q : i < most_places = omega (arith, h.stored.few) in
      record {
        formed = are i p;
        key1 = column_at_lem halves key1_column i q ∙ s.key1 ∙ slot_first ls (facts (kept_entry rows i)).keys;
        key2 = column_at_lem halves key2_column i q ∙ s.key2 ∙ slot_first ls (drop 1 (facts (kept_entry rows i)).keys);
        group = column_at_lem halves group_column i q ∙ s.group ∙ slot_first ls (facts (kept_entry rows i)).groups;
        known = keys_known ls (facts (kept_entry rows i)).keys f.keys k.first k.second;
        grouped = groups_known ls (facts (kept_entry rows i)).groups f.groups k.group;
      }

  pub kept : (formed : List ℕ) → Formed formed
      → Kept coding ls rows formed (column_of halves key1_column) (column_of halves key2_column) (column_of halves group_column)
  kept formed are = record { tables = h.tables; row = kept_row formed are }
