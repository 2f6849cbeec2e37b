-- Of rows that are kept: a row holds a key just where its columns have the key's id.
use mathlib.Core.Path.{◌≡◌, refl, ap, ap₂, sym, ◌∙◌}
use mathlib.Core.Bool.{Bool, false, not, ◌&&◌, ◌||◌, or-false}
use mathlib.Core.List.{List, [], ◌∷◌, map}
use Prim.Native.Nat.{ℕ, ◌<◌}
use native.Mathlib.Omega.{arith}
use lib.Dec.{eqb}
use lib.ListN.{length, get_or, drop}
use borrow.Author.Tests.{ne_eqb}
use Rattle.laws.specs.Lists.{any}
use Rattle.laws.specs.Prefix.{flag}
use Rattle.laws.proofs.Lists.{map_at}
use Rattle.symbols.specs.declared.Symbol.{Symbol}
use Rattle.symbols.specs.Symbols.{no_id}
use Rattle.symbols.specs.Arrays.{symbols}
use Rattle.verdicts.specs.Key.{Key, same_key}
use Rattle.verdicts.specs.Entries.{Entry, own, facts}
use Rattle.verdicts.specs.Steps.{holds, belongs, rivals}
use Rattle.meaning.specs.Kept.{key_id, Known, first_id, AllKnown, none, more, AtMostTwo, zero_keys, one_key, two_keys, no_entry, kept_entry, KeptRow}
use Rattle.meaning.proofs.KeyLaws.{first_is, id_first, belongs_id}
use Rattle.kept.specs.Stored.{key1_column, key2_column, group_column}
use Rattle.judged.specs.Passes.{column_of}
use Rattle.judged.proofs.Held.{coding, Held}
use Rattle.judged.proofs.KeptLaws.{kept}
use Rattle.key_rows.specs.KeyRows.{in_column, has_key, shares_by}

-- one of at most two keys
one_of_two : (k : Key) (ks : List Key) → AtMostTwo ks → any (same_key k) ks ≡ (first_is k ks || first_is k (drop 1 ks))
one_of_two k [] zero_keys = refl
one_of_two k (l ∷ []) one_key = refl
one_of_two k (l ∷ (m ∷ (_ ∷ _))) x7 = elim x7 [ ]
one_of_two k (l ∷ m ∷ []) (two_keys z) = ap (λ (t : Bool). same_key k l || t) (or-false (same_key k m))

-- a row holds the first of some keys
abbrev pub first_held : Entry → List Key → Bool
first_held o [] = false
first_held o (k ∷ ks) = holds o k

first_or_second : (o : Entry) (ks : List Key) → AtMostTwo ks → any (holds o) ks ≡ (first_held o ks || first_held o (drop 1 ks))
first_or_second o [] zero_keys = refl
first_or_second o (k ∷ []) one_key = refl
first_or_second o (k ∷ (l ∷ (_ ∷ _))) x7 = elim x7 [ ]
first_or_second o (k ∷ l ∷ []) (two_keys z) = ap (λ (t : Bool). holds o k || t) (or-false (holds o l))

module _ (rows : List Entry) (words links : List ℕ) (count : ℕ) (halves bytes : List ℕ) (h : Held rows words links count halves bytes) where
  abbrev ls : List Symbol
  ls = symbols words count

  abbrev keys_of : ℕ → List Key
  keys_of i = (facts (kept_entry rows i)).keys

  abbrev mark : Entry → ℕ
  mark e = flag (eqb (own e.reading) 0)

  abbrev marks : List ℕ
  marks = map mark rows

  pub row_kept : (i : ℕ) → i < length rows
      → KeptRow coding ls (kept_entry rows i) (get_or marks i 0) (in_column halves key1_column i) (in_column halves key2_column i) (in_column halves group_column i)
  row_kept i p = (kept rows words links count halves bytes h marks (λ j q. map_at mark rows j no_entry 0 q)).row i p

  rest_known : (ks : List Key) → AllKnown coding ls ks → AllKnown coding ls (drop 1 ks)
  rest_known [] none = none
  rest_known (k ∷ ks) (more w a) = a

  module _ (j : ℕ) (q : j < length rows) where
    -- by the id of a key that has one
    pub holds_by : (k : Key) → Known coding ls k → has_key halves (key_id coding ls k) j ≡ holds (kept_entry rows j) k
    unfolding has_key holds
    holds_by k w =
        let r = row_kept j q in
        rw (
          ne_eqb (key_id coding ls k) no_id (λ z. omega (arith, w.numbered)),
          id_first coding ls k w (keys_of j) r.known (in_column halves key1_column j) r.key1,
          id_first coding ls k w (drop 1 (keys_of j)) (rest_known (keys_of j) r.known) (in_column halves key2_column j) r.key2,
        )
        (sym (one_of_two k (keys_of j) (h.tables.apart j q)))

    -- no row holds what has no id
    pub nothing_held : has_key halves no_id j ≡ false
    unfolding has_key
    nothing_held = refl

    pub first_by : (ks : List Key) → AllKnown coding ls ks → (x : ℕ) → x ≡ first_id coding ls ks → has_key halves x j ≡ first_held (kept_entry rows j) ks
    first_by [] none x e = rw e nothing_held
    first_by (k ∷ ks) (more w a) x e = rw e (holds_by k w)

    -- reason 9
    pub shares_are : (i : ℕ) → i < length rows → shares_by halves i j ≡ rivals (kept_entry rows i) (kept_entry rows j)
    unfolding shares_by rivals
    shares_are i p =
        let r = row_kept i p in
        ap₂ ◌&&◌ (ap not (sym (h.tables.places i j p q)))
        (ap₂ ◌||◌ (first_by (keys_of i) r.known _ r.key1) (first_by (drop 1 (keys_of i)) (rest_known (keys_of i) r.known) _ r.key2)
        ∙ sym (first_or_second (kept_entry rows j) (keys_of i) (h.tables.apart i p)))

    -- and belongs to a group
    pub belongs_by : (k : Key) → Known coding ls k → eqb (in_column halves group_column j) (key_id coding ls k) ≡ belongs (kept_entry rows j) k
    belongs_by k w =
        sym (belongs_id coding ls k w marks (column_of halves key1_column) (column_of halves key2_column) (column_of halves group_column)
        j (kept_entry rows j) (row_kept j q) (h.tables.single j q))
