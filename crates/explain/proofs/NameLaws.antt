-- Of rows that are kept: a row names another just where it has the id of a key that the other holds.
use mathlib.Core.Path.{◌≡◌, refl, ap, ap₂, sym, ◌∙◌}
use mathlib.Core.Bool.{Bool, true, false, ◌&&◌, ◌||◌, and-false, or-false}
use mathlib.Core.List.{List, [], ◌∷◌}
use Prim.Native.Nat.{ℕ, ◌<◌}
use native.Mathlib.Omega.{arith}
use lib.Dec.{eqb}
use lib.ListN.{length, drop}
use borrow.Author.Tests.{eqb-false}
use Rattle.laws.specs.Lists.{any}
use Rattle.laws.proofs.Tests.{any_same}
use Rattle.symbols.specs.declared.Symbol.{Symbol}
use Rattle.symbols.specs.Symbols.{no_id, id_of}
use Rattle.symbols.specs.Arrays.{symbols}
use Rattle.verdicts.specs.Key.{Key}
use Rattle.verdicts.specs.Facts.{Naming}
use Rattle.verdicts.specs.Entries.{Entry, facts}
use Rattle.verdicts.specs.Steps.{holds, names_at}
use Rattle.verdicts.specs.Verdicts.{follows}
use Rattle.key_symbols.specs.Keyed.{symbol_of}
use Rattle.manners.specs.Manners.{Manner, manner_of, manner_at}
use Rattle.keys.specs.Held.{named_of, keys_of}
use Rattle.keys.proofs.Fitting.{Listed, NamesFit}
use Rattle.meaning.specs.Kept.{Known, kept_entry}
use Rattle.arrays.specs.Room.{most_places}
use Rattle.kept.specs.Stored.{name1_column, name2_column, code1_column, code2_column, named_id}
use Rattle.judged.proofs.Held.{coding, Held, column_at_lem}
use Rattle.key_rows.specs.KeyRows.{in_column, has_key}
use Rattle.named_rows.specs.NamedRows.{named_by, named_at_by}
use Rattle.explain.proofs.HoldLaws.{holds_by, nothing_held}

-- the first of some namings passes a test, and its key is held
abbrev first_named : (Manner → Bool) → Entry → List Naming → Bool
first_named f o [] = false
first_named f o (n ∷ ns) = f (manner_of n) && holds o n.key

named_either : (f : Manner → Bool) (o : Entry) (ks : List Key) (ns : List Naming) → NamesFit ks ns
    → any (λ n. f (manner_of n) && holds o n.key) ns ≡ (first_named f o ns || first_named f o (drop 1 ns))
named_either f o ks [] l = refl
named_either f o ks (n ∷ []) l = refl
named_either f o ks (n ∷ m ∷ []) l = ap (λ (t : Bool). f (manner_of n) && holds o n.key || t) (or-false (f (manner_of m) && holds o m.key))
named_either f o ks (n ∷ m ∷ q ∷ qs) l = absurd l

-- the first of them is listed
abbrev FirstListed : List Key → List Naming → Type 0
FirstListed ks [] = Unit {0}
FirstListed ks (n ∷ ns) = Listed ks n

first_listed : (ks : List Key) (ns : List Naming) → NamesFit ks ns → FirstListed ks ns × FirstListed ks (drop 1 ns)
first_listed ks [] l = (tt, tt)
first_listed ks (n ∷ []) l = (l, tt)
first_listed ks (n ∷ m ∷ []) l = (l.0, l.1)
first_listed ks (n ∷ m ∷ q ∷ qs) l = absurd l

module _ (rows : List Entry) (words links : List ℕ) (count : ℕ) (halves bytes : List ℕ) (h : Held rows words links count halves bytes) where
  abbrev ls : List Symbol
  ls = symbols words count

  module _ (f : Manner → Bool) (j : ℕ) (q : j < length rows) where
    -- by the code and the id that are kept of the first of some namings
    slot_by : (ks : List Key) (ns : List Naming) → FirstListed ks ns → (((named_of ns).code ≡ 0 → ⊥) → id_of (named_of ns).key ls < no_id)
        → (code name : ℕ) → code ≡ (named_of ns).code → name ≡ named_id ls (named_of ns)
        → (f (manner_at code) && has_key halves name j) ≡ first_named f (kept_entry rows j) ns
    unfolding named_of named_id
    slot_by ks [] l w code name c e = rw (e, nothing_held rows words links count halves bytes h j q) (and-false (f (manner_at code)))
    slot_by ks (n ∷ ns) l w code name c e =
        let d : manner_at code ≡ manner_of n = ap manner_at c ∙ l.decoded in
        let i : name ≡ id_of (symbol_of n.key) ls = e ∙ rw l.coded in
        let k : Known coding ls n.key = record { fits = l.bounded; numbered = w (eqb-false _ _ l.coded) } in
        rw (d, i, holds_by rows words links count halves bytes h j q n.key k)

  module _ (i j : ℕ) (p : i < length rows) (q : j < length rows) where
    abbrev e : Entry
    e = kept_entry rows i

    abbrev o : Entry
    o = kept_entry rows j

    inside : i < most_places
    inside = omega (arith, h.stored.few)

    -- a test of manners, and a key that is held
    by_manner : (f : Manner → Bool)
        → named_by halves i (f (manner_at (in_column bytes code1_column i))) (f (manner_at (in_column bytes code2_column i))) j
        ≡ any (λ n. f (manner_of n) && holds o n.key) (facts e).names
    unfolding named_by keys_of
    by_manner f =
        let s = h.stored.row i p in
        let w = h.stored.known i p in
        let l = first_listed (facts e).keys (facts e).names (h.fits i p).names in
        ap₂ ◌||◌
        (slot_by f j q (facts e).keys (facts e).names l.0 w.one _ _
        (column_at_lem bytes code1_column i inside ∙ s.code1) (column_at_lem halves name1_column i inside ∙ s.name1))
        (slot_by f j q (facts e).keys (drop 1 (facts e).names) l.1 w.two _ _
        (column_at_lem bytes code2_column i inside ∙ s.code2) (column_at_lem halves name2_column i inside ∙ s.name2))
        ∙ sym (named_either f o (facts e).keys (facts e).names (h.fits i p).names)

    -- reason 11
    pub named_at : (column : ℕ) → named_at_by halves bytes column i j ≡ names_at column e o
    unfolding named_at_by names_at
    named_at column = by_manner (λ m. eqb m.column column)

    -- the VALID chain
    swap : (a b : Bool) → (a && b) ≡ (b && a)
    swap true true = refl
    swap true false = refl
    swap false true = refl
    swap false false = refl

    pub follows_are : named_by halves i (manner_at (in_column bytes code1_column i)).chained (manner_at (in_column bytes code2_column i)).chained j ≡ follows e o
    unfolding follows
    follows_are =
        by_manner (λ m. m.chained)
        ∙ any_same (λ n. n.chained && holds o n.key) (λ n. holds o n.key && n.chained) (facts e).names
        (λ n m. swap n.chained (holds o n.key))
