-- Of rows that are kept and judged: the rows that a verdict points to are those that it speaks of.
use mathlib.Core.Path.{◌≡◌, refl, ap, sym, ◌∙◌}
use mathlib.Core.Bool.{Bool, ◌&&◌, or-false}
use mathlib.Core.List.{List, [], ◌∷◌, map}
use Prim.Native.Nat.{ℕ, ◌<◌}
use native.Mathlib.Omega.{arith}
use lib.ListN.{length, get_or}
use Rattle.laws.specs.Lists.{any}
use Rattle.laws.specs.Prefix.{all_from}
use Rattle.laws.proofs.Places.{keep_all, all_same}
use Rattle.symbols.specs.declared.Symbol.{Symbol}
use Rattle.symbols.specs.Arrays.{symbols}
use Rattle.verdicts.specs.Key.{Key}
use Rattle.verdicts.specs.Facts.{Count}
use Rattle.verdicts.specs.Entries.{Entry, facts}
use Rattle.verdicts.specs.Steps.{belongs, counts}
use Rattle.verdicts.specs.Verdicts.{sound, verdict}
use Rattle.keys.specs.Held.{count_of, keys_of}
use Rattle.keys.proofs.Fitting.{CountsFit}
use Rattle.meaning.specs.Kept.{key_id, Known, AllKnown, none, more, no_entry, kept_entry}
use Rattle.kept.specs.Stored.{key1_column, count_column}
use Rattle.judged.proofs.Held.{coding, Held, column_at_lem}
use Rattle.judged.proofs.KeptLaws.{own_kept}
use Rattle.causes.specs.Causes.{speaks_of, causes}
use Rattle.causes.proofs.SoundCells.{sound_cell}
use Rattle.key_rows.specs.KeyRows.{in_column, sound_by, counted_by}
use Rattle.named_rows.specs.NamedRows.{follower_by}
use Rattle.pointing.specs.Pointing.{points_to}
use Rattle.explain.proofs.HoldLaws.{row_kept, shares_are, belongs_by}
use Rattle.explain.proofs.NameLaws.{named_at, follows_are}

module _ (rows : List Entry) (words links : List ℕ) (count : ℕ) (halves bytes : List ℕ) (h : Held rows words links count halves bytes)
    (cells : List ℕ) (judged : (i : ℕ) → i < length rows → get_or cells i 0 ≡ verdict rows (kept_entry rows i)) where
  abbrev ls : List Symbol
  ls = symbols words count

  sound_are : (j : ℕ) → j < length rows → sound_by halves cells j ≡ sound rows (kept_entry rows j)
  unfolding sound_by
  sound_are j q = rw (own_kept rows words links count halves bytes h j q, judged j q) (sound_cell rows (kept_entry rows j))

  module _ (i j : ℕ) (p : i < length rows) (q : j < length rows) where
    abbrev e : Entry
    e = kept_entry rows i

    abbrev o : Entry
    o = kept_entry rows j

    column_is : in_column bytes count_column i ≡ (count_of (facts e).counts).column
    unfolding keys_of
    column_is = column_at_lem bytes count_column i (omega (arith, h.stored.few)) ∙ (h.stored.row i p).column

    first_known : (k : Key) (ks : List Key) → (facts e).keys ≡ k ∷ ks → AllKnown coding ls (facts e).keys → Known coding ls k
    first_known k ks f a = go (k ∷ ks) (rw f at a) refl
      where
        go : (ms : List Key) → AllKnown coding ls ms → ms ≡ k ∷ ks → Known coding ls k
        go [] none z = absurd (let c : ◌≡◌ {A = ℕ} 0 1 = cc in omega arith)
        go (m ∷ ms) (more w a) z = let c : m ≡ k = cc in rw (← c) w

    key_is : (k : Key) (ks : List Key) → (facts e).keys ≡ k ∷ ks → in_column halves key1_column i ≡ key_id coding ls k
    key_is k ks f = (row_kept rows words links count halves bytes h i p).key1 ∙ rw f

    -- reason 10
    count_by : (cs : List Count) (ks : List Key) → (facts e).counts ≡ cs → (facts e).keys ≡ ks → CountsFit cs ks
        → counted_by halves bytes cells i j ≡ (any (λ c. belongs o c.group) cs && sound rows o)
    unfolding counted_by count_of
    count_by [] ks c k f = rw (column_is, c)
    count_by (d ∷ []) [] c k f = absurd f
    count_by (d ∷ []) (key ∷ ks) c k f =
        let w = first_known key ks k (row_kept rows words links count halves bytes h i p).known in
        rw (
          column_is,
          c,
          f.1,
          key_is key ks k,
          belongs_by rows words links count halves bytes h j q key w,
          sound_are j q,
          f.0,
        )
        (ap (λ (t : Bool). t && sound rows o) (sym (or-false (belongs o key))))
    count_by (d ∷ d' ∷ cs) ks c k f = absurd f

    counted_are : counted_by halves bytes cells i j ≡ (counts e o && sound rows o)
    unfolding counts
    counted_are = count_by (facts e).counts (facts e).keys refl refl (h.fits i p).counts

    -- THE LAW OF POINTING
    pub points_are : points_to halves bytes cells i j ≡ speaks_of rows (verdict rows e) e o
    unfolding points_to speaks_of follower_by
    points_are =
        rw (
          judged i p,
          shares_are rows words links count halves bytes h j q i p,
          counted_are,
          named_at rows words links count halves bytes h i j p q,
          follows_are rows words links count halves bytes h i j p q,
          sound_are j q,
        )

  -- told one after the other, they are the causes
  pub causes_are : (i : ℕ) → i < length rows → map (kept_entry rows) (all_from (points_to halves bytes cells i) 0 (length rows)) ≡ causes rows (kept_entry rows i)
  unfolding causes
  causes_are i p =
      let e = kept_entry rows i in
      ap (map (kept_entry rows))
      (all_same (points_to halves bytes cells i) (λ j. speaks_of rows (verdict rows e) e (kept_entry rows j)) 0 (length rows)
      (λ j a b. points_are i j p (omega arith)))
      ∙ sym (keep_all no_entry (speaks_of rows (verdict rows e) e) rows)
