-- Tables that are kept, judged and indexed are loaded.
use mathlib.Core.Path.{◌≡◌, ap, ◌∙◌}
use mathlib.Core.Bool.{Bool, true, false, ◌&&◌}
use mathlib.Core.List.{List}
use Prim.Native.Nat.{ℕ, ◌+◌, ◌≤◌, min}
use native.Mathlib.Omega.{arith}
use lib.Dec.{eqb, leb}
use lib.ListN.{length, get_or, replicate, length-replicate}
use borrow.Author.Tests.{leb-true, le-leb}
use Rattle.std.specs.Prelude.{Result, Err}
use Rattle.laws.specs.Prefix.{flag}
use Rattle.laws.proofs.Cases.{and_left, and_right}
use Rattle.laws.proofs.Values.{written_at}
use Rattle.arrays.specs.Room.{most_places}
use Rattle.symbols.specs.Arrays.{all_words, all_links}
use Rattle.kept.specs.Stored as kept
use Rattle.kept.specs.FirstPass.{Arrays, arrays}
use Rattle.kept.specs.Keeping.{has_places, KeepsRows, Keeps}
use Rattle.kept.specs.declared.KeptCounts.{KeptCounts}
use Rattle.kept.specs.declared.KeepError.{KeepError}
use Rattle.kept.specs.declared.KeepError.TheVariants.{Sizes, NoRoom}
use Rattle.kept.proofs.AnswerLaws.{kept_refused, kept_short}
use Rattle.kept.specs.Puts.{all_halves, all_bytes}
use Rattle.judged.specs.Passes.{column_of}
use Rattle.judged.proofs.Held.{column_at_lem}
use Rattle.judged.proofs.TableLaws.{cells_judged}
use Rattle.index_columns.specs.Columns.{index_columns}
use Rattle.index_columns.proofs.ColumnLaws.{holder_at, first_at, next_at, number_at, table_at, start_at}
use Rattle.indexing.specs.Indexing.{good_marks, IndexedBy}
use Rattle.database.specs.Arrays.{all_columns, start_column, database, answers}
use Rattle.database.specs.GoodRows.{of_tables}
use Rattle.loading.specs.Index.{Indexed}
use Rattle.loading.specs.Loaded.{lent, all_lent, IndexMade, Loads}
use Rattle.loading.proofs.NumberLaws.{number_is}
use Rattle.loading.proofs.IndexLaws.{cells_hold, indexed_answers}

module _ (texts : List (List ℕ)) (s₀ s : Arrays) (rows count : ℕ) (k : KeepsRows texts s₀ s rows count) where
  few : rows ≤ most_places
  few = omega (arith, k.count, k.stored.few)

  room : all_columns ≤ length s.halves
  room =
      let words : Bool = leb all_words (length s₀.words) in
      let links : Bool = leb all_links (length s₀.links) in
      let halves : Bool = leb all_halves (length s₀.halves) in
      let bytes : Bool = leb all_bytes (length s₀.bytes) in
      let t : halves ≡ true = and_left halves bytes (and_right links (halves && bytes) (and_right words (links && (halves && bytes)) k.room)) in
      omega (arith, leb-true all_halves (length s₀.halves) t, k.sizes.halves)

  module _ (cells columns : List ℕ) (x : IndexedBy s.halves s.bytes cells columns rows) where
    abbrev tables : List ℕ
    tables = column_of s.bytes kept.kept_table_column

    put_at : (j : ℕ) → get_or columns j 0 ≡ get_or (index_columns s.halves tables x.holders x.firsts x.nexts rows) j 0
    put_at j = ap (λ (xs : List ℕ). get_or xs j 0) x.put

    indexed : Indexed texts s.halves s.bytes cells columns rows
    indexed =
        let most : min rows 65535 ≡ rows = omega (arith, few) in
        let wide : rows ≤ length (replicate {A = ℕ} most_places 0) = omega (arith, few, length-replicate {A = ℕ} most_places 0) in
        record {
          marks = good_marks cells rows;
          once = x.held.once;
          holders = x.holders;
          firsts = x.firsts;
          nexts = x.nexts;
          marked = λ i p. written_at (λ i. flag (eqb (get_or cells i 0) 0)) (replicate most_places 0) rows wide i p;
          first_keys = rw most at x.held.first;
          second_keys = rw most at x.held.second;
          groups = x.groups;
          holder = λ id p. put_at _ ∙ holder_at s.halves tables x.holders x.firsts x.nexts rows few room id p;
          first = λ id p. put_at _ ∙ first_at s.halves tables x.holders x.firsts x.nexts rows few room id p;
          next = λ i p. put_at _ ∙ next_at s.halves tables x.holders x.firsts x.nexts rows few room i p;
          number = λ i p. put_at _
              ∙ number_at s.halves tables x.holders x.firsts x.nexts rows few room i p
              ∙ number_is texts s.halves s.bytes rows few k.situated i p;
          table = λ i p. put_at _
              ∙ table_at s.halves tables x.holders x.firsts x.nexts rows few room i p
              ∙ column_at_lem s.bytes kept.kept_table_column i (omega (arith, few));
          start = λ i p. put_at _
              ∙ start_at s.halves tables x.holders x.firsts x.nexts rows few room (start_column + i) (omega arith);
        }

  pub load_answers : (columns : List ℕ) → IndexMade s.halves s.bytes columns rows
      → answers (database texts s.words s.links columns) ≡ of_tables texts
  load_answers columns m =
      let most : min rows most_places ≡ rows = omega (arith, few) in
      let cells = cells_judged texts s₀ s rows count k (replicate most_places 0) m.cells m.judged in
      indexed_answers texts s₀ s rows count m.cells columns k
      (rw k.count (cells_hold texts (replicate most_places 0) m.cells (omega (arith, few, k.count, length-replicate {A = ℕ} most_places 0)) cells))
      (indexed m.cells columns (rw most at m.indexed))

-- the array of bytes is loading's own
pub no_room : (words links columns : List ℕ) → has_places (arrays words links 0 columns (replicate all_bytes 0)) ≡ false
    → all_lent (lent words links columns) ≡ false
no_room words links columns e =
    let h : all_bytes ≤ length (replicate {A = ℕ} all_bytes 0) = omega (arith, length-replicate {A = ℕ} all_bytes 0) in
    let t : leb all_bytes (length (replicate {A = ℕ} all_bytes 0)) ≡ true = le-leb all_bytes (length (replicate {A = ℕ} all_bytes 0)) h in
    go (leb all_words (length words)) (leb all_links (length links)) (leb all_halves (length columns)) (rw t at e)
  where
    go : (a b c : Bool) → (a && (b && (c && true))) ≡ false → (a && (b && c)) ≡ false
    go true true true e = e
    go true true false e = e
    go true false c e = e
    go false b c e = e

-- what is lent of the arrays that rows are kept in
pub same_lent : (s₀ s : Arrays) → s ≡ s₀ → lent s.words s.links s.halves ≡ lent s₀.words s₀.links s₀.halves
same_lent s₀ s e = ap (λ (x : Arrays). lent x.words x.links x.halves) e

-- what keeping the rows refuses
pub load_refused : (texts : List (List ℕ)) (words links columns : List ℕ) (s : Arrays) {r : Result KeptCounts KeepError} {error : KeepError}
    → Keeps texts (arrays words links 0 columns (replicate all_bytes 0)) s r → r ≡ Err error
    → Loads texts (lent words links columns) (lent s.words s.links s.halves) (Err error)
unfolding Loads
load_refused texts words links columns s {error = Sizes error} k e = let z = kept_refused _ _ _ _ k error e in (z.0, same_lent _ _ z.1)
load_refused texts words links columns s {error = NoRoom} k e =
    let z = kept_short _ _ _ _ k e in
    (z.0, no_room words links columns z.1, same_lent _ _ z.2)
