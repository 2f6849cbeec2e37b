-- The answer by the columns is the answer of the tables.
use mathlib.Core.Path.{◌≡◌, ap, ap₂, sym, ◌∙◌}
use mathlib.Core.Bool.{true, false}
use mathlib.Core.List.{List, map}
use Prim.Native.Nat.{ℕ, ◌-◌, ◌≤◌, ◌<◌}
use native.Mathlib.Omega.{arith}
use lib.ListN.{length, get_or}
use lib.Seq.{sets}
use borrow.Author.Tests.{le-leb}
use Rattle.std.specs.Prelude.{Option, Some, None, Result, Ok, Err}
use Rattle.laws.specs.Prefix.{all_from}
use Rattle.laws.proofs.Cases.{bool_cases}
use Rattle.laws.proofs.Places.{keep_all, all_same}
use Rattle.arrays.specs.Room.{most_places}
use Rattle.symbols.specs.Arrays.{all_words, all_links}
use Rattle.verdicts.specs.Entries.{Entry, all_rows}
use Rattle.verdicts.specs.Verdicts.{verdict}
use Rattle.verdicts.specs.Places.{entry_at, verdict_at, place}
use Rattle.verdicts.proofs.EntryLaws.{place_there, row_at}
use Rattle.causes.specs.Causes.{speaks_of, causes}
use Rattle.meaning.specs.Kept.{no_entry, kept_entry}
use Rattle.tables.specs.Sizes.{fit, refused_by, size_refusal, sizes_of}
use Rattle.tables.specs.declared.SizeError.{SizeError}
use Rattle.tables.specs.declared.SizeError.TheVariants.{TooLong, TooManyRows}
use Rattle.cells.specs.Cells.{have_cells, is_row, cell_of}
use Rattle.cells.proofs.CellLaws.{is_row_lem}
use Rattle.kept.specs.FirstPass.{Arrays, arrays}
use Rattle.kept.specs.Puts.{all_halves, all_bytes}
use Rattle.kept.specs.Keeping.{has_places, KeepsRows}
use Rattle.judged.specs.Passes.{JudgedInto}
use Rattle.pointing.specs.Pointing.{points_to}
use Rattle.explain.specs.Explained.{Explains}
use Rattle.explain.proofs.TableLaws as tables
use Rattle.explaining.specs.declared.Explanation.{Explanation}
use Rattle.explaining.specs.declared.ExplainError.{ExplainError}
use Rattle.explaining.specs.declared.ExplainError.TheVariants.{Sizes, NoRow}
use Rattle.explaining.specs.Explaining.{refused, no_row, explained, said_explanation, cause_places, answer_of, places_after}
use Rattle.explaining.specs.ByColumns.{pointed, answered_at, places_at, ExplainsBy}

-- THE LAW OF PLACES: the rows there are the causes
pub places_causes : (texts : List (List ℕ)) (n m : ℕ)
    → map (kept_entry (all_rows texts)) (cause_places texts n m) ≡ causes (all_rows texts) (entry_at texts (n - 1) m)
unfolding cause_places causes verdict_at
places_causes texts n m =
    let e = entry_at texts (n - 1) m in
    sym (keep_all no_entry (speaks_of (all_rows texts) (verdict (all_rows texts) e) e) (all_rows texts))

module _ (texts : List (List ℕ)) (n m : ℕ) where
  pub answer_refused : {number place : ℕ} → sizes_of texts ≡ refused_by number place → refused number place ≡ answer_of texts n m
  unfolding answer_of
  answer_refused e = rw e

  pub places_refused : {number place : ℕ} → sizes_of texts ≡ refused_by number place → (places : List ℕ) → places ≡ places_after texts n m places
  unfolding places_after have_cells
  places_refused e places = rw e

  -- the same of a table that is too large
  pub answer_size : (error : SizeError) → sizes_of texts ≡ size_refusal error → said_explanation (Err (Sizes error)) ≡ answer_of texts n m
  answer_size (TooLong table) e = answer_refused e
  answer_size (TooManyRows table) e = answer_refused e

  pub places_size : (error : SizeError) → sizes_of texts ≡ size_refusal error → (places : List ℕ) → places ≡ places_after texts n m places
  places_size (TooLong table) e places = places_refused e places
  places_size (TooManyRows table) e places = places_refused e places

  module _ (fitting : sizes_of texts ≡ fit) where
    fit_true : have_cells texts ≡ true
    unfolding have_cells
    fit_true = rw fitting

    has_cell : is_row texts n m ≡ true → cell_of texts n m ≡ Some (place texts (n - 1) m)
    unfolding cell_of
    has_cell t = rw (fit_true, t)

    no_cell : is_row texts n m ≡ false → cell_of texts n m ≡ None
    unfolding cell_of
    no_cell f = rw (fit_true, f)

    answer_some : is_row texts n m ≡ true → explained (verdict_at texts (n - 1) m) (length (cause_places texts n m)) ≡ answer_of texts n m
    unfolding answer_of
    answer_some t = rw (fitting, t)

    answer_none : is_row texts n m ≡ false → no_row ≡ answer_of texts n m
    unfolding answer_of
    answer_none f = rw (fitting, f)

    places_some : is_row texts n m ≡ true → (places : List ℕ) → sets places 0 (cause_places texts n m) ≡ places_after texts n m places
    unfolding places_after
    places_some t places = rw (fit_true, t)

    places_none : is_row texts n m ≡ false → (places : List ℕ) → places ≡ places_after texts n m places
    unfolding places_after
    places_none f places = rw (fit_true, f)

    module _ (halves bytes cells : List ℕ) (rows : ℕ) (x : Explains texts halves bytes cells rows) where
      module _ (t : is_row texts n m ≡ true) where
        below : place texts (n - 1) m < rows
        below = omega (arith, place_there texts (n - 1) m (is_row_lem texts n m t), x.count)

        row_is : kept_entry (all_rows texts) (place texts (n - 1) m) ≡ entry_at texts (n - 1) m
        row_is = row_at texts (n - 1) m (is_row_lem texts n m t) no_entry

        verdict_is : get_or cells (place texts (n - 1) m) 0 ≡ verdict_at texts (n - 1) m
        unfolding verdict_at
        verdict_is = x.judged (place texts (n - 1) m) below ∙ ap (verdict (all_rows texts)) row_is

        pointed_is : pointed halves bytes cells rows (place texts (n - 1) m) ≡ cause_places texts n m
        unfolding cause_places verdict_at
        pointed_is =
            let at = place texts (n - 1) m in
            ap (λ (k : ℕ). all_from (points_to halves bytes cells at) 0 k) x.count
            ∙ all_same (points_to halves bytes cells at)
            (λ j. speaks_of (all_rows texts) (verdict (all_rows texts) (entry_at texts (n - 1) m)) (entry_at texts (n - 1) m) (kept_entry (all_rows texts) j))
            0 (length (all_rows texts))
            (λ j a b. x.points at j below (omega (arith, x.count))
            ∙ ap (λ (e : Entry). speaks_of (all_rows texts) (verdict (all_rows texts) e) e (kept_entry (all_rows texts) j)) row_is)

      pub answer_at : answered_at halves bytes cells rows (cell_of texts n m) ≡ answer_of texts n m
      answer_at =
          bool_cases (is_row texts n m)
          (λ t. ap (answered_at halves bytes cells rows) (has_cell t) ∙ ap₂ explained (verdict_is t) (ap length (pointed_is t)) ∙ answer_some t)
          (λ f. ap (answered_at halves bytes cells rows) (no_cell f) ∙ answer_none f)

      pub places_at_lem : (places : List ℕ) → places_at halves bytes cells rows (cell_of texts n m) places ≡ places_after texts n m places
      places_at_lem places =
          bool_cases (is_row texts n m)
          (λ t. ap (λ (c : Option ℕ). places_at halves bytes cells rows c places) (has_cell t) ∙ ap (sets places 0) (pointed_is t) ∙ places_some t places)
          (λ f. ap (λ (c : Option ℕ). places_at halves bytes cells rows c places) (no_cell f) ∙ places_none f places)

-- what a call answers, and what it leaves in the places
abbrev pub Explained : List (List ℕ) → Option ℕ → (places places' : List ℕ) → Result Explanation ExplainError → Type 0
Explained texts cell places places' r =
    (n m : ℕ) → cell ≡ cell_of texts n m → (said_explanation r ≡ answer_of texts n m) × (places' ≡ places_after texts n m places)

-- rows are kept, and judged
pub by_columns : (texts : List (List ℕ)) (s₀ s : Arrays) (rows symbols : ℕ) → KeepsRows texts s₀ s rows symbols
    → (before after : List ℕ) → most_places ≤ length before → (cell : Option ℕ) (places places' : List ℕ) (r : Result Explanation ExplainError)
    → ExplainsBy s.halves s.bytes before after rows cell places places' r → Explained texts cell places places' r
by_columns texts s₀ s rows symbols k before after room cell places places' r e n m c =
    let x = tables.explained texts s₀ s rows symbols k before after e.judged (omega (arith, k.count, k.stored.few)) in (
      e.answers ∙ ap (answered_at s.halves s.bytes after rows) c ∙ answer_at texts n m k.fits s.halves s.bytes after rows x,
      e.leaves ∙ ap (λ (l : Option ℕ). places_at s.halves s.bytes after rows l places) c
          ∙ places_at_lem texts n m k.fits s.halves s.bytes after rows x places,
    )

-- arrays of the full size have room
pub has_room : (words links halves bytes : List ℕ) → all_words ≤ length words → all_links ≤ length links
    → all_halves ≤ length halves → all_bytes ≤ length bytes → has_places (arrays words links 0 halves bytes) ≡ true
has_room words links halves bytes w k h b =
    rw (le-leb all_words (length words) w, le-leb all_links (length links) k, le-leb all_halves (length halves) h, le-leb all_bytes (length bytes) b)

-- by the row's cell
module _ (halves bytes cells cells' : List ℕ) (n : ℕ) (cell : Option ℕ) (places : List ℕ) (j : JudgedInto halves bytes cells cells' n) where
  pub kept_at : (i : ℕ) → cell ≡ Some i → (v count : ℕ) → v ≡ get_or cells' i 0 → count ≡ length (pointed halves bytes cells' n i)
      → (places' : List ℕ) → places' ≡ sets places 0 (pointed halves bytes cells' n i)
      → ExplainsBy halves bytes cells cells' n cell places places' (Ok (record { verdict = v; causes = count }))
  kept_at i e v count f g places' h =
      record {
        judged = j;
        answers = ap₂ explained f g ∙ ap (answered_at halves bytes cells' n) (sym e);
        leaves = h ∙ ap (λ (c : Option ℕ). places_at halves bytes cells' n c places) (sym e);
      }

  pub kept_none : cell ≡ None → ExplainsBy halves bytes cells cells' n cell places places (Err NoRow)
  kept_none e =
      record {
        judged = j;
        answers = ap (answered_at halves bytes cells' n) (sym e);
        leaves = ap (λ (c : Option ℕ). places_at halves bytes cells' n c places) (sym e);
      }
