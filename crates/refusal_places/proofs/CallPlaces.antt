-- The place of every refusal of a call with tables is small.
use mathlib.Core.Path.{◌≡◌}
use mathlib.Core.List.{List}
use Prim.Native.Nat.{ℕ}
use lib.Dec.{eqb}
use lib.ListN.{length}
use Rattle.laws.proofs.Cases.{cond_cases}
use Rattle.name_bytes.specs.Names.{name_of}
use Rattle.name_bytes.specs.declared.Name.{Name}
use Rattle.decoding.specs.Records.{pcf_row}
use Rattle.verdicts.specs.Answer.{too_long, too_many_rows}
use Rattle.verdicts.specs.Key.{parameter}
use Rattle.verdicts.specs.Entries.{table_count}
use Rattle.tables.specs.Sizes.{Sized, sizes_of}
use Rattle.outcomes.specs.Outcome.{Outcome}
use Rattle.outcomes.specs.Values.{Value, number, part, bits}
use Rattle.database.specs.Rows.{Rows}
use Rattle.database.specs.GoodRows.{of_tables}
use Rattle.identification.specs.Identification.{identify_by}
use Rattle.parameters.specs.Located.{needed}
use Rattle.limit_state.specs.declared.state.LimitState.{LimitState}
use Rattle.stepping.specs.Step.{step_in}
use Rattle.calls.specs.Tables.{after_sizes, asking}
use Rattle.extraction.specs.Extraction.{extract_by}
use Rattle.extraction.specs.Engineering.{engineered_from, engineer_by}
use Rattle.calls.specs.Calls.{identify_of, extract_of, engineer_of, limit_step_of}
use Rattle.refusal_places.specs.Small.{Small}
use Rattle.refusal_places.proofs.SmallLaws.{small_answer, small_place, small_then}
use Rattle.refusal_places.proofs.RowRanges.{InRanges, tables_in_ranges}
use Rattle.refusal_places.proofs.PacketPlaces.{identify_small, reading_small, needed_small, engineered_small}
use Rattle.refusal_places.proofs.StepPlaces.{step_small}
use Rattle.refusal_places.proofs.TablePlaces.{long_small, many_small}

value_small : (rows : Rows) (name : Name) (v : Value) → Small (engineered_from rows name v)
unfolding engineered_from
value_small rows name (number z) =
    small_then (needed (rows.holder (parameter name))) _ (needed_small (rows.holder (parameter name)))
    (λ row _. engineered_small rows (pcf_row row.bytes) z)
value_small rows name (part start bytes) = small_answer _
value_small rows name (bits pattern width) = small_answer _

module _ (rows : Rows) (ranges : InRanges rows) (p name : List ℕ) (k : ℕ) where
  extract_small : Small (extract_by rows p name k)
  unfolding extract_by
  extract_small = small_then (identify_by rows p) _ (identify_small rows ranges p) (λ id _. reading_small rows ranges p id.spid (name_of name) k)

  engineer_small : Small (engineer_by rows p name k)
  unfolding engineer_by
  engineer_small = small_then (extract_by rows p name k) _ extract_small (λ r _. value_small rows (name_of name) r.value)

module _ (texts : List (List ℕ)) (all : length texts ≡ table_count) where
  pub asking_small : {A : Type 0} (ask : Rows → Outcome A) → ((rows : Rows) → InRanges rows → Small (ask rows)) → Small (asking texts ask)
  unfolding asking after_sizes sizes_of
  asking_small ask h =
      cond_cases (λ (s : Sized). Small (after_sizes s (ask (of_tables texts)))) (eqb (too_long texts) 0)
      (λ _. cond_cases (λ (s : Sized). Small (after_sizes s (ask (of_tables texts)))) (eqb (too_many_rows texts) 0)
      (λ _. h (of_tables texts) (tables_in_ranges texts)) (λ _. small_place 2 (many_small texts all)))
      (λ _. small_place 1 (long_small texts all))

  pub identify_of_small : (p : List ℕ) → Small (identify_of texts p)
  unfolding identify_of
  identify_of_small p = asking_small (λ rows. identify_by rows p) (λ rows ranges. identify_small rows ranges p)

  pub extract_of_small : (p name : List ℕ) (k : ℕ) → Small (extract_of texts p name k)
  unfolding extract_of
  extract_of_small p name k = asking_small (λ rows. extract_by rows p name k) (λ rows ranges. extract_small rows ranges p name k)

  pub engineer_of_small : (p name : List ℕ) (k : ℕ) → Small (engineer_of texts p name k)
  unfolding engineer_of
  engineer_of_small p name k = asking_small (λ rows. engineer_by rows p name k) (λ rows ranges. engineer_small rows ranges p name k)

  pub step_of_small : (p name : List ℕ) (s : LimitState) → Small (limit_step_of texts p name s)
  unfolding limit_step_of
  step_of_small p name s = asking_small (λ rows. step_in rows p name s) (λ rows ranges. step_small rows ranges p name s)
