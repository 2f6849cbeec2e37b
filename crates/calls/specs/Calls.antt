-- The calls with tables and a packet, and what each answers.
use Rattle.std.specs.Prelude.{ℕ, ◌≡◌, refl, List, []}
use Rattle.headers.specs.Header.{head_of}
use Rattle.verdicts.specs.Answer.{first_table, too_long, too_many_rows}
use Rattle.tables.specs.Sizes.{sizes_of}
use Rattle.outcomes.specs.Outcome.{Outcome, refused, and_then}
use Rattle.identification.specs.Identification.{Identity, identify_by}
use Rattle.readings.specs.Readings.{Reading}
use Rattle.engineering.specs.Engineering.{Engineered}
use Rattle.limit_state.specs.declared.state.LimitState.{LimitState}
use Rattle.stepping.specs.Step.{step_in}
use Rattle.calls.specs.Tables.{after_sizes, asking}
use Rattle.extraction.specs.Extraction.{extract_by}
use Rattle.extraction.specs.Engineering.{engineer_by}

-- 01: "The five numbers choose the pid row"
unfoldable pub identify_of : List (List ℕ) → (p : List ℕ) → Outcome Identity
identify_of texts p = asking texts (λ rows. identify_by rows p)

-- a raw value, and whether the reading is valid
unfoldable pub extract_of : List (List ℕ) → (p name : List ℕ) → (k : ℕ) → Outcome Reading
extract_of texts p name k = asking texts (λ rows. extract_by rows p name k)

-- 01: "N without CURTX and T answer the raw value"; else along the curve, or a text
unfoldable pub engineer_of : List (List ℕ) → (p name : List ℕ) → (k : ℕ) → Outcome Engineered
engineer_of texts p name k = asking texts (λ rows. engineer_by rows p name k)

-- 01: "a limit step checks 34, 20–25, 33, 26, 36, 35, 28, 30, 31"
unfoldable pub limit_step_of : List (List ℕ) → (p name : List ℕ) → LimitState → Outcome LimitState
limit_step_of texts p name s = asking texts (λ rows. step_in rows p name s)

-- there is no table that is too large, and a packet of no bytes is under 7
pub example : identify_of [] [] ≡ refused 20 0
unfolding identify_of asking after_sizes sizes_of too_long too_many_rows first_table identify_by and_then head_of
example = refl
