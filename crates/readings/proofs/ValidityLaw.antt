-- Validity with no count in it: as many rows as a table can have decide every chain, circles too.
use mathlib.Core.Path.{◌≡◌, refl, sym, ap, ◌∙◌, subst}
use mathlib.Core.Bool.{Bool, true, false, not, cond, ◌&&◌}
use mathlib.Core.List.{List, Memᴰ}
use mathlib.Core.Option.{Option, some, none}
use Prim.Native.Nat.{ℕ, zero, suc, ◌+◌, ◌-◌, ◌≤◌}
use native.Mathlib.Omega.{arith}
use lib.IntN.{ℤ}
use lib.ListN.{length}
use Rattle.laws.proofs.Cases.{bool_cases, and_both, and_left, and_right, and_false, false≢true}
use Rattle.laws.proofs.Rest.{at_rest, Agree}
use Rattle.name_bytes.specs.declared.Name.{Name}
use Rattle.decoding.specs.Records.{plf_row, pcf_row}
use Rattle.rows.specs.declared.records.PcfRow.{PcfRow}
use Rattle.outcomes.specs.Outcome.{Outcome, refused, answer, and_then}
use Rattle.outcomes.specs.Values.{Value}
use Rattle.verdicts.specs.Key.{location, parameter}
use Rattle.verdicts.specs.Answer.{most_rows}
use Rattle.database.specs.Rows.{Row, Rows}
use Rattle.raw_values.specs.RawValues.{raw_of}
use Rattle.parameters.specs.Located.{Located, by_lines, needed, located}
use Rattle.readings.specs.Readings.{Reading, agrees, with_validity, reading_with, valid_within, validity, reading}

-- the rows that hold parameters come from a list of at most as many as a table can have
pub record FewParameters (rows : Rows) : Type 0 where
  pub pcf : List Row
  pub few : length pcf ≤ most_rows
  pub from : (name : Name) (row : Row) → rows.holder (parameter name) ≡ some row → Memᴰ row pcf

-- The row that a step asks

next_row : (plf pcf : Option Row) (at : Located) → and_then (needed plf) (λ l. and_then (needed pcf) (λ c. answer (by_lines l.bytes c.bytes))) ≡ answer at
    → (next : Row) × (pcf ≡ some next) × (at.pcf ≡ pcf_row next.bytes)
unfolding and_then needed by_lines
next_row none pcf at e = absurd (let z : ◌≡◌ {A = ℕ} 0 1 = cc in omega arith)
next_row (some l) none at e = absurd (let z : ◌≡◌ {A = ℕ} 0 1 = cc in omega arith)
next_row (some l) (some c) at e =
    let f : at ≡ record { plf = plf_row l.bytes; pcf = pcf_row c.bytes } = cc in
    (c, refl, ap (λ (x : Located). x.pcf) f)

-- a value agrees where it is valid, and would if it were
agrees_valid : (b : Bool) (raw : Outcome Value) (z : ℤ) → agrees (and_then raw (with_validity b)) z ≡ (b && agrees (and_then raw (with_validity true)) z)
unfolding agrees and_then with_validity
agrees_valid b (refused number place) z = sym (and_false b)
agrees_valid b (answer v) z = refl

-- the reading of occurrence 0 by the rows of a parameter
unfoldable read_at : (PcfRow → Bool) → List ℕ → Outcome Located → Outcome Reading
read_at valid p o = and_then o (λ at. and_then (raw_of p at.plf at.pcf 0) (with_validity (valid at.pcf)))

-- One step of validity, from the validity of every row

unfoldable step : (rows : Rows) (p : List ℕ) (spid : ℕ) → (PcfRow → Bool) → PcfRow → Bool
step rows p spid valid row = cond row.valid.given (agrees (reading_with rows p spid valid row.valid.name 0) row.valpar) true

-- a step doesn't ask, or it asks for the validity of one row of the list
data Asks (rows : Rows) (pcf : List Row) (p : List ℕ) (spid : ℕ) (row : PcfRow) : Type 0 where
  nothing : (b : Bool) → ((valid : PcfRow → Bool) → step rows p spid valid row ≡ b) → Asks rows pcf p spid row
  one : (next : Row) → Memᴰ next pcf → (same : Bool)
      → ((valid : PcfRow → Bool) → step rows p spid valid row ≡ (valid (pcf_row next.bytes) && same)) → Asks rows pcf p spid row

-- valid within n steps, where a step that isn't made makes nothing valid
unfoldable within : (rows : Rows) (p : List ℕ) (spid : ℕ) → ℕ → PcfRow → Bool
within rows p spid zero row = false
within rows p spid (suc n) row = step rows p spid (within rows p spid n) row

module _ (rows : Rows) (h : FewParameters rows) (p : List ℕ) (spid : ℕ) where
  free_step : (row : PcfRow) → row.valid.given ≡ false → (valid : PcfRow → Bool) → step rows p spid valid row ≡ true
  unfolding step
  free_step row f valid = rw f

  given_step : (row : PcfRow) → row.valid.given ≡ true → (valid : PcfRow → Bool) (o : Outcome Located) → located rows spid row.valid.name ≡ o
      → step rows p spid valid row ≡ agrees (read_at valid p o) row.valpar
  unfolding step reading_with read_at
  given_step row t valid o e = rw (t, e)

  refused_agrees : (valid : PcfRow → Bool) (number place : ℕ) (z : ℤ) → agrees (read_at valid p (refused number place)) z ≡ false
  unfolding agrees read_at and_then
  refused_agrees valid number place z = refl

  answer_agrees : (valid : PcfRow → Bool) (at : Located) (z : ℤ)
      → agrees (read_at valid p (answer at)) z ≡ (valid at.pcf && agrees (and_then (raw_of p at.plf at.pcf 0) (with_validity true)) z)
  unfolding read_at and_then
  answer_agrees valid at z = agrees_valid (valid at.pcf) (raw_of p at.plf at.pcf 0) z

  asks_given : (row : PcfRow) → row.valid.given ≡ true → (o : Outcome Located) → located rows spid row.valid.name ≡ o → Asks rows h.pcf p spid row
  unfolding located
  asks_given row t (refused number place) e =
      nothing false (λ valid. given_step row t valid (refused number place) e ∙ refused_agrees valid number place row.valpar)
  asks_given row t (answer at) e =
      let name : Name = row.valid.name in
      let n = next_row (rows.holder (location name spid)) (rows.holder (parameter name)) at e in
      let same : Bool = agrees (and_then (raw_of p at.plf at.pcf 0) (with_validity true)) row.valpar in
      one n.0 (h.from name n.0 n.1) same
      (λ valid. given_step row t valid (answer at) e ∙ answer_agrees valid at row.valpar ∙ ap (λ (x : PcfRow). valid x && same) n.2)

  asks : (row : PcfRow) → Asks rows h.pcf p spid row
  asks row =
      bool_cases row.valid.given
      (λ t. asks_given row t (located rows spid row.valid.name) refl)
      (λ f. nothing true (free_step row f))

  -- tests that agree on the rows of the list agree after a step
  step_agrees : (v w : PcfRow → Bool) → Agree (λ a. v (pcf_row a.bytes)) (λ a. w (pcf_row a.bytes)) h.pcf → (row : PcfRow)
      → step rows p spid v row ≡ step rows p spid w row
  step_agrees v w same row = by (asks row)
    where
      by : Asks rows h.pcf p spid row → step rows p spid v row ≡ step rows p spid w row
      by (nothing b e) = e v ∙ sym (e w)
      by (one next m s e) = e v ∙ ap (λ (b : Bool). b && s) (same next m) ∙ sym (e w)

  step_up : (v w : PcfRow → Bool) → ((row : PcfRow) → v row ≡ true → w row ≡ true) → (row : PcfRow)
      → step rows p spid v row ≡ true → step rows p spid w row ≡ true
  step_up v w up row t = by (asks row)
    where
      by : Asks rows h.pcf p spid row → step rows p spid w row ≡ true
      by (nothing b e) = e w ∙ sym (e v) ∙ t
      by (one next m same e) =
          let u : (v (pcf_row next.bytes) && same) ≡ true = sym (e v) ∙ t in
          e w ∙ and_both (up (pcf_row next.bytes) (and_left (v (pcf_row next.bytes)) same u)) (and_right (v (pcf_row next.bytes)) same u)

  -- what is valid within n steps is within one more
  within_up : (n : ℕ) (row : PcfRow) → within rows p spid n row ≡ true → within rows p spid (suc n) row ≡ true
  unfolding within
  within_up zero row t = absurd (false≢true t)
  within_up (suc n) row t = step_up (within rows p spid n) (within rows p spid (suc n)) (within_up n) row t

  abbrev Resting : ℕ → Type 0
  Resting n = Agree (λ a. within rows p spid n (pcf_row a.bytes)) (λ a. within rows p spid (suc n) (pcf_row a.bytes)) h.pcf

  within_stay : (n : ℕ) → Resting n → Resting (suc n)
  unfolding within
  within_stay n r a m = step_agrees (within rows p spid n) (within rows p spid (suc n)) r (pcf_row a.bytes)

  -- after as many steps as there are rows the next changes nothing, nor does any further one
  resting : (d n : ℕ) → n ≡ d + length h.pcf → Resting n
  resting zero n e =
      let f : length h.pcf ≡ n = omega arith in
      subst Resting f (at_rest h.pcf (λ m a. within rows p spid m (pcf_row a.bytes)) (λ m a. within_up m (pcf_row a.bytes)) within_stay)
  resting (suc d) zero e = absurd (omega arith)
  resting (suc d) (suc n) e = within_stay n (resting d n (omega arith))

  -- the definition, which begins with the rows that have no VALID
  never_agrees : (o : Outcome Located) (z : ℤ) → agrees (read_at (λ _. false) p o) z ≡ false
  never_agrees (refused number place) z = refused_agrees (λ _. false) number place z
  never_agrees (answer at) z = answer_agrees (λ _. false) at z

  first_step : (row : PcfRow) → not row.valid.given ≡ step rows p spid (λ _. false) row
  first_step row =
      let o : Outcome Located = located rows spid row.valid.name in
      bool_cases row.valid.given
      (λ t. ap not t ∙ sym (given_step row t (λ _. false) o refl ∙ never_agrees o row.valpar))
      (λ f. ap not f ∙ sym (free_step row f (λ _. false)))

  valid_is : (n : ℕ) (row : PcfRow) → valid_within rows p spid n row ≡ within rows p spid (suc n) row
  unfolding valid_within within step
  valid_is zero row = first_step row
  valid_is (suc n) row = step_agrees (valid_within rows p spid n) (within rows p spid (suc n)) (λ a m. valid_is n (pcf_row a.bytes)) row

  settled : (n : ℕ) → Resting n → (row : PcfRow) → valid_within rows p spid n row ≡ step rows p spid (valid_within rows p spid n) row
  unfolding within
  settled n r row =
      valid_is n row
      ∙ step_agrees (within rows p spid n) (within rows p spid (suc n)) r row
      ∙ step_agrees (within rows p spid (suc n)) (valid_within rows p spid n) (λ a m. sym (valid_is n (pcf_row a.bytes))) row

  at_most : Resting most_rows
  at_most = resting (most_rows - length h.pcf) most_rows (omega (arith, h.few))

-- 01: "A reading is valid only when its validity parameter's own reading, occurrence 0 of the same packet,
-- is valid and equals the
-- VALPAR of the reading's own pcf row; then it is valid, as is any reading whose row has no VALID"
pub validity_law : (rows : Rows) → FewParameters rows → (p : List ℕ) (spid : ℕ) (row : PcfRow)
    → validity rows p spid row ≡ cond row.valid.given (agrees (reading rows p spid row.valid.name 0) row.valpar) true
unfolding validity reading step
validity_law rows h p spid row = settled rows h p spid most_rows (at_most rows h p spid) row
