-- Refusals 33 and 26 of a limit step mean exactly what 01 says,
-- "no good ocf row" and "no good plf row for name and SPID".
use mathlib.Core.Path.{◌≡◌, refl, sym, ap, subst, ◌∙◌}
use mathlib.Core.Logic.{◌↔◌}
use mathlib.Core.List.{List}
use mathlib.Core.Option.{Option, none, some}
use Prim.Native.Nat.{ℕ}
use native.Mathlib.Omega.{arith}
use Rattle.name_bytes.specs.Names.{name_of}
use Rattle.name_bytes.specs.declared.Name.{Name}
use Rattle.decoding.specs.Records.{ocf_row}
use Rattle.rows.specs.declared.records.OcfRow.{OcfRow}
use Rattle.tables.specs.Sizes.{fit, sizes_of}
use Rattle.verdicts.specs.Key.{location, limits}
use Rattle.outcomes.specs.Outcome.{Outcome, refused, and_then}
use Rattle.database.specs.Rows.{Row}
use Rattle.database.specs.GoodRows.{of_tables}
use Rattle.headers.specs.declared.Head.{Head}
use Rattle.parameters.specs.Located.{by_lines, located}
use Rattle.limit_state.specs.declared.state.LimitState.{LimitState}
use Rattle.stepping.specs.Step.{limits_of, step_at, step_of, step_in}
use Rattle.calls.specs.Tables.{after_sizes, asking}
use Rattle.calls.specs.Calls.{limit_step_of}
use Rattle.at_verdicts.specs.Steps.{Unlimited, StepUnlocated}
use Rattle.at_verdicts.proofs.NumberLaws.{number_in, never_one, Numbered, then_is, then_refused}
use Rattle.at_verdicts.proofs.ParameterRows.{plf_parameter, ocf_parameter}
use Rattle.at_verdicts.proofs.Extraction26.{located_is, located_none}
use Rattle.at_verdicts.proofs.StepNumbers.{checking, step_numbers}
use Rattle.at_verdicts.proofs.StepPath.{step_at_lem, step_on}
use Rattle.at_verdicts.proofs.StepRows.{limits_none, limits_are}

abbrev number : Outcome LimitState → ℕ
number o = number_in o

module _ (texts : List (List ℕ)) (p : List ℕ) (name : Name) (s : LimitState) (head : Head) (spid : ℕ) where
  abbrev step : Outcome LimitState
  step = step_of (of_tables texts) p name s head spid

  abbrev no_limits : Type 0
  no_limits = (of_tables texts).holder (limits name) ≡ none

  abbrev no_place : Type 0
  no_place = (of_tables texts).holder (location name spid) ≡ none

  abbrev with_limits : OcfRow → Outcome LimitState
  with_limits ocf = and_then (located (of_tables texts) spid name) (step_at (of_tables texts) p name s head spid ocf)

  step_33 : no_limits → step ≡ refused 33 0
  unfolding step_of
  step_33 e = then_refused (limits_of (of_tables texts) name) with_limits 33 0 (limits_none (of_tables texts) name e)

  step_limited : (ocf : Row) → (of_tables texts).holder (limits name) ≡ some ocf → step ≡ with_limits (ocf_row ocf.bytes)
  unfolding step_of
  step_limited ocf e = then_is (limits_of (of_tables texts) name) with_limits (ocf_row ocf.bytes) (limits_are (of_tables texts) name ocf e)

  step_26 : (ocf : Row) → (of_tables texts).holder (limits name) ≡ some ocf → no_place → step ≡ refused 26 0
  step_26 ocf e f =
      step_limited ocf e
      ∙ then_refused (located (of_tables texts) spid name) (step_at (of_tables texts) p name s head spid (ocf_row ocf.bytes)) 26 0
      (located_none (of_tables texts) spid name f)

  -- with both rows found it is refused with neither
  step_found : (ocf plf : Row) → (of_tables texts).holder (limits name) ≡ some ocf → (of_tables texts).holder (location name spid) ≡ some plf
      → Numbered checking step
  unfolding by_lines
  step_found ocf plf e f =
      let d = plf_parameter texts name spid plf f in
      let at = by_lines plf.bytes d.row.bytes in
      let same = step_limited ocf e
      ∙ then_is (located (of_tables texts) spid name) (step_at (of_tables texts) p name s head spid (ocf_row ocf.bytes)) at
      (located_is (of_tables texts) spid name plf d.row f d.found) in
      subst (λ (o : Outcome LimitState). Numbered checking o) (sym same)
      (step_numbers (of_tables texts) p spid (ocf_row ocf.bytes) at d.width d.wide (ocf_parameter texts name ocf d.row e d.found) name s head)

  unlimited : number step ≡ 33 → no_limits
  unlimited q = go ((of_tables texts).holder (limits name)) ((of_tables texts).holder (location name spid)) refl refl
    where
      go : (a b : Option Row) → (of_tables texts).holder (limits name) ≡ a → (of_tables texts).holder (location name spid) ≡ b → a ≡ none
      go none b e f = refl
      go (some ocf) none e f = let z : ◌≡◌ {A = ℕ} 26 33 = sym (ap number (step_26 ocf e f)) ∙ q in absurd (omega arith)
      go (some ocf) (some plf) e f = absurd (never_one 33 checking step refl (step_found ocf plf e f) q)

  unplaced : number step ≡ 26 → (ocf : Row) × ((of_tables texts).holder (limits name) ≡ some ocf) × no_place
  unplaced q = go ((of_tables texts).holder (limits name)) ((of_tables texts).holder (location name spid)) refl refl
    where
      go : (a b : Option Row) → (of_tables texts).holder (limits name) ≡ a → (of_tables texts).holder (location name spid) ≡ b
          → (ocf : Row) × ((of_tables texts).holder (limits name) ≡ some ocf) × no_place
      go none b e f = let z : ◌≡◌ {A = ℕ} 33 26 = sym (ap number (step_33 e)) ∙ q in absurd (omega arith)
      go (some ocf) none e f = (ocf, e, f)
      go (some ocf) (some plf) e f = absurd (never_one 26 checking step refl (step_found ocf plf e f) q)

-- A limit step

module _ (texts : List (List ℕ)) (p name : List ℕ) (s : LimitState) where
  -- 01: "33 … no good ocf row"
  pub limit_step_33 : (step_in (of_tables texts) p name s ≡ refused 33 0) ↔ Unlimited (of_tables texts) p name s
  limit_step_33 = (
    λ e.
        let a = step_at_lem (of_tables texts) p name s 33 0 refl refl e in
        record {
          state = a.state;
          identity = a.identity;
          identified = a.identified;
          no_ocf_row = unlimited texts p (name_of name) s a.head a.identity.spid (ap number a.on);
        },
    λ u.
        step_on (of_tables texts) p name s 33 0 u.identity u.state u.identified
        (λ head _. step_33 texts p (name_of name) s head u.identity.spid u.no_ocf_row),
  )

  -- 01: "26 … no good plf row for name and SPID"
  pub limit_step_26 : (step_in (of_tables texts) p name s ≡ refused 26 0) ↔ StepUnlocated (of_tables texts) p name s
  limit_step_26 = (
    λ e.
        let a = step_at_lem (of_tables texts) p name s 26 0 refl refl e in
        let w = unplaced texts p (name_of name) s a.head a.identity.spid (ap number a.on) in
        record {
          state = a.state;
          ocf = w.0;
          has_limits = w.1;
          unlocated = record { identity = a.identity; identified = a.identified; no_plf_row = w.2 };
        },
    λ u.
        step_on (of_tables texts) p name s 26 0 u.unlocated.identity u.state u.unlocated.identified
        (λ head _. step_26 texts p (name_of name) s head u.unlocated.identity.spid u.ocf u.has_limits u.unlocated.no_plf_row),
  )

  -- and of the call, with tables that fit
  pub limit_call_33 : sizes_of texts ≡ fit → (limit_step_of texts p name s ≡ refused 33 0) ↔ Unlimited (of_tables texts) p name s
  unfolding limit_step_of asking after_sizes
  limit_call_33 f = rw f limit_step_33

  pub limit_call_26 : sizes_of texts ≡ fit → (limit_step_of texts p name s ≡ refused 26 0) ↔ StepUnlocated (of_tables texts) p name s
  unfolding limit_step_of asking after_sizes
  limit_call_26 f = rw f limit_step_26
