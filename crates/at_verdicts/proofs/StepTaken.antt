-- Refusals 28, 30 and 31 of a limit step are those of the values of a packet that it takes.
use mathlib.Core.Path.{◌≡◌, refl, sym, ap, ap₂, ◌∙◌}
use mathlib.Core.Logic.{◌↔◌}
use mathlib.Core.Bool.{false}
use mathlib.Core.List.{List, [], ◌∷◌}
use mathlib.Core.Option.{some}
use Prim.Native.Nat.{ℕ}
use lib.Dec.{eqb}
use lib.IntN.{ℤ}
use Rattle.laws.specs.Lists.{any}
use Rattle.name_bytes.specs.Names.{name_of}
use Rattle.name_bytes.specs.declared.Name.{Name}
use Rattle.decoding.specs.Records.{ocf_row}
use Rattle.rows.specs.declared.records.OcfRow.{OcfRow}
use Rattle.verdicts.specs.Key.{location, parameter, limits}
use Rattle.outcomes.specs.Outcome.{Outcome, answer, refused, and_then}
use Rattle.database.specs.Rows.{Row, Rows}
use Rattle.headers.specs.declared.Head.{Head}
use Rattle.parameters.specs.Located.{Located, by_lines, located}
use Rattle.limit_state.specs.declared.state.LimitState.{LimitState}
use Rattle.applying.specs.Checks.{applying}
use Rattle.occurrences.specs.Values.{values_of}
use Rattle.accepting.specs.Time.{in_time}
use Rattle.stepping.specs.Step.{limits_of, step_by, step_at, step_of, step_in}
use Rattle.at_verdicts.specs.Taken.{Taken}
use Rattle.at_verdicts.proofs.NumberLaws.{never_one, then_is, then_refused, later, first_only}
use Rattle.at_verdicts.proofs.PacketNumbers.{identifying}
use Rattle.at_verdicts.proofs.Extraction26.{located_is}
use Rattle.at_verdicts.proofs.StepNumbers.{time_numbers}
use Rattle.at_verdicts.proofs.StepPath.{step_at_lem, step_on}
use Rattle.at_verdicts.proofs.StepRows.{limits_are, limits_found, limits_numbers, located_found, located_numbers, time_is}

-- the values that are checked of a packet that is taken
abbrev pub values_in : {rows : Rows} {p name : List ℕ} {s : LimitState} → Taken rows p name s → Outcome (List ℤ)
values_in {rows} {p} t = values_of rows p t.at.identity.spid (ocf_row t.ocf.bytes) (by_lines t.at.plf.bytes t.at.pcf.bytes)

module _ (rows : Rows) (p : List ℕ) (name : Name) (s : LimitState) (head : Head) (spid number place : ℕ) where
  -- 33, 26, 36 and 35 pass, and the values are refused so
  record Followed : Type 0 where
    ocf : Row
    has_limits : rows.holder (limits name) ≡ some ocf
    plf : Row
    has_place : rows.holder (location name spid) ≡ some plf
    pcf : Row
    described : rows.holder (parameter name) ≡ some pcf
    newer : in_time s head ≡ answer s
    values : values_of rows p spid (ocf_row ocf.bytes) (by_lines plf.bytes pcf.bytes) ≡ refused number place

  abbrev with_limits : OcfRow → Outcome LimitState
  with_limits ocf = and_then (located rows spid name) (step_at rows p name s head spid ocf)

  abbrev ended : OcfRow → LimitState → List ℤ → Outcome LimitState
  ended ocf old values = answer (step_by (applying rows p spid name) ocf.nbchck head old values)

  abbrev timed : OcfRow → Located → LimitState → Outcome LimitState
  timed ocf at old = and_then (values_of rows p spid ocf at) (ended ocf old)

  step_followed : any (eqb number) (0 ∷ 33 ∷ []) ≡ false → any (eqb number) (0 ∷ 26 ∷ []) ≡ false → any (eqb number) (0 ∷ 35 ∷ 36 ∷ []) ≡ false
      → step_of rows p name s head spid ≡ refused number place → Followed
  unfolding step_of step_at
  step_followed x y z e =
      let l = later number place (limits_of rows name) with_limits (never_one number (33 ∷ []) (limits_of rows name) x (limits_numbers rows name)) e in
      let o = limits_found rows name l.0 l.1 in
      let g = later number place (located rows spid name) (step_at rows p name s head spid l.0)
      (never_one number (26 ∷ []) (located rows spid name) y (located_numbers rows name spid)) l.2 in
      let f = located_found rows name spid g.0 g.1 in
      let t = later number place (in_time s head) (timed l.0 g.0)
      (never_one number (35 ∷ 36 ∷ []) (in_time s head) z (time_numbers (35 ∷ 36 ∷ []) refl refl s head)) g.2 in
      let v = first_only number place (values_of rows p spid l.0 g.0) (ended l.0 t.0)
      (λ values. (step_by (applying rows p spid name) l.0.nbchck head t.0 values, refl)) t.2 in
      record {
        ocf = o.0;
        has_limits = o.1;
        plf = f.plf;
        has_place = f.has_place;
        pcf = f.pcf;
        described = f.described;
        newer = t.1 ∙ ap (λ (old : LimitState). answer old) (time_is s head t.0 t.1);
        values = ap₂ (λ (ocf : OcfRow) (at : Located). values_of rows p spid ocf at) o.2 f.are ∙ v;
      }

  followed_step : Followed → step_of rows p name s head spid ≡ refused number place
  unfolding step_of step_at
  followed_step u =
      let ocf : OcfRow = ocf_row u.ocf.bytes in
      let at : Located = by_lines u.plf.bytes u.pcf.bytes in
      then_is (limits_of rows name) with_limits ocf (limits_are rows name u.ocf u.has_limits)
      ∙ then_is (located rows spid name) (step_at rows p name s head spid ocf) at
      (located_is rows spid name u.plf u.pcf u.has_place u.described)
      ∙ then_is (in_time s head) (timed ocf at) s u.newer ∙ then_refused (values_of rows p spid ocf at) (ended ocf s) number place u.values

-- such a refusal is one of the values
module _ (rows : Rows) (p name : List ℕ) (s : LimitState) (number place : ℕ) where
  abbrev Refused : Type 0
  Refused = (t : Taken rows p name s) × (values_in t ≡ refused number place)

  pub step_taken : any (eqb number) (0 ∷ 34 ∷ []) ≡ false → any (eqb number) (0 ∷ identifying) ≡ false → any (eqb number) (0 ∷ 33 ∷ []) ≡ false
      → any (eqb number) (0 ∷ 26 ∷ []) ≡ false → any (eqb number) (0 ∷ 35 ∷ 36 ∷ []) ≡ false → (step_in rows p name s ≡ refused number place) ↔ Refused
  step_taken v w x y z = (
    λ e.
        let a = step_at_lem rows p name s number place v w e in
        let f = step_followed rows p (name_of name) s a.head a.identity.spid number place x y z a.on in (
          record {
            state = a.state;
            head = a.head;
            headed = a.headed;
            ocf = f.ocf;
            has_limits = f.has_limits;
            at =
                record {
                  identity = a.identity;
                  identified = a.identified;
                  plf = f.plf;
                  has_place = f.has_place;
                  pcf = f.pcf;
                  described = f.described;
                };
            newer = f.newer;
          },
          f.values,
        ),
    λ r.
        let t : Taken rows p name s = r.0 in
        step_on rows p name s number place t.at.identity t.state t.at.identified
        (λ head h.
        let q : t.head ≡ head = cc (h, t.headed) in
        followed_step rows p (name_of name) s head t.at.identity.spid number place
        (record {
          ocf = t.ocf;
          has_limits = t.has_limits;
          plf = t.at.plf;
          has_place = t.at.has_place;
          pcf = t.at.pcf;
          described = t.at.described;
          newer = ap (in_time s) (sym q) ∙ t.newer;
          values = r.1;
        })),
  )
