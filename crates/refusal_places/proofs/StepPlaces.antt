-- The places of a limit step are small.
use mathlib.Core.Bool.{Bool}
use mathlib.Core.List.{List, [], ◌∷◌, map}
use mathlib.Core.Option.{Option, none, some}
use Prim.Native.Nat.{ℕ}
use lib.Dec.{eqb}
use lib.IntN.{ℤ}
use Rattle.laws.specs.Lists.{any}
use Rattle.laws.proofs.Cases.{cond_cases}
use Rattle.name_bytes.specs.Names.{name_of}
use Rattle.name_bytes.specs.declared.Name.{Name}
use Rattle.rows.specs.declared.records.OcfRow.{OcfRow}
use Rattle.verdicts.specs.Key.{limits}
use Rattle.outcomes.specs.Outcome.{Outcome}
use Rattle.outcomes.specs.Values.{Value, number, part, bits}
use Rattle.database.specs.Rows.{Row, Rows}
use Rattle.headers.specs.Header.{head_of}
use Rattle.identification.specs.Identification.{identify_headed}
use Rattle.headers.specs.declared.Head.{Head}
use Rattle.raw_values.specs.RawValues.{raw_of}
use Rattle.parameters.specs.Located.{Located, located}
use Rattle.curve_values.specs.Scale.{Scale, on_scale}
use Rattle.limit_state.specs.State.{is_a_state, is_newer}
use Rattle.limit_state.specs.declared.state.LimitState.{LimitState}
use Rattle.occurrences.specs.Values.{occurrences_from, integer_in, raws_of, is_refusal, unless_refused, values_on, values_of}
use Rattle.accepting.specs.Time.{state_in, in_time}
use Rattle.stepping.specs.Step.{limits_from, limits_of, step_at, step_of, step_headed, step_in}
use Rattle.refusal_places.specs.Small.{Small}
use Rattle.refusal_places.proofs.SmallLaws.{small_answer, no_place, small_then}
use Rattle.refusal_places.proofs.RowRanges.{PlfRanges, InRanges}
use Rattle.refusal_places.proofs.PacketPlaces.{head_small, raw_small, headed_small, located_small, located_ranged}

-- The values of a packet

integer_small : (v : Value) → Small (integer_in v)
unfolding integer_in
integer_small (number z) = small_answer z
integer_small (part start bytes) = no_place 26
integer_small (bits pattern width) = no_place 26

raws_small : (raw : ℕ → Outcome Value) → ((k : ℕ) → Small (raw k)) → (ks : List ℕ) → Small (raws_of raw ks)
unfolding raws_of
raws_small raw f [] = small_answer _
raws_small raw f (k ∷ ks) =
    small_then _ _ (small_then (raw k) integer_in (f k) (λ v _. integer_small v)) (λ z _.
    small_then (raws_of raw ks) _ (raws_small raw f ks) (λ zs _. small_answer _))

unless_small : (values : List (Outcome ℤ)) → Small (unless_refused values)
unfolding unless_refused
unless_small values =
    cond_cases (λ (o : Outcome (List ℤ)). Small o) (any (is_refusal 30) values) (λ _. no_place 30)
    (λ _. cond_cases (λ (o : Outcome (List ℤ)). Small o) (any (is_refusal 31) values) (λ _. no_place 31) (λ _. small_answer _))

on_small : (scale : Scale) (valid : Bool) (raws : List ℤ) → Small (values_on scale valid raws)
unfolding values_on
on_small scale valid raws =
    cond_cases (λ (o : Outcome (List ℤ)). Small o) valid (λ _. unless_small (map (on_scale scale) raws)) (λ _. small_answer [])

values_small : (rows : Rows) (p : List ℕ) (spid : ℕ) (ocf : OcfRow) (at : Located) → PlfRanges at.plf → Small (values_of rows p spid ocf at)
unfolding values_of
values_small rows p spid ocf at r =
    small_then (raws_of (raw_of p at.plf at.pcf) (occurrences_from 0 at.plf.nbocc)) _
    (raws_small (raw_of p at.plf at.pcf) (λ k. raw_small p at.plf at.pcf k r) (occurrences_from 0 at.plf.nbocc))
    (λ raws _. on_small _ _ raws)

-- What comes before them

state_small : (s : LimitState) → Small (state_in s)
unfolding state_in
state_small s = cond_cases (λ (o : Outcome LimitState). Small o) (is_a_state s) (λ _. small_answer s) (λ _. no_place 34)

time_small : (s : LimitState) (head : Head) → Small (in_time s head)
unfolding in_time
time_small s head =
    cond_cases (λ (o : Outcome LimitState). Small o) s.fresh (λ _. small_answer s)
    (λ _. cond_cases (λ (o : Outcome LimitState). Small o) (eqb head.apid s.apid)
    (λ _. cond_cases (λ (o : Outcome LimitState). Small o) (is_newer head.count s.count) (λ _. small_answer s) (λ _. no_place 35))
    (λ _. no_place 36))

found_small : (o : Option Row) → Small (limits_from o)
unfolding limits_from
found_small none = no_place 33
found_small (some row) = small_answer _

limits_small : (rows : Rows) (name : Name) → Small (limits_of rows name)
unfolding limits_of
limits_small rows name = found_small (rows.holder (limits name))

-- Steps

module _ (rows : Rows) (ranges : InRanges rows) (p : List ℕ) where
  of_small : (name : Name) (s : LimitState) (head : Head) (spid : ℕ) → Small (step_of rows p name s head spid)
  unfolding step_of step_at
  of_small name s head spid =
      small_then (limits_of rows name) _ (limits_small rows name) (λ ocf _.
      small_then (located rows spid name) _ (located_small rows ranges p spid name) (λ at e.
      small_then (in_time s head) _ (time_small s head) (λ old _.
      small_then (values_of rows p spid ocf at) _ (values_small rows p spid ocf at (located_ranged rows ranges p spid name at e))
      (λ values _. small_answer _))))

  pub step_small : (name : List ℕ) (s : LimitState) → Small (step_in rows p name s)
  unfolding step_in step_headed
  step_small name s =
      small_then (state_in s) _ (state_small s) (λ old _.
      small_then (head_of p) _ (head_small p) (λ head _.
      small_then (identify_headed rows head p) _ (headed_small rows ranges p head) (λ identity _. of_small (name_of name) old head identity.spid)))
