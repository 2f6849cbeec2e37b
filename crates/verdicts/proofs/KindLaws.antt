-- The kind that ocf asks for under INTER C: CURTX of the pcf row is given,
-- and a curve through points holds the key that it names.
use mathlib.Core.Path.{◌≡◌, refl, ap, ◌∙◌}
use mathlib.Core.Bool.{Bool, true, false, cond, ◌&&◌}
use mathlib.Core.List.{List, [], ◌∷◌, ◌++◌}
use lib.Dec.{eqb}
use Rattle.laws.specs.Lists.{any}
use Rattle.laws.proofs.Cases.{or_false}
use Rattle.laws.proofs.Tests.{any_never, any_keep}
use Rattle.rows.specs.declared.records.PcfRow.{PcfRow}
use Rattle.verdicts.specs.Key.{parameter}
use Rattle.verdicts.specs.Facts.{any_row, whole, points, itself, through, Naming, curtx_key, pcf_facts}
use Rattle.verdicts.specs.Entries.{Entry, fine, facts}
use Rattle.verdicts.specs.Steps.{holds, names_at}
use Rattle.verdicts.specs.Verdicts.{of_kind}

-- of two names, each given or not, of which the second alone is at column 12
at_12 : (v w : Bool) (m n : Naming) (q : Entry) → eqb m.column 12 ≡ false → eqb n.column 12 ≡ true
    → any (λ k. eqb k.column 12 && holds q k.key) (cond v (m ∷ []) [] ++ cond w (n ∷ []) []) ≡ (w && holds q n.key)
at_12 true true m n q e f = rw (e, f) (or_false (holds q n.key))
at_12 true false m n q e f = rw e
at_12 false true m n q e f = rw f (or_false (holds q n.key))
at_12 false false m n q e f = refl

module _ (rows : List Entry) (o : Entry) (r : PcfRow) (says : o.reading ≡ fine (pcf_facts r)) where
  abbrev valid : Naming
  valid = record { column = 8; key = parameter r.valid.name; kind = itself whole; chained = true }

  abbrev curtx : Naming
  curtx = record { column = 12; key = curtx_key r.categ r.curtx; kind = itself any_row; chained = false }

  names_curtx : (q : Entry) → names_at 12 o q ≡ (r.curtx.given && holds q curtx.key)
  unfolding names_at pcf_facts
  names_curtx q = rw says (at_12 r.valid.given r.curtx.given valid curtx q refl refl)

  -- a row through points that holds the key of CURTX
  abbrev pub is_curve : Entry → Bool
  is_curve q = holds q curtx.key && (facts q).meets points

  both : (b : Bool) → any (λ q. (b && holds q curtx.key) && (facts q).meets points) rows ≡ (b && any is_curve rows)
  both true = refl
  both false = any_never (λ q. (false && holds q curtx.key) && (facts q).meets points) rows (λ q. refl)

  -- 01: "C needs CURTX in that pcf row"; 02, P1: "a limit with INTER C on a polynomial is reason 11 at column 4"
  pub calibrated_law : of_kind rows (through 12 points) o ≡ (r.curtx.given && any is_curve rows)
  unfolding of_kind
  calibrated_law =
      any_keep (names_at 12 o) (λ q. (facts q).meets points) rows
      ∙ ap (λ (f : Entry → Bool). any (λ q. f q && (facts q).meets points) rows) (λ i q. names_curtx q i)
      ∙ both r.curtx.given
