use mathlib.Core.Path.{◌≡◌, ap, sym, ◌∙◌}
use Prim.Native.Nat.{◌+◌, ◌^◌, ◌<◌}
use native.Mathlib.Omega.{arith}
use mir.Facts.{to_z-of_z}
use mir.Val.{SFits, to_z, of_z}
use mir.Syntax.{w64}
use borrow.Author.Rules.{rules}
use Rattle.rows.specs.declared.records.PlfRow.{PlfRow}
use Rattle.outcomes.specs.Outcome.{answer, and_then}
use Rattle.outcomes.specs.Refusals.{said, refused_by}
use Rattle.outcomes.proofs.OutcomeLaws.{passed_on}
use Rattle.raw_values.specs.RawValues.{raw_of, location_of}
use Rattle.raw_values.specs.declared.place.Location.{Location}
use Rattle.occurrences.specs.Values.{integer_in}
use Rattle.occurrences.specs.Progress.{progress_by, checked_by}
use Rattle.occurrences.proofs.NumberLaws.{number_answered, unread, no_integer}
use Rattle.occurrences.proofs.PassLaws.{passing_start, passing_refused, passing_valid, passing_invalid, passing_done, passing_all}
use Rattle.occurrences.proofs.check_occurrences.Goals.{then-valid, else-valid}
use Rattle.occurrences.proofs.check_occurrences.Goals as goal

-- NBOCC is that of the row
occurrences-are : (location : Location) (plf : PlfRow) → location ≡ location_of plf → location.nbocc ≡ plf.nbocc
unfolding location_of
occurrences-are location plf d = ap (λ (l : Location). l.nbocc) d

pub loop-k-init : goal.loop-k-init
loop-k-init c = (omega arith, λ plf d. passing_start _ _ _ _ _ _ _)

pub loop-k-preserved : goal.loop-k-preserved
loop-k-preserved c =
    let word : to_z w64 (of_z w64 c.in_ok-raw.raw) ≡ c.in_ok-raw.raw = let f : SFits w64 c.in_ok-raw.raw = search rules in
    to_z-of_z f in
    let integer_is : ((plf : PlfRow) → c.args.location ≡ location_of plf → and_then (raw_of c.args.p.now plf c.args.pcf c.loop-k.k) integer_in ≡ answer (to_z w64 (of_z w64 c.in_ok-raw.raw))) = λ plf d. number_answered (c.raw_of.ensures plf d) c.in_ok-value.was c.integer_in.ensures c.in_ok-raw.was ∙ ap answer (sym word) in (
      omega arith,
      λ plf d. elim c.if-valid.branch [
        | then-valid w ↦ passing_valid _ _ _ _ _ _ _ _ _ (c.loop-k.invariant.1 plf d) c.loop-k-test.true (integer_is plf d) w.if-valid.true (w.pass-is ∙ w.check_value-pass.ensures)
        | else-valid w ↦ passing_invalid _ _ _ _ _ _ _ _ _ (c.loop-k.invariant.1 plf d) c.loop-k-test.true (integer_is plf d) w.if-valid.false w.pass-is
      ],
    )

pub returns-in_err-value : goal.returns-in_err-value
unfolding checked_by said refused_by progress_by
returns-in_err-value c plf d = ap said (passed_on _ c.from_residual.ensures)
    ∙ passing_refused _ _ _ _ _ _ _ _ _ (c.loop-k.invariant.1 plf d) c.loop-k-test.true (unread (c.raw_of.ensures plf d) c.in_err-value.was)
    ∙ passing_all _ _ _ _ _ _ _ (occurrences-are _ plf d)

pub returns-in_err-raw : goal.returns-in_err-raw
unfolding checked_by said refused_by progress_by
returns-in_err-raw c plf d = ap said (passed_on _ c.from_residual-in_err-raw.ensures)
    ∙ passing_refused _ _ _ _ _ _ _ _ _ (c.loop-k.invariant.1 plf d) c.loop-k-test.true
    (no_integer (c.raw_of.ensures plf d) c.in_ok-value.was c.integer_in.ensures c.in_err-raw.was)
    ∙ passing_all _ _ _ _ _ _ _ (occurrences-are _ plf d)

pub returns : goal.returns
unfolding checked_by progress_by
returns c plf d = c.end_pass.ensures
    ∙ passing_done _ _ _ _ _ _ _ _ _ (c.loop-k.invariant.1 plf d) c.loop-k-test.false
    ∙ passing_all _ _ _ _ _ _ _ (occurrences-are _ plf d)
