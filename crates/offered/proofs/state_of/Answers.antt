-- By whether its fields can hold the numbers.
use mathlib.Core.Path.{sym, ◌∙◌}
use native.Mathlib.Omega.{arith}
use Rattle.offered.proofs.OfferedLaws.{apid_fits, count_fits, run_fits, announced_fits, offered_is, offered_none}
use Rattle.offered.proofs.state_of.Goals as goal

pub returns-then-not-are_fields : goal.returns-then-not-are_fields
returns-then-not-are_fields c = offered_none _ (sym c.are_fields.ensures ∙ c.if-not-are_fields.true)

pub overflow_cast-apid : goal.overflow_cast-apid
overflow_cast-apid c = record {
  fits = omega (
    arith,
    c.size_at-apid.ensures,
    apid_fits _
        (sym c.are_fields.ensures ∙ c.if-not-are_fields.false),
  );
}

pub overflow_cast-count : goal.overflow_cast-count
overflow_cast-count c = record {
  fits = omega (
    arith,
    c.size_at-count.ensures,
    count_fits _
        (sym c.are_fields.ensures ∙ c.if-not-are_fields.false),
  );
}

pub overflow_cast-run : goal.overflow_cast-run
overflow_cast-run c = record {
  fits = omega (
    arith,
    c.size_at-run.ensures,
    run_fits _
        (sym c.are_fields.ensures ∙ c.if-not-are_fields.false),
  );
}

pub overflow_cast-announced : goal.overflow_cast-announced
overflow_cast-announced c = record {
  fits = omega (
    arith,
    c.size_at-announced.ensures,
    announced_fits _
        (sym c.are_fields.ensures ∙ c.if-not-are_fields.false),
  );
}

pub returns : goal.returns
returns c = offered_is _
    (sym c.are_fields.ensures ∙ c.if-not-are_fields.false)
    c.size_at-fresh.ensures c.size_at-apid.ensures c.size_at-count.ensures
    c.size_at-run.ensures c.size_at-announced.ensures
