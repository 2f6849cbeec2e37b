-- Each field is its column's.
use Rattle.decoding.proofs.mcf_row.Goals as goal

pub returns : goal.returns
returns c = λ i. record {
  ident = c.curve_at.ensures i;
  polynomial = record {
    pol1 = c.coefficient_at.ensures i;
    pol2 = c.coefficient_at-2.ensures i;
    pol3 = c.coefficient_at-3.ensures i;
    pol4 = c.coefficient_at-4.ensures i;
    pol5 = c.coefficient_at-5.ensures i;
  };
}
