-- The row is read, and each symbol is the definition's.
use Rattle.verdicts.specs.Facts.{facts_of, caf_facts}
use Rattle.manners.specs.Manners.{weight, marks_of}
use Rattle.keys.proofs.CaseLaws.{counter_said}
use Rattle.keys.proofs.tables.caf_keys.Goals as goal

pub returns : goal.returns
unfolding facts_of caf_facts marks_of weight
returns c = record {
  keys = rw (← c.read_caf-read.ensures.verdict_value.0, ← c.read_caf-read.ensures.verdict_value.1, counter_said, c.counter-keys.ensures, c.curve_key.ensures.0);
  next = c.read_caf-read.ensures.next_value;
}
