-- The row is read, and each symbol is the definition's.
use Rattle.verdicts.specs.Facts.{facts_of, plf_facts}
use Rattle.manners.specs.Manners.{manners, weight, same_manner, code_from, code_of, marks_of}
use Rattle.keys.specs.Held.{slot_of, named_of, count_of, keys_of}
use Rattle.keys.proofs.tables.plf_keys.Goals as goal

pub returns : goal.returns
unfolding facts_of plf_facts keys_of slot_of named_of count_of marks_of weight code_of code_from same_manner manners
returns c = record {
  keys = rw (
    ← c.read_plf-read.ensures.verdict_value.0,
    ← c.read_plf-read.ensures.verdict_value.1,
    c.naming-keys.ensures,
    c.holder.ensures,
    c.structure_key.ensures.0,
    c.parameter_key.ensures.0,
    c.location_key-key.ensures.0,
  );
  next = c.read_plf-read.ensures.next_value;
}
