-- The row is read, and each symbol is the definition's.
use Rattle.verdicts.specs.Facts.{facts_of, ocp_facts}
use Rattle.manners.specs.Manners.{manners, weight, same_manner, code_from, code_of, marks_of}
use Rattle.keys.specs.Held.{slot_of, named_of, count_of, keys_of}
use Rattle.keys.proofs.CaseLaws.{name_given}
use Rattle.keys.proofs.tables.ocp_keys.Goals as goal

pub returns : goal.returns
unfolding facts_of ocp_facts keys_of slot_of named_of count_of marks_of weight code_of code_from same_manner manners
returns c = record {
  keys = rw (
    ← c.read_ocp-read.ensures.verdict_value.0,
    ← c.read_ocp-read.ensures.verdict_value.1,
    name_given,
    c.naming-keys.ensures,
    c.named-parameter.ensures,
    c.parameter_key.ensures.0,
    c.member-counted.ensures,
    c.limits_key.ensures.0,
    c.check_key.ensures.0,
  );
  next = c.read_ocp-read.ensures.next_value;
}
