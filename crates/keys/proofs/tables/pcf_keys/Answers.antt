-- The row is read, and each symbol is the definition's.
use Rattle.verdicts.specs.Facts.{facts_of}
use Rattle.keys.proofs.CaseLaws.{pcf_said}
use Rattle.keys.proofs.tables.pcf_keys.Goals as goal

pub returns : goal.returns
unfolding facts_of
returns c = record {
  keys = rw (
    ← c.read_pcf-read.ensures.verdict_value.0,
    ← c.read_pcf-read.ensures.verdict_value.1,
    pcf_said,
    c.naming-keys.ensures,
    c.holder-held.ensures,
    c.pcf_marks.ensures,
    c.parameter_key-2.ensures.0,
    c.named-curtx.ensures,
    c.curtx_key.ensures,
    c.named-valid.ensures,
    c.parameter_key.ensures.0,
  );
  next = c.read_pcf-read.ensures.next_value;
}
