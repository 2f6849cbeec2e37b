-- The row is read, and each symbol is the definition's.
use mathlib.Core.Path.{◌∙◌}
use Rattle.verdicts.specs.Facts.{facts_of, pid_facts}
use Rattle.manners.specs.Manners.{weight, marks_of}
use Rattle.keys.specs.Held.{slot_of, named_of, count_of, keys_of}
use Rattle.keys.proofs.CaseLaws.{pid_first, pid_second}
use Rattle.keys.proofs.tables.pid_keys.Goals as goal

pub returns : goal.returns
unfolding facts_of pid_facts keys_of slot_of named_of count_of marks_of weight
returns c = let first = c.then_some.ensures ∙ pid_first c.read_pid-read.result.row c.read_pid-read.result.row.valid c.is_yes-yes.ensures c.pid_key-packet.ensures.0 in
    let second = c.then_some-2.ensures ∙ pid_second c.read_pid-read.result.row c.read_pid-read.result.row.valid c.is_yes-yes.ensures c.structure_key-structure.ensures.0 in
    record {
      keys = rw (← c.read_pid-read.ensures.verdict_value.0, ← c.read_pid-read.ensures.verdict_value.1, c.holding-keys.ensures, first, second);
      next = c.read_pid-read.ensures.next_value;
    }
