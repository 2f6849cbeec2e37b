-- The row is read, and each symbol is the definition's.
use borrow.Author.Rules.{rules}
use mir.Facts.{to_z-of_z}
use mir.Syntax.{w64}
use mir.Val.{SFits}
use Rattle.verdicts.specs.Facts.{facts_of, txp_facts}
use Rattle.manners.specs.Manners.{manners, weight, same_manner, code_from, code_of}
use Rattle.keys.proofs.CaseLaws.{member_said}
use Rattle.keys.proofs.tables.txp_keys.Goals as goal

pub returns : goal.returns
unfolding facts_of txp_facts manners weight same_manner code_from code_of
returns c = let f : SFits w64 c.read_txp-read.result.row.from = search rules in
    record {
      keys = rw (
        ← c.read_txp-read.ensures.verdict_value.0,
        ← c.read_txp-read.ensures.verdict_value.1,
        member_said,
        c.member-keys.ensures,
        c.texts_key.ensures.0,
        c.range_key-range.ensures,
        to_z-of_z f,
      );
      next = c.read_txp-read.ensures.next_value;
    }
