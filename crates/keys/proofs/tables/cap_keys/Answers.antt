-- The row is read, and each symbol is the definition's.
use borrow.Author.Rules.{rules}
use mir.Facts.{to_z-of_z}
use mir.Syntax.{w64}
use mir.Val.{SFits}
use Rattle.verdicts.specs.Facts.{facts_of, cap_facts}
use Rattle.manners.specs.Manners.{manners, weight, same_manner, code_from, code_of}
use Rattle.keys.proofs.CaseLaws.{member_said}
use Rattle.keys.proofs.tables.cap_keys.Goals as goal

pub returns : goal.returns
unfolding facts_of cap_facts manners weight same_manner code_from code_of
returns c = let f : SFits w64 c.read_cap-read.result.row.xvals = search rules in
    record {
      keys = rw (
        ← c.read_cap-read.ensures.verdict_value.0,
        ← c.read_cap-read.ensures.verdict_value.1,
        member_said,
        c.member-keys.ensures,
        c.curve_key.ensures.0,
        c.point_key-point.ensures,
        to_z-of_z f,
      );
      next = c.read_cap-read.ensures.next_value;
    }
