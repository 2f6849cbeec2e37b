use mathlib.Core.Path.{refl}
use native.Mathlib.Omega.{arith}
use Rattle.index_entries.proofs.EntryLaws.{is_entry, no_entry_lem}
use Rattle.index_test.proofs.TestLaws.{start, ended, no_packet, no_rise, more}
use Rattle.index_test.proofs.rises.Goals as goal

pub loop-i-init : goal.loop-i-init
loop-i-init c = (omega arith, start _ _ _)

pub returns-in_default : goal.returns-in_default
returns-in_default c = no_packet _ _ _ _ c.loop-i.invariant.1 (omega arith) c.row_of.ensures refl (no_entry_lem _ _ c.entry_at.ensures c.in_default.is).0

pub returns-then-not-follows : goal.returns-then-not-follows
returns-then-not-follows c = no_rise _ _ _ _ c.loop-i.invariant.1 (omega arith) c.row_of.ensures
    (is_entry _ _ c.entry_at.ensures c.in-Ok.is).1 c.follows.ensures c.if-not-follows.true

pub loop-i-preserved : goal.loop-i-preserved
loop-i-preserved c =
    let entry = is_entry _ _ c.entry_at.ensures c.in-Ok.is in
    (omega arith, more _ _ _ _ c.loop-i.invariant.1 (omega arith) c.row_of.ensures entry.1 refl entry.0 c.follows.ensures c.if-not-follows.false)

pub returns : goal.returns
returns c = ended _ _ _ _ c.loop-i.invariant.1 (omega arith)
