use borrow.Author.Tests.{eq-eqb, ne_eqb, le-leb, lt-leb}
use Rattle.passes.specs.Sound.{sound_of}
use Rattle.passes.proofs.sound.sound_of.Goals as goal

pub returns-then-holders2-le1 : goal.returns-then-holders2-le1
unfolding sound_of
returns-then-holders2-le1 c = rw (eq-eqb _ 1 c.if-formed-eq1.true, le-leb _ 1 c.if-holders1-le1.true, le-leb _ 1 c.if-holders2-le1.true)

pub returns-then-holders1-le1 : goal.returns-then-holders1-le1
unfolding sound_of
returns-then-holders1-le1 c = rw (eq-eqb _ 1 c.if-formed-eq1.true, le-leb _ 1 c.if-holders1-le1.true, lt-leb _ 1 c.if-holders2-le1.false)

pub returns-then-formed-eq1 : goal.returns-then-formed-eq1
unfolding sound_of
returns-then-formed-eq1 c = rw (eq-eqb _ 1 c.if-formed-eq1.true, lt-leb _ 1 c.if-holders1-le1.false)

pub returns : goal.returns
unfolding sound_of
returns c = rw (ne_eqb _ 1 c.if-formed-eq1.false)
