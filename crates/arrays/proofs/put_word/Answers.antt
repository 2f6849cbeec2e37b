use mathlib.Core.Path.{sym}
use lib.Seq.{set_out}
use Rattle.arrays.proofs.put_word.Goals as goal

pub returns-then-words-i : goal.returns-then-words-i
returns-then-words-i c = sym (set_out _ _ _ c.if-words-i.true)
