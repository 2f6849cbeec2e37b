-- The part after the first space, where there is one.
use mathlib.Core.Path.{sym, ◌∙◌}
use native.Mathlib.Omega.{arith}
use Rattle.scripts.proofs.WordLaws.{text_is, text_none}
use Rattle.scripts.proofs.verb.text_of.Goals as goal

pub returns-then-end-line : goal.returns-then-end-line
returns-then-end-line c = c.part.ensures ∙ text_is _ _ c.find_byte-end.ensures.0

pub returns : goal.returns
returns c = sym (text_none _ _ c.find_byte-end.ensures.0 (omega arith))
