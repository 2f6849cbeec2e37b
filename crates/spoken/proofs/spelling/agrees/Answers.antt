-- Each part leads on from where the one before it ended.
use native.Mathlib.Nat.{sub-zero}
use Rattle.spoken.specs.Spoken.{spoken}
use Rattle.spoken.proofs.SpokenLaws.{agrees_is}
use Rattle.spoken.proofs.spelling.agrees.Goals as goal

pub returns : goal.returns
unfolding spoken
returns c = rw (
  c.match_cells.ensures,
  c.match_text-after_text.ensures,
  c.string_part.ensures,
  c.match_template-after_words.ensures,
  c.part-words.ensures,
  c.match_sign-after_sign.ensures,
  c.match_text-start.ensures,
  sub-zero,
)
    (agrees_is _ _ _ _ _)
