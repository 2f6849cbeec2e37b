use Rattle.symbols.specs.Arrays.{put_link}
use Rattle.symbols.proofs.places.link.Goals as goal

pub returns : goal.returns
unfolding put_link
returns c = rw (
  c.put_half-3.ensures,
  c.put_half-2.ensures,
  c.put_half.ensures,
)
