use mathlib.Core.Path.{refl}
use Rattle.symbols.specs.Arrays.{bucket_of}
use Rattle.symbols.proofs.paths.bucket.Goals as goal

pub returns : goal.returns
unfolding bucket_of
returns c = refl
