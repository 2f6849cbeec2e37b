-- The SPID alone.
use mathlib.Core.Path.{refl}
use Rattle.key_symbols.specs.Keyed.{symbol_of}
use Rattle.key_symbols.specs.Bounded.{key_fits}
use Rattle.key_symbols.proofs.structure_key.Goals as goal

pub returns : goal.returns
unfolding symbol_of key_fits
returns c = (refl, refl)
