-- The name and the value as a symbol.
use mir.Facts.{to_z-of_z}
use Rattle.key_symbols.specs.Keyed.{symbol_of}
use Rattle.key_symbols.proofs.range_key.Goals as goal

pub returns : goal.returns
unfolding symbol_of
returns c = rw (to_z-of_z c.ranges.from) at c.value_symbol.ensures
