-- The name as a symbol.
use Rattle.key_symbols.specs.Keyed.{symbol_of}
use Rattle.key_symbols.specs.Bounded.{key_fits}
use Rattle.key_symbols.proofs.parameter_key.Goals as goal

pub returns : goal.returns
unfolding symbol_of key_fits
returns c = c.name_symbol.ensures
