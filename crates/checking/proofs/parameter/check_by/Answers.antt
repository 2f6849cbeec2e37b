-- The manner that was gathered, and the occurrences checked by it.
use mathlib.Core.Path.{sym, ◌∙◌}
use lib.IntN.{pos}
use lib.ListN.{length-replicate}
use Rattle.checking.proofs.ParameterLaws.{manner_checked}
use Rattle.checking.proofs.parameter.check_by.Goals as goal

pub manner_of-manner-requires : goal.manner_of-manner-requires
manner_of-manner-requires c = (length-replicate 1024 (pos 0), length-replicate 1024 (pos 0))

pub slice_bounds-check_occurrences-end : goal.slice_bounds-check_occurrences-end
slice_bounds-check_occurrences-end c = sym c.manner_of-manner.ensures.long.0

pub slice_bounds-check_occurrences-end-2 : goal.slice_bounds-check_occurrences-end-2
slice_bounds-check_occurrences-end-2 c = sym c.manner_of-manner.ensures.long.1

pub returns : goal.returns
returns c = c.check_occurrences.ensures _ c.location_at-plf.ensures ∙ manner_checked _ _ _ _ _ _ _ _ c.pcf_at-pcf.ensures c.manner_of-manner.ensures
