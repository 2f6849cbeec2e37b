-- Three keys, one after the other.
use Rattle.kept.proofs.IdLaws.{spacious_on, first_entered, fits_first, fits_second, fits_one}
use Rattle.kept.proofs.interning.intern_first.Goals as goal

pub intern_slot-first-requires : goal.intern_slot-first-requires
intern_slot-first-requires c = record { table = c.requires.table; spacious = c.requires.spacious; fits = fits_first _ c.args.keys c.requires.keys_bound _ }

pub intern_slot-second-requires : goal.intern_slot-second-requires
intern_slot-second-requires c = record { table = c.intern_slot-first.ensures.grown.table; spacious = spacious_on c.requires.spacious c.intern_slot-first.ensures.grown; fits = fits_second _ c.args.keys c.requires.keys_bound c.intern_slot-first.ensures }

pub intern_named-one-requires : goal.intern_named-one-requires
intern_named-one-requires c = record { table = c.intern_slot-second.ensures.grown.table; spacious = spacious_on (spacious_on c.requires.spacious c.intern_slot-first.ensures.grown) c.intern_slot-second.ensures.grown; fits = fits_one _ c.args.keys c.requires.keys_bound c.intern_slot-first.ensures c.intern_slot-second.ensures }

pub returns : goal.returns
returns c = first_entered _ _ _ _ _ _ _ _ _ c.args.keys _ _ _ c.intern_slot-first.ensures c.intern_slot-second.ensures c.intern_named-one.ensures
