-- The first keys, and then the second naming and the group.
use Rattle.kept.proofs.IdLaws.{spacious_on, row-entered, first_few, fits_two, fits_group}
use Rattle.kept.proofs.interning.intern_row.Goals as goal

pub intern_first-ids-requires : goal.intern_first-ids-requires
intern_first-ids-requires c = record { table = c.requires.table; spacious = c.requires.spacious; keys_bound = first_few _ c.args.keys c.requires.keys_bound }

pub intern_named-two-requires : goal.intern_named-two-requires
intern_named-two-requires c = record { table = c.intern_first-ids.ensures.grown.table; spacious = spacious_on c.requires.spacious c.intern_first-ids.ensures.grown; fits = fits_two c.requires.keys_bound c.intern_first-ids.ensures }

pub intern_slot-group-requires : goal.intern_slot-group-requires
intern_slot-group-requires c = record { table = c.intern_named-two.ensures.grown.table; spacious = spacious_on (spacious_on c.requires.spacious c.intern_first-ids.ensures.grown) c.intern_named-two.ensures.grown; fits = fits_group c.requires.keys_bound c.intern_first-ids.ensures c.intern_named-two.ensures }

pub returns : goal.returns
returns c = row-entered _ _ _ _ _ _ _ _ _ c.args.keys _ _ _ c.intern_first-ids.ensures c.intern_named-two.ensures c.intern_slot-group.ensures
