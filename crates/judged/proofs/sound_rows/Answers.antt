-- What each pass leaves is what the next ones read.
use Rattle.judged.proofs.PassLaws.{formed_is, sound_by_lem}
use Rattle.judged.proofs.sound_rows.Goals as goal

pub returns : goal.returns
returns c = let formed = formed_is c.args.halves.now c.args.n _ _ c.half_column.ensures c.mark_formed.ensures in
    sound_by_lem c.args.halves.now c.args.n _ _ _ formed c.half_column-key1.ensures c.half_column-key2.ensures
    c.args.sound.now _ _ _ c.count_ids.ensures
    c.count_ids-2.ensures c.mark_sound.ensures
